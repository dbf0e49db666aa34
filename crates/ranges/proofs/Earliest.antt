-- The smallest of some numbers and its place: it is there, and a new number at the end changes it only where that is smaller. Assumes nothing.
use Prim.Native.Nat.{ℕ, zero, suc, ◌+◌, ◌≤◌, ◌<◌, min}
use mathlib.Core.Path.{◌≡◌, refl, ap, ◌∙◌}
use mathlib.Core.Bool.{true, false, cond, true≢false}
use mathlib.Core.List.{List, [], ◌∷◌, ◌++◌, map}
use native.Mathlib.Omega.{arith}
use lib.Dec.{ltb, eqb}
use lib.ListN.{length}
use borrow.Author.Tests.{ltb-true, ltb-false, lt-ltb, le-ltb, eqb-true, eqb-false, eq-eqb, ne_eqb}
use Rattle.algebra.proofs.Tests.{split, and_left, and_right}
use Rattle.ranges.specs.declared.Range.{Range}
use Rattle.ranges.specs.Lists.{smallest, place, earliest, without}
use Rattle.ranges.proofs.Pushing.{below}

pub below_cons : (g x : ℕ) (l : List ℕ) → below g (x ∷ l) ≡ true → (g < x) × (below g l ≡ true)
unfolding below
below_cons g x l e = (ltb-true g x (and_left (ltb g x) (below g l) e), and_right (ltb g x) (below g l) e)

pub cons_below : (g x : ℕ) (l : List ℕ) → g < x → below g l ≡ true → below g (x ∷ l) ≡ true
unfolding below
cons_below g x l h e = rw (lt-ltb g x h, e)

pub below_without : (g i : ℕ) (l : List ℕ) → below g l ≡ true → below g (without i l) ≡ true
unfolding without
below_without g i [] e = e
below_without g zero (x ∷ l) e = (below_cons g x l e).1
below_without g (suc i) (x ∷ l) e = let h = below_cons g x l e in cons_below g x (without i l) h.0 (below_without g i l h.1)

below_false : (g : ℕ) (l : List ℕ) → below g l ≡ false → smallest l ≤ g
unfolding below smallest
below_false g [] e = let z : ◌≡◌ {A = ℕ} 0 1 = cc in omega arith
below_false g (x ∷ []) e = split (ltb g x) (λ t. absurd (true≢false (rw t at e))) (λ t. ltb-false g x t)
below_false g (x ∷ y ∷ l) e =
    split (ltb g x)
    (λ t. let h = below_false g (y ∷ l) (rw t at e) in omega arith)
    (λ t. let h = ltb-false g x t in omega arith)

smallest_snoc : (x : ℕ) (l : List ℕ) (g : ℕ) → smallest (x ∷ l ++ g ∷ []) ≡ min (smallest (x ∷ l)) g
unfolding smallest
smallest_snoc x [] g = refl
smallest_snoc x (y ∷ l) g = let h = smallest_snoc y l g in omega arith

pub place_here : (x y : ℕ) (l : List ℕ) → x ≡ y → place x (y ∷ l) ≡ 0
unfolding place
place_here x y l e = rw (eq-eqb x y e)

pub place_later : (x y : ℕ) (l : List ℕ) → (x ≡ y → ⊥) → place x (y ∷ l) ≡ suc (place x l)
unfolding place
place_later x y l e = rw (ne_eqb x y e)

-- ---- the smallest one is there

min_other : (x m : ℕ) → (min x m ≡ x → ⊥) → min x m ≡ m
min_other x m n = omega arith

place_smallest : (x : ℕ) (l : List ℕ) → place (smallest (x ∷ l)) (x ∷ l) < length (x ∷ l)
unfolding smallest
place_smallest x [] = omega (arith, place_here x x [] refl)
place_smallest x (y ∷ l) =
    let m : ℕ = smallest (y ∷ l) in
    split (eqb (min x m) x)
    (λ t. omega (arith, place_here (min x m) x (y ∷ l) (eqb-true (min x m) x t)))
    (λ t.
    let n = eqb-false (min x m) x t in
    let e : min x m ≡ m = min_other x m n in
    rw (place_later (min x m) x (y ∷ l) n, e) (omega (arith, place_smallest y l)))

pub earliest_inside : (l : List ℕ) → 0 < length l → earliest l < length l
unfolding earliest
earliest_inside [] h = absurd (omega arith)
earliest_inside (x ∷ l) h = place_smallest x l

-- ---- a new number at the end

place_snoc : (m : ℕ) (l : List ℕ) (g : ℕ) → place m l < length l → place m (l ++ g ∷ []) ≡ place m l
unfolding place
place_snoc m [] g h = absurd (omega arith)
place_snoc m (x ∷ l) g h = split (eqb m x) (λ t. rw t) (λ t. rw t (ap suc (place_snoc m l g (omega (arith, place_later m x l (eqb-false m x t))))))

place_new : (l : List ℕ) (g : ℕ) → below g l ≡ true → place g (l ++ g ∷ []) ≡ length l
place_new [] g e = place_here g g [] refl
place_new (x ∷ l) g e =
    let h = below_cons g x l e in
    place_later g x (l ++ g ∷ []) (λ q. omega (arith, h.0)) ∙ ap suc (place_new l g h.1)

below_true : (g x : ℕ) (l : List ℕ) → below g (x ∷ l) ≡ true → g < smallest (x ∷ l)
unfolding smallest
below_true g x [] e = (below_cons g x [] e).0
below_true g x (y ∷ l) e = let h = below_cons g x (y ∷ l) e in omega (arith, h.0, below_true g y l h.1)

min_right : {m g : ℕ} → g < m → min m g ≡ g
min_right h = omega arith

min_left : {m g : ℕ} → m ≤ g → min m g ≡ m
min_left h = omega arith

pub earliest_snoc : (l : List ℕ) (g : ℕ) → earliest (l ++ g ∷ []) ≡ cond (below g l) (length l) (earliest l)
unfolding earliest below
earliest_snoc [] g = unfold smallest in place_here g g [] refl
earliest_snoc (x ∷ l) g =
    split (below g (x ∷ l))
    (λ t. rw t (at (min_right (below_true g x l t)) ∙ place_new (x ∷ l) g t))
    (λ t. rw t (at (min_left (below_false g (x ∷ l) t)) ∙ place_snoc (smallest (x ∷ l)) (x ∷ l) g (place_smallest x l)))
  where
    at : {m : ℕ} → min (smallest (x ∷ l)) g ≡ m → earliest (x ∷ l ++ g ∷ []) ≡ place m (x ∷ l ++ g ∷ [])
    at e = ap (λ m. place m (x ∷ l ++ g ∷ [])) (smallest_snoc x l g ∙ e)

-- ---- the smallest, number by number from the end

pub smallest_one : (x : ℕ) → smallest (x ∷ []) ≡ x
unfolding smallest
smallest_one x = refl

pub smallest_cons : (x y : ℕ) (l : List ℕ) → smallest (x ∷ y ∷ l) ≡ min x (smallest (y ∷ l))
unfolding smallest
smallest_cons x y l = refl

pub earliest_one : (x : ℕ) → earliest (x ∷ []) ≡ 0
unfolding earliest smallest
earliest_one x = place_here x x [] refl

pub earliest_here : (x y : ℕ) (l : List ℕ) → x ≤ smallest (y ∷ l) → earliest (x ∷ y ∷ l) ≡ 0
unfolding earliest
earliest_here x y l h = at (smallest (y ∷ l)) h (smallest_cons x y l)
  where
    at : (m : ℕ) → x ≤ m → smallest (x ∷ y ∷ l) ≡ min x m → place (smallest (x ∷ y ∷ l)) (x ∷ y ∷ l) ≡ 0
    at m h e = place_here (smallest (x ∷ y ∷ l)) x (y ∷ l) (omega arith)

pub earliest_later : (x y : ℕ) (l : List ℕ) → smallest (y ∷ l) < x → earliest (x ∷ y ∷ l) ≡ suc (earliest (y ∷ l))
unfolding earliest
earliest_later x y l h = at (smallest_cons x y l)
  where
    at : smallest (x ∷ y ∷ l) ≡ min x (smallest (y ∷ l)) → place (smallest (x ∷ y ∷ l)) (x ∷ y ∷ l) ≡ suc (place (smallest (y ∷ l)) (y ∷ l))
    at e =
        let q : smallest (x ∷ y ∷ l) ≡ smallest (y ∷ l) = omega arith in
        place_later (smallest (x ∷ y ∷ l)) x (y ∷ l) (λ z. omega arith) ∙ ap (λ m. suc (place m (y ∷ l))) q

-- ---- every number one more: the place of the smallest is the same

module _ (f g : Range → ℕ) (more : (a : Range) → g a ≡ f a + 1) where
  smallest_more : (a : Range) (xs : List Range) → smallest (map g (a ∷ xs)) ≡ smallest (map f (a ∷ xs)) + 1
  unfolding smallest
  smallest_more a [] = more a
  smallest_more a (b ∷ xs) = omega (arith, more a, smallest_more b xs)

  place_more : (m : ℕ) (xs : List Range) → place (m + 1) (map g xs) ≡ place m (map f xs)
  unfolding place
  place_more m [] = refl
  place_more m (a ∷ xs) =
      let e = more a in
      split (eqb m (f a))
      (λ t. rw (t, eq-eqb (m + 1) (g a) (omega (arith, eqb-true m (f a) t))))
      (λ t. rw (t, ne_eqb (m + 1) (g a) (λ q. eqb-false m (f a) t (omega arith))) (ap suc (place_more m xs)))

  pub earliest_more : (xs : List Range) → earliest (map g xs) ≡ earliest (map f xs)
  unfolding earliest
  earliest_more [] = refl
  earliest_more (a ∷ xs) = ap (λ m. place m (map g (a ∷ xs))) (smallest_more a xs) ∙ place_more (smallest (map f (a ∷ xs))) (a ∷ xs)

  pub below_more : (r : Range) (xs : List Range) → below (g r) (map g xs) ≡ below (f r) (map f xs)
  unfolding below
  below_more r [] = refl
  below_more r (a ∷ xs) =
      let e = more a in
      let d = more r in
      split (ltb (f r) (f a))
      (λ t. rw (t, lt-ltb (g r) (g a) (omega (arith, ltb-true (f r) (f a) t))) (below_more r xs))
      (λ t. rw (t, le-ltb (g r) (g a) (omega (arith, ltb-false (f r) (f a) t))))
