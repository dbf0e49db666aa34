-- What is known of the gaps of a list, or of its sizes less one, a `MinHint`: the one that it points at is the earliest of the smallest ones, and it
-- stays true when that one goes and another comes behind. So it does in the outer list when the last range goes on and when two ranges join at that
-- place, and in the inner list when the range there is dropped. Assumes nothing.
use Prim.Native.Nat.{ℕ, zero, suc, ◌+◌, ◌*◌, ◌-◌, ◌≤◌, ◌<◌}
use mathlib.Core.Path.{◌≡◌, refl, sym, ap, ap₂, subst, ◌∙◌}
use mathlib.Core.Bool.{true}
use mathlib.Core.List.{List, [], ◌∷◌, ◌++◌, map-append}
use native.Mathlib.Omega.{arith}
use lib.Dec.{eqb, ltb}
use lib.ListN.{length, get_or, length-map}
use borrow.Author.Tests.{ltb-true, ltb-false, eqb-true, eqb-false}
use Rattle.algebra.proofs.Tests.{split}
use Rattle.ranges_stored.specs.declared.MinHint.{MinHint}
use Rattle.ranges.specs.declared.Range.{Range}
use Rattle.ranges.specs.Ranges.{ranges_in}
use Rattle.ranges.specs.Lists.{smallest, place, earliest, gaps, join_at, size, without}
use Rattle.ranges.proofs.Pushing.{below, extend, new_gap, outer_full, inner_full}
use Rattle.std.specs.Prelude.{Option, Some, None, MatchOption, ◌≢◌}
use Rattle.ranges_stored.specs.Stored.{difference, differences, differences_in, Writes, hint_of, no_hint, Hinted, FirstAt, PointsAt}
use Rattle.ranges.proofs.Earliest.{below_cons, cons_below, place_here, place_later, earliest_inside, earliest_snoc, earliest_more, below_more}
use Rattle.ranges.proofs.OuterPass.{length_gaps, length_join_at, gaps_snoc, gaps_extend, gaps_join_at, last_high_join_at, full_join}
use Rattle.ranges.proofs.InnerPass.{map_without, full_stays, full_drops}
use Rattle.ranges_stored.proofs.StoredLaws.{in_written}
use Rattle.ranges_stored.proofs.SearchLaws.{difference_at, length_differences, Best}

-- ---- the smallest of some numbers, by their places

below_at : (g : ℕ) (l : List ℕ) (i : ℕ) → below g l ≡ true → i < length l → g < get_or l i 0
below_at g [] i e h = absurd (omega arith)
below_at g (x ∷ l) zero e h = (below_cons g x l e).0
below_at g (x ∷ l) (suc i) e h = below_at g l i (below_cons g x l e).1 (omega arith)

at_below : (g : ℕ) (l : List ℕ) → ((i : ℕ) → i < length l → g < get_or l i 0) → below g l ≡ true
at_below g [] f = unfold below in refl
at_below g (x ∷ l) f = cons_below g x l (f 0 (omega arith)) (at_below g l (λ i h. f (suc i) (omega arith)))

smallest_le : (x : ℕ) (l : List ℕ) (i : ℕ) → i < length (x ∷ l) → smallest (x ∷ l) ≤ get_or (x ∷ l) i 0
unfolding smallest
smallest_le x [] zero h = omega arith
smallest_le x [] (suc i) h = absurd (omega arith)
smallest_le x (y ∷ l) zero h = omega arith
smallest_le x (y ∷ l) (suc i) h = omega (arith, smallest_le y l i (omega arith))

place_found : (m : ℕ) (l : List ℕ) → place m l < length l → get_or l (place m l) 0 ≡ m
unfolding place
place_found m [] h = absurd (omega arith)
place_found m (x ∷ l) h =
    split (eqb m x)
    (λ t. rw t (sym (eqb-true m x t)))
    (λ t. rw t (place_found m l (omega (arith, place_later m x l (eqb-false m x t)))))

place_first : (m : ℕ) (l : List ℕ) (i : ℕ) → i < place m l → i < length l → get_or l i 0 ≡ m → ⊥
place_first m [] i h k e = omega arith
place_first m (x ∷ l) zero h k e = omega (arith, place_here m x l (sym e))
place_first m (x ∷ l) (suc i) h k e =
    split (eqb m x)
    (λ t. omega (arith, place_here m x l (eqb-true m x t)))
    (λ t. place_first m l i (omega (arith, place_later m x l (eqb-false m x t))) (omega arith) e)

-- with a new number at the end, which is not below one of them
earliest_keeps : (l : List ℕ) (g i : ℕ) → i < length l → get_or l i 0 ≤ g → earliest (l ++ g ∷ []) ≡ earliest l
earliest_keeps l g i h k = split (below g l) (λ t. absurd (omega (arith, below_at g l i t h))) (λ t. earliest_snoc l g ∙ rw t)

-- ---- no hint

hinted_none : (gs : List ℕ) → Hinted no_hint gs
hinted_none gs = record { at_least = λ i h. omega arith; before = λ i b h. absurd (omega arith) }

pub hinted_any : {h : MinHint} → h ≡ no_hint → (gs : List ℕ) → Hinted h gs
hinted_any e gs = subst (λ h. Hinted h gs) (sym e) (hinted_none gs)

-- ---- the place that a hint points at

module _ (x : ℕ) (l : List ℕ) where
  abbrev e : ℕ
  e = earliest (x ∷ l)

  abbrev m : ℕ
  m = smallest (x ∷ l)

  e_inside : e < length (x ∷ l)
  e_inside = earliest_inside (x ∷ l) (omega arith)

  e_is : get_or (x ∷ l) e 0 ≡ m
  unfolding earliest
  e_is = place_found m (x ∷ l) e_inside

  e_first : (i : ℕ) → i < e → i < length (x ∷ l) → m < get_or (x ∷ l) i 0
  unfolding earliest
  e_first i h k =
      split (eqb (get_or (x ∷ l) i 0) m)
      (λ t. absurd (place_first m (x ∷ l) i h k (eqb-true (get_or (x ∷ l) i 0) m t)))
      (λ t. let n = eqb-false (get_or (x ∷ l) i 0) m t in omega (arith, smallest_le x l i k))

-- there is one place only: the earliest of the smallest
points_earliest : (h : MinHint) (l : List ℕ) → PointsAt h l → h.from ≡ earliest l
points_earliest h [] p = absurd (omega (arith, p.inside))
points_earliest h (x ∷ l) p =
    let a : h.floor ≤ get_or (x ∷ l) (e x l) 0 = p.hinted.at_least (e x l) (e_inside x l) in
    let b : smallest (x ∷ l) ≤ get_or (x ∷ l) h.from 0 = smallest_le x l h.from p.inside in
    let s : smallest (x ∷ l) ≡ h.floor = omega (arith, e_is x l, p.is) in
    split (ltb h.from (e x l))
    (λ t. absurd (omega (arith, e_first x l h.from (ltb-true h.from (e x l) t) p.inside, p.is)))
    (λ t. split (ltb (e x l) h.from)
    (λ u. absurd (omega (arith, p.hinted.before (e x l) (ltb-true (e x l) h.from u) (e_inside x l), e_is x l)))
    (λ u. omega (arith, ltb-false h.from (e x l) t, ltb-false (e x l) h.from u)))

-- also with a new number at the end, which is not below it
points_snoc : (h : MinHint) (l : List ℕ) (g : ℕ) → PointsAt h l → h.floor ≤ g → h.from ≡ earliest (l ++ g ∷ [])
points_snoc h l g p k = points_earliest h l p ∙ sym (earliest_keeps l g h.from p.inside (omega (arith, p.is)))

-- ---- one number goes, and one comes behind

snoc_least : (l : List ℕ) (g v : ℕ) → ((i : ℕ) → i < length l → v ≤ get_or l i 0) → v ≤ g → (i : ℕ) → i < length (l ++ g ∷ []) → v ≤ get_or (l ++ g ∷ []) i 0
snoc_least [] g v f h zero k = h
snoc_least [] g v f h (suc i) k = absurd (omega arith)
snoc_least (x ∷ l) g v f h zero k = f 0 (omega arith)
snoc_least (x ∷ l) g v f h (suc i) k = snoc_least l g v (λ j b. f (suc j) (omega arith)) h i (omega arith)

next_least : (q : ℕ) (l : List ℕ) (g v : ℕ) → ((i : ℕ) → i < length l → v ≤ get_or l i 0) → v ≤ g
    → (i : ℕ) → i < length (without q l ++ g ∷ []) → v ≤ get_or (without q l ++ g ∷ []) i 0
unfolding without
next_least q [] g v f h i k = snoc_least [] g v f h i k
next_least zero (x ∷ l) g v f h i k = snoc_least l g v (λ j b. f (suc j) (omega arith)) h i k
next_least (suc q) (x ∷ l) g v f h zero k = f 0 (omega arith)
next_least (suc q) (x ∷ l) g v f h (suc i) k = next_least q l g v (λ j b. f (suc j) (omega arith)) h i (omega arith)

next_before : (q : ℕ) (l : List ℕ) (g v : ℕ) → q < length l → ((i : ℕ) → i < q → i < length l → v < get_or l i 0) → (i : ℕ) → i < q → v < get_or (without q l ++ g ∷ []) i 0
unfolding without
next_before q [] g v s f i k = absurd (omega arith)
next_before zero (x ∷ l) g v s f i k = absurd (omega arith)
next_before (suc q) (x ∷ l) g v s f zero k = f 0 (omega arith) (omega arith)
next_before (suc q) (x ∷ l) g v s f (suc i) k = next_before q l g v (omega arith) (λ j b c. f (suc j) (omega arith) (omega arith)) i (omega arith)

hinted_next : (h : MinHint) (l : List ℕ) (g : ℕ) → PointsAt h l → h.floor ≤ g → Hinted h (without h.from l ++ g ∷ [])
hinted_next h l g p k = record {
  at_least = next_least h.from l g h.floor p.hinted.at_least k;
  before = λ i b c. next_before h.from l g h.floor p.inside p.hinted.before i b;
}

-- ---- the outer list

pub hinted_extend : (h : MinHint) (xs : List Range) (r : Range) → Hinted h (gaps xs) → Hinted h (gaps (extend xs r))
hinted_extend h xs r p = subst (Hinted h) (sym (gaps_extend xs r)) p

some_gaps : (xs : List Range) (r : Range) → 0 < length xs → gaps (xs ++ r ∷ []) ≡ gaps xs ++ new_gap xs r ∷ []
some_gaps [] r h = absurd (omega arith)
some_gaps (a ∷ xs) r h = gaps_snoc a xs r

pub outer_below : (xs : List Range) (r : Range) → ((i : ℕ) → i < length (gaps xs) → new_gap xs r < get_or (gaps xs) i 0) → outer_full xs r ≡ extend xs r
unfolding outer_full
outer_below xs r f = rw (at_below (new_gap xs r) (gaps xs) f)

module _ (h : MinHint) (xs : List Range) (r : Range) (p : PointsAt h (gaps xs)) (far : h.floor ≤ new_gap xs r) where
  inner : (ys : List Range) → h.from < length (gaps ys) → h.from + 1 < length ys
  unfolding gaps
  inner [] k = absurd (omega arith)
  inner (a ∷ ys) k = omega (arith, length_gaps a ys)

  pub outer_points : outer_full xs r ≡ join_at h.from xs ++ r ∷ []
  outer_points = full_join xs r h.from (points_snoc h (gaps xs) (new_gap xs r) p far) (inner xs p.inside)

  joined_gaps : (ys : List Range) → h.from + 1 < length ys → gaps (join_at h.from ys ++ r ∷ []) ≡ without h.from (gaps ys) ++ new_gap ys r ∷ []
  joined_gaps [] k = absurd (omega arith)
  joined_gaps (a ∷ ys) k =
      some_gaps (join_at h.from (a ∷ ys)) r (omega (arith, length_join_at h.from a ys (omega arith)))
      ∙ ap₂ (λ gs u. gs ++ (r.low - u - 1) ∷ []) (gaps_join_at h.from a ys (omega arith)) (last_high_join_at h.from (a ∷ ys))

  pub hinted_join : Hinted h (gaps (join_at h.from xs ++ r ∷ []))
  hinted_join = subst (Hinted h) (sym (joined_gaps xs (inner xs p.inside))) (hinted_next h (gaps xs) (new_gap xs r) p far)

-- ---- the inner list, whose sizes are one more than what is searched

abbrev span : Range → ℕ
span r = difference 0 r

abbrev spans : List Range → List ℕ
spans xs = differences 0 xs

one_more : (r : Range) → size r ≡ span r + 1
one_more r = omega arith

pub inner_below : (xs : List Range) (r : Range) → ((i : ℕ) → i < length (spans xs) → span r < get_or (spans xs) i 0) → inner_full xs r ≡ xs
inner_below xs r f = full_stays xs r (below_more span size one_more r xs ∙ at_below (span r) (spans xs) f)

module _ (h : MinHint) (xs : List Range) (r : Range) (p : PointsAt h (spans xs)) (long : h.floor ≤ span r) where
  pub inner_points : inner_full xs r ≡ without h.from xs ++ r ∷ []
  inner_points =
      full_drops xs r h.from (points_snoc h (spans xs) (span r) p long ∙ sym (earliest_more span size one_more (xs ++ r ∷ []) ∙ ap earliest (map-append span xs (r ∷ []))))
      (omega (arith, length-map xs span, p.inside))

  pub hinted_drop : Hinted h (spans (without h.from xs ++ r ∷ []))
  hinted_drop =
      subst (Hinted h) (sym (map-append span (without h.from xs) (r ∷ []) ∙ ap (λ ss. ss ++ span r ∷ []) (map_without span h.from xs)))
      (hinted_next h (spans xs) (span r) p long)

-- ---- in lent memory

pub hinted_stored : (h : MinHint) (f : List Range → List ℕ) (xs : List Range) (l m : List ℕ) (n : ℕ) → Writes xs l m n → Hinted h (f xs) → Hinted h (f (ranges_in n m))
hinted_stored h f xs l m n w p = subst (λ ys. Hinted h (f ys)) (sym (ap₂ ranges_in w.count w.list ∙ in_written xs l)) p

pub points_inside : (start less n : ℕ) (l : List ℕ) {h : MinHint} → PointsAt h (differences_in start less n l) → h.from < n
points_inside start less n l p = omega (arith, length_differences start less n l, p.inside)

module _ (start less n : ℕ) (l : List ℕ) (fits : start + 2 * n ≤ length l) where
  abbrev gs : List ℕ
  gs = differences_in start less n l

  many : length gs ≡ n
  many = length_differences start less n l

  -- what is read of pair number i
  abbrev pub read : ℕ → ℕ
  read i = get_or l (start + 2 * i + 1) 0 - get_or l (start + 2 * i) 0 - less

  -- the search for the floor, from number `from` on: those before m are above it, if none of those searched is the floor
  above : (floor from m : ℕ) → Hinted (hint_of from floor) gs → m ≤ n → ((k : ℕ) → from ≤ k → k < m → read k ≢ floor) → (j : ℕ) → j < m → j < length gs → floor < get_or gs j 0
  above floor from m p h f j b c =
      split (ltb j from)
      (λ u. p.before j (ltb-true j from u) c)
      (λ u. apart (λ q. f j (ltb-false j from u) b (difference_at start less n l j (omega arith) fits ∙ q)) (p.at_least j c))
    where
      apart : {a b : ℕ} → b ≢ a → a ≤ b → a < b
      apart n h = omega arith

  pub first_found : (floor from : ℕ) (r : Option ℕ) → Hinted (hint_of from floor) gs
      → MatchOption r ((k : ℕ) → from ≤ k → k < n → read k ≢ floor) (λ i. (from ≤ i) × (i < n) × (read i ≡ floor) × ((k : ℕ) → from ≤ k → k < i → read k ≢ floor)) → FirstAt floor r gs
  first_found floor from None p f = record { at_least = p.at_least; before = λ j b c. above floor from n p (omega arith) f j (omega (arith, many)) c }
  first_found floor from (Some i) p (low, high, is, f) = record {
    hinted = record { at_least = p.at_least; before = above floor from i p (omega arith) f };
    inside = omega (arith, many);
    is = sym (difference_at start less n l i high fits) ∙ is;
  }

  -- the search for the smallest
  pub best_points : (i floor : ℕ) → Best read n i → floor ≡ read i → PointsAt (hint_of i floor) gs
  best_points i floor b e =
      let at : (k : ℕ) → k < n → read k ≡ get_or gs k 0 = λ k h. difference_at start less n l k h fits in
      record {
        hinted = record {
          at_least = λ k h. omega (arith, many, b.at_least k (omega (arith, many)), at k (omega (arith, many)), e);
          before = λ k h c. omega (arith, b.before k h, at k (omega (arith, many)), e);
        };
        inside = omega (arith, many, b.inside);
        is = sym (at i b.inside) ∙ sym e;
      }
