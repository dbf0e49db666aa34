-- Differences of a lent list: read one element later, they are the gaps. And the search for the smallest of some numbers, from the first to the last: `Best`
-- says what is known of those that were read, and one turn of the search keeps it. Assumes nothing.
use Prim.Native.Nat.{ℕ, zero, suc, ◌+◌, ◌*◌, ◌-◌, ◌≤◌, ◌<◌}
use mathlib.Core.Path.{◌≡◌, refl, sym, ap, ap₂, subst, ◌∙◌}
use mathlib.Core.List.{List, [], ◌∷◌}
use native.Mathlib.Omega.{arith}
use lib.Dec.{eqb, ltb}
use lib.ListN.{length, get_or, drop, length-drop, length-map}
use borrow.Author.Tests.{ltb-true, ltb-false, eqb-true, eqb-false}
use denote.Param.Members.{Mut}
use denote.Ref.{Bor}
use Rattle.std.specs.Prelude.{Option, Some, None}
use Rattle.std.specs.Option.{unwrap_or}
use Rattle.std.specs.Ordering.{nat_cmp, min_by_ordering}
use Rattle.std.specs.Fn.{CalledAt}
use Rattle.std.specs.List.{FoldsTo, range_with_len}
use Rattle.std.specs.Iterator.{Drains, KeyTurn, PicksMinByKey}
use Rattle.std.proofs.lemmas.List.{map-id}
use Rattle.std.proofs.lemmas.Iterator.{YieldsList-from_range, items_from_drains}
use Rattle.std.proofs.iter.Yields.{nat_range_steps}
use Rattle.std.specs.declared.ops.Range.{Range}
use Rattle.algebra.proofs.Tests.{split}
use lib.Seq.{get_or-drop}
use Rattle.ranges.specs.Lists.{gaps}
use Rattle.ranges.specs.Ranges.{ranges_in}
use Rattle.ranges_stored.specs.Stored.{difference, differences, differences_in}
use Rattle.ranges_stored.proofs.StoredLaws.{double, double_is, length_in}

difference_in : (less n : ℕ) (l : List ℕ) (i : ℕ) → i < n → 2 * n ≤ length l
    → get_or (differences less (ranges_in n l)) i 0 ≡ get_or l (suc (double i)) 0 - get_or l (double i) 0 - less
unfolding ranges_in double
difference_in less zero l i h k = absurd (omega arith)
difference_in less (suc n) [] i h k = absurd (omega arith)
difference_in less (suc n) (x ∷ []) i h k = absurd (omega arith)
difference_in less (suc n) (x ∷ y ∷ l) zero h k = refl
difference_in less (suc n) (x ∷ y ∷ l) (suc i) h k = difference_in less n l i (omega arith) (omega arith)

pub difference_at : (start less n : ℕ) (l : List ℕ) (i : ℕ) → i < n → start + 2 * n ≤ length l
    → get_or l (start + 2 * i + 1) 0 - get_or l (start + 2 * i) 0 - less ≡ get_or (differences_in start less n l) i 0
difference_at start less n l i h k =
    let p : start + suc (double i) ≡ start + 2 * i + 1 = omega (arith, double_is i) in
    let q : start + double i ≡ start + 2 * i = omega (arith, double_is i) in
    sym (difference_in less n (drop start l) i h (omega (arith, length-drop start l))
    ∙ ap₂ (λ a b. a - b - less) (get_or-drop start l (suc (double i)) 0 ∙ ap (λ k. get_or l k 0) p) (get_or-drop start l (double i) 0 ∙ ap (λ k. get_or l k 0) q))

pub length_differences : (start less n : ℕ) (l : List ℕ) → length (differences_in start less n l) ≡ n
length_differences start less n l = length-map (ranges_in n (drop start l)) (difference less) ∙ length_in n (drop start l)

-- a gap is the difference, less 1, of the end of a range and the start of the next
gaps_in : (n : ℕ) (l : List ℕ) → 2 * n + 2 ≤ length l → gaps (ranges_in (suc n) l) ≡ differences_in 1 1 n l
unfolding ranges_in gaps
gaps_in n [] h = absurd (omega arith)
gaps_in n (x ∷ []) h = absurd (omega arith)
gaps_in zero (x ∷ y ∷ l) h = refl
gaps_in (suc n) (x ∷ y ∷ []) h = absurd (omega arith)
gaps_in (suc n) (x ∷ y ∷ z ∷ []) h = absurd (omega arith)
gaps_in (suc n) (x ∷ y ∷ z ∷ w ∷ l) h = ap (λ m. (z - y - 1) ∷ m) (gaps_in n (z ∷ w ∷ l) (omega arith))

pub gaps_stored : (n : ℕ) (l : List ℕ) → 1 ≤ n → 2 * n ≤ length l → gaps (ranges_in n l) ≡ differences_in 1 1 (n - 1) l
gaps_stored zero l h k = absurd (omega arith)
gaps_stored (suc n) l h k = let q : n ≡ suc n - 1 = omega arith in gaps_in n l (omega arith) ∙ ap (λ m. differences_in 1 1 m l) q

-- ---- the search for the smallest of the numbers that are read, the earliest among equals

-- of the first j numbers, that of place i is it
pub record Best (read : ℕ → ℕ) (j i : ℕ) : Type 0 where
  pub inside : i < j
  pub at_least : (k : ℕ) → k < j → read i ≤ read k
  pub before : (k : ℕ) → k < i → read i < read k

module _ (read : ℕ → ℕ) where
  first_best : Best read 1 0
  first_best = record { inside = omega arith; at_least = λ k h. let e : k ≡ 0 = omega arith in omega (arith, ap read e); before = λ k h. absurd (omega arith) }

  module _ (j i v w : ℕ) (b : Best read j i) (e : v ≡ read i) (f : w ≡ read j) where
    stays : v ≤ w → Best read (j + 1) i × (v ≡ read i)
    stays h = (
      record {
        inside = omega (arith, b.inside);
        at_least = λ k c. split (ltb k j)
            (λ t. b.at_least k (ltb-true k j t))
            (λ t. let s : k ≡ j = omega (arith, ltb-false k j t) in omega (arith, ap read s));
        before = b.before;
      },
      e,
    )

    taken : w < v → Best read (j + 1) j × (w ≡ read j)
    taken h = (
      record {
        inside = omega arith;
        at_least = λ k c. split (ltb k j)
            (λ t. omega (arith, b.at_least k (ltb-true k j t)))
            (λ t. let s : k ≡ j = omega (arith, ltb-false k j t) in omega (arith, ap read s));
        before = λ k c. omega (arith, b.at_least k c);
      },
      f,
    )

    best_more : Best read (j + 1) (min_by_ordering (nat_cmp v w) i j) × (min_by_ordering (nat_cmp v w) v w ≡ read (min_by_ordering (nat_cmp v w) i j))
    best_more =
        split (ltb v w)
        (λ t. rw t (stays (omega (arith, ltb-true v w t))))
        (λ t. rw t (split (eqb v w)
        (λ u. rw u (stays (omega (arith, eqb-true v w u))))
        (λ u. rw u (taken (omega (arith, ltb-false v w t, eqb-false v w u))))))

  module _ {F : Type 0} {g : Mut F (Bor ℕ × Unit {0}) ℕ} (f : F) (call : (x k : ℕ) (q : F) → CalledAt g f x k q → (q ≡ f) × (k ≡ read x)) where
    turns : (m j i v : ℕ) (p : F) → p ≡ f → Best read j i → v ≡ read i → (q : F × ℕ) (y : ℕ)
        → FoldsTo {P = (F × ℕ) × ℕ} (KeyTurn min_by_ordering min_by_ordering g nat_cmp) ((p, v), i) (range_with_len j m) (q, y) → Best read (j + m) y
    turns zero j i v p s b e q y t = let u : j ≡ j + 0 = omega arith in subst (λ k. Best read k y) u (subst (Best read j) (ap (λ z. z.1) t) b)
    turns (suc m) j i v p s b e q y (((p', v'), i'), (k, o, called, cmp, key, item), rest) =
        let c = call j k p' (subst (λ z. CalledAt g z j k p') s called) in
        let n = best_more j i v k b e c.1 in
        let at : i' ≡ min_by_ordering (nat_cmp v k) i j = item ∙ ap (λ x. min_by_ordering x i j) (sym cmp) in
        let is : v' ≡ min_by_ordering (nat_cmp v k) v k = key ∙ ap (λ x. min_by_ordering x v k) (sym cmp) in
        let u : j + 1 + m ≡ j + suc m = omega arith in
        subst (λ k. Best read k y) u
        (turns m (j + 1) i' v' p' c.0 (subst (Best read (j + 1)) (sym at) n.0) (is ∙ n.1 ∙ ap read (sym at)) q y rest)

    items : (n : ℕ) (s : Range ℕ) (xs : List ℕ) → s ≡ record { start = 0; end = n } → Drains nat_range_steps s xs → xs ≡ range_with_len 0 n
    items n s xs e (u, (t, ys, last)) =
        let z : n - 0 ≡ n = omega arith in
        sym (map-id xs) ∙ items_from_drains xs (t, ys, λ _. (u, last)) (YieldsList-from_range 0 n n e z)

    -- the search through n numbers, of which there is one
    pub searched : (n : ℕ) (s : Range ℕ) (r : Option ℕ) → s ≡ record { start = 0; end = n } → 1 ≤ n → PicksMinByKey nat_range_steps g nat_cmp s f r → Best read n (unwrap_or r 0)
    searched zero s r e h d = absurd (omega arith)
    searched (suc n) s None e h d = let z = items (suc n) s [] e d in cc
    searched (suc n) s (Some y) e h (x, xs, k, p, q, d, called, t) =
        let z = items (suc n) s (x ∷ xs) e d in
        let x0 : x ≡ 0 = cc in
        let rest : xs ≡ range_with_len 1 n = cc in
        let c = call x k p called in
        let one : 1 + n ≡ suc n = omega arith in
        subst (λ m. Best read m y) one
        (turns n 1 x k p c.0 (subst (Best read 1) (sym x0) first_best) c.1 q y
        (subst (λ zs. FoldsTo {P = (F × ℕ) × ℕ} (KeyTurn min_by_ordering min_by_ordering g nat_cmp) ((p, k), x) zs (q, y)) rest t))
