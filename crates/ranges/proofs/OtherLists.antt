-- What a list contains that contains all identifiers of some ranges, which ascend: these, and gaps between them whole, at least as many as they are more
-- ranges than its own. So it contains beside them at least what the smallest gaps, as many, have (`contained_least`).
-- A walk over the ranges shows it. The last identifier of each is in the list. Where the list leaves out an identifier of the gap behind, one of its own
-- ranges ends before that identifier, and fewer of them reach the next range than reach this one. One at least reaches the last range. So a list of k ranges
-- leaves at most k − 1 gaps open. Its order plays no part, for its ranges are only counted. Assumes nothing.
use Prim.Native.Nat.{ℕ, zero, suc, ◌+◌, ◌-◌, ◌≤◌, ◌<◌}
use mathlib.Core.Path.{◌≡◌, refl, sym, ap, ◌∙◌}
use mathlib.Core.Bool.{Bool, true, false, false≢true, true≢false}
use mathlib.Core.List.{List, [], ◌∷◌}
use native.Mathlib.Omega.{arith}
use lib.Dec.{leb}
use lib.ListN.{length}
use borrow.Author.Tests.{leb-true, le-leb}
use Rattle.algebra.specs.Lists.{some, tally, numbers_from}
use Rattle.algebra.proofs.Tests.{split, or_cases, or_left, or_right, or_none}
use Rattle.algebra.proofs.Counting.{tally_pass, tally_fail, tally_length, tally_some, tally_step, tally_more, count, count_parts, count_all}
use Rattle.algebra.proofs.Cheapest.{costs_taken, costs_left}
use Rattle.algebra.proofs.Costs.{Costs}
use Rattle.ranges.specs.declared.Range.{Range}
use Rattle.ranges.specs.Ranges.{is_in, in_some}
use Rattle.ranges.specs.Lists.{gap, gaps}
use Rattle.ranges.specs.Contents.{identifiers}
use Rattle.ranges.proofs.ListLaws.{is_in_law, in_low, in_high, Between, between_le}

-- ---- how many ranges reach a number: they end there or beyond

abbrev reaches : ℕ → Range → Bool
reaches a r = leb a r.high

abbrev reach : ℕ → List Range → ℕ
reach a rs = tally (reaches a) rs

reaches_down : (a b : ℕ) (r : Range) → a ≤ b → reaches b r ≡ true → reaches a r ≡ true
reaches_down a b r h e = le-leb a r.high (omega (arith, leb-true b r.high e))

reach_down : (a b : ℕ) (rs : List Range) → a ≤ b → reach b rs ≤ reach a rs
reach_down a b rs h = tally_more (reaches b) (reaches a) (λ r. reaches_down a b r h) rs

in_reaches : (a : ℕ) (r : Range) → is_in a r ≡ true → reaches a r ≡ true
in_reaches a r e = le-leb a r.high (in_high a r e)

reach_some : (a : ℕ) (rs : List Range) → in_some a rs ≡ true → 1 ≤ reach a rs
reach_some a rs e = omega (arith, tally_some (is_in a) rs e, tally_more (is_in a) (reaches a) (in_reaches a) rs)

ends : (a : ℕ) (r : Range) → is_in a r ≡ true → is_in (suc a) r ≡ false → reaches (suc a) r ≡ false
ends a r h n = split (reaches (suc a) r)
    (λ t. absurd (true≢false (sym (is_in_law (suc a) r (omega (arith, in_low a r h)) (leb-true (suc a) r.high t)) ∙ n)))
    (λ t. t)

-- where a is in a range and the next number in none, a range ends at a
reach_ends : (a : ℕ) (rs : List Range) → in_some a rs ≡ true → in_some (suc a) rs ≡ false → reach (suc a) rs < reach a rs
unfolding some
reach_ends a [] e n = absurd (false≢true e)
reach_ends a (r ∷ rs) e n =
    let none = or_none (is_in (suc a) r) (in_some (suc a) rs) n in
    or_cases (is_in a r) (in_some a rs) e
    (λ h.
    let here = tally_pass (reaches a) r rs (in_reaches a r h) in
    let not-next = tally_fail (reaches (suc a)) r rs (ends a r h none.0) in
    omega (arith, reach_down a (suc a) rs (omega arith)))
    (λ h.
    let fewer = reach_ends a rs h none.1 in
    omega (arith, tally_step (reaches (suc a)) (reaches a) 1 r rs (reaches_down a (suc a) r (omega arith)) (omega arith)))

-- ---- the walk

module _ (other : List Range) where
  abbrev contained : ℕ → Bool
  contained i = in_some i other

  -- the n numbers after a are contained, or fewer ranges reach the last of them than a
  crossed : (a n : ℕ) {X : Type 0} → contained a ≡ true → (tally contained (numbers_from (suc a) n) ≡ n → X) → (reach (a + n) other < reach a other → X) → X
  unfolding tally numbers_from
  crossed a zero e f g = f refl
  crossed a (suc n) e f g =
      let s : a + suc n ≡ suc a + n = omega arith in
      split (contained (suc a))
      (λ t. crossed (suc a) n t (λ q. f (rw t (ap suc q))) (λ d. g (rw s (omega (arith, reach_down a (suc a) other (omega arith))))))
      (λ t. g (omega (arith, reach_down (suc a) (a + suc n) other (omega arith), reach_ends a other e t)))

  -- as above, for a gap, from a to b
  cross : (a b : ℕ) {X : Type 0} → a + 1 ≤ b → contained a ≡ true → (count contained (a + 1) b ≡ b - a - 1 → X) → (reach b other < reach a other → X) → X
  cross a b h e f g =
      let s : suc a ≡ a + 1 = omega arith in
      let n : b - suc a ≡ b - a - 1 = omega arith in
      crossed a (b - a - 1) e
      (λ q. f (rw (← s, n) q))
      (λ d. g (omega (arith, reach_down (a + (b - a - 1)) b other (omega arith))))

  abbrev All : List Range → Type 0
  All rs = (i : ℕ) → in_some i rs ≡ true → contained i ≡ true

  module _ (a : Range) (rs : List Range) (all : All (a ∷ rs)) where
    first_contained : (i : ℕ) → a.low ≤ i → i ≤ a.high → contained i ≡ true
    unfolding some
    first_contained i l h = all i (or_left (in_some i rs) (is_in_law i a l h))

    later_contained : All rs
    unfolding some
    later_contained i e = all i (or_right (is_in i a) e)

    first_counted : (b : ℕ) → a.low ≤ a.high → a.high + 1 ≤ b → count contained a.low b ≡ a.high - a.low + 1 + count contained (a.high + 1) b
    first_counted b o h =
        let whole = count_all contained a.low (a.high + 1) (λ i l h. first_contained i l (omega arith)) in
        omega (arith, count_parts contained a.low (a.high + 1) b (omega arith) h)

  -- from a range a on
  contained_from : (a : Range) (rs : List Range) (b v j : ℕ) → a.low ≤ a.high → Between (a.high + 1) b rs → All (a ∷ rs)
      → j ≤ length (a ∷ rs) - reach a.high other → Costs v j (gaps (a ∷ rs)) → identifiers (a ∷ rs) + v ≤ count contained a.low b
  unfolding identifiers gaps
  contained_from a [] b v zero o p c few s = omega (arith, first_counted a [] c b o p)
  contained_from a [] b v (suc j) o p c few s = absurd (omega (arith, reach_some a.high other (first_contained a [] c a.high o (omega arith))))
  contained_from a (r ∷ rs) b v j o p c few s =
      let end = between_le (r.high + 1) b rs p.2 in
      let first = first_counted a (r ∷ rs) c b o (omega arith) in
      let parts = count_parts contained (a.high + 1) r.low b p.0 (omega arith) in
      let down = reach_down r.low r.high other p.1 in
      let next : (u k : ℕ) → k ≤ length (r ∷ rs) - reach r.high other → Costs u k (gaps (r ∷ rs))
      → identifiers (r ∷ rs) + u ≤ count contained r.low b = λ u k. contained_from r rs b u k p.1 p.2 (later_contained a (r ∷ rs) c) in
      cross a.high r.low p.0 (first_contained a (r ∷ rs) c a.high o (omega arith))
      (λ q.
      let near = reach_down a.high r.low other (omega arith) in
      omega (arith, next (v - gap a r) (j - 1) (omega arith) (costs_taken v j (gap a r) (gaps (r ∷ rs)) s)))
      (λ d. omega (arith, next v j (omega arith) (costs_left v j (gap a r) (gaps (r ∷ rs)) s)))

  pub contained_least : (a b v j : ℕ) (rs : List Range) → Between a b rs → All rs → j ≤ length rs - length other → Costs v j (gaps rs)
      → identifiers rs + v ≤ count contained a b
  unfolding identifiers gaps
  contained_least a b v zero [] p c few s = omega arith
  contained_least a b v (suc j) [] p c few s = absurd (omega arith)
  contained_least a b v j (r ∷ rs) p c few s =
      let end = between_le (r.high + 1) b rs p.2 in
      let reached = tally_length (reaches r.high) other in
      omega (arith, count_parts contained a r.low b p.0 (omega arith), contained_from r rs b v j p.1 p.2 c (omega arith) s)
