-- What ranges contain, in identifiers. Document 02, F-4 and F-9.
--   identifiers rs     the sizes of the ranges, summed
--   different ns rs    how many of the identifiers ns are in a range of the list rs; one that is in several ranges counts once
--   Contains ids rs n  the ranges contain n of the identifiers ids, each in one range only, and no other number: their sizes sum to n, and n of ids
--                      are in a range
--   Feasible b rs other   the list `other` has at most b ranges and contains all identifiers of the ranges rs. Its ranges may stand in any order, overlap,
--                      and be reversed, low above high, which contains nothing
--   swallowed_of b rs   the gaps that the outer list of rs is joined over, summed, step by step as `outer_of` joins; touching ranges have none
use Rattle.std.specs.Prelude.{ℕ, zero, suc, ◌+◌, ◌≤◌, ◌≡◌, true, cond, List, [], ◌∷◌, ltb, length}
use Rattle.algebra.specs.Lists.{tally}
use Rattle.ranges.specs.declared.Range.{Range}
use Rattle.ranges.specs.Ranges.{in_some}
use Rattle.ranges.specs.Lists.{joined, smallest, gaps, join_smallest, size}

unfoldable pub identifiers : List Range → ℕ
identifiers [] = 0
identifiers (r ∷ rs) = size r + identifiers rs

abbrev pub different : List ℕ → List Range → ℕ
different ns rs = tally (λ i. in_some i rs) ns

pub record Contains (ids : List ℕ) (rs : List Range) (n : ℕ) : Type 0 where
  pub counted : identifiers rs ≡ n
  pub once : different ids rs ≡ n

pub record Feasible (b : ℕ) (rs other : List Range) : Type 0 where
  pub few : length other ≤ b
  pub all : (i : ℕ) → in_some i rs ≡ true → in_some i other ≡ true

-- ---- swallowed: while there are more ranges than the budget, the smallest gap, which is joined over

unfoldable pub swallowed_from : ℕ → ℕ → List Range → ℕ
swallowed_from budget zero xs = 0
swallowed_from budget (suc fuel) xs =
    cond (ltb budget (length xs)) (smallest (gaps xs) + swallowed_from budget fuel (join_smallest xs)) 0

unfoldable pub swallowed_of : ℕ → List Range → ℕ
swallowed_of budget ranges = swallowed_from budget (length (joined ranges)) (joined ranges)
