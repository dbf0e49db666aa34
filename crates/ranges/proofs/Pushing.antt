-- The two lists in one pass, in a list of the budget's length: each new range is pushed as it comes, and the list stays within the budget.
-- Document 01 asks for the lists; that the pass gives them is the statement `OnePass` (proofs/OnePass).
--   outer_push b xs r   the outer list xs after the range r is pushed
--   inner_push b s r    the inner list and its last range, which may still grow, after the range r is pushed
--   outer_pass, inner_pass   all of some ranges, one after the other
use Prim.Native.Nat.{ℕ, ◌+◌, ◌-◌}
use mathlib.Core.Bool.{Bool, true, cond, ◌&&◌}
use mathlib.Core.List.{List, [], ◌∷◌, ◌++◌, map, foldl}
use lib.Dec.{eqb, ltb}
use lib.ListN.{length}
use Rattle.ranges.specs.declared.Range.{Range}
use Rattle.ranges.specs.Lists.{over, touch, gaps, join_smallest, size, drop_shortest}

-- g is below every one
unfoldable pub below : ℕ → List ℕ → Bool
below g [] = true
below g (x ∷ rest) = ltb g x && below g rest

unfoldable pub last_high : List Range → ℕ
last_high [] = 0
last_high (a ∷ []) = a.high
last_high (a ∷ b ∷ rest) = last_high (b ∷ rest)

-- the last range goes on to the end of r
unfoldable pub extend : List Range → Range → List Range
extend [] r = []
extend (a ∷ []) r = over a r ∷ []
extend (a ∷ b ∷ rest) r = a ∷ extend (b ∷ rest) r

-- the gap between the last range and r
abbrev pub new_gap : List Range → Range → ℕ
new_gap xs r = r.low - last_high xs - 1

-- the list is full: the new range joins on, if its gap is the smallest, or else two others join
unfoldable pub outer_full : List Range → Range → List Range
outer_full xs r = cond (below (new_gap xs r) (gaps xs)) (extend xs r) (join_smallest xs ++ r ∷ [])

-- a range that does not touch the last
unfoldable pub outer_new : ℕ → List Range → Range → List Range
outer_new budget xs r = cond (ltb (length xs) budget) (xs ++ r ∷ []) (outer_full xs r)

unfoldable pub outer_push : ℕ → List Range → Range → List Range
outer_push budget [] r = r ∷ []
outer_push budget (a ∷ rest) r = cond (eqb (last_high (a ∷ rest) + 1) r.low) (extend (a ∷ rest) r) (outer_new budget (a ∷ rest) r)

unfoldable pub outer_pass : ℕ → List Range → List Range
outer_pass budget ranges = foldl (outer_push budget) [] ranges

-- the list is full: the new range is dropped, if it is the shortest, or else another one is
unfoldable pub inner_full : List Range → Range → List Range
inner_full xs r = cond (below (size r) (map size xs)) xs (drop_shortest xs ++ r ∷ [])

unfoldable pub inner_close : ℕ → List Range → Range → List Range
inner_close budget xs r = cond (ltb (length xs) budget) (xs ++ r ∷ []) (inner_full xs r)

pub data Inner : Type 0 where
  empty : Inner
  growing : List Range → Range → Inner

unfoldable pub inner_push : ℕ → Inner → Range → Inner
inner_push budget empty r = growing [] r
inner_push budget (growing xs p) r = cond (touch p r) (growing xs (over p r)) (growing (inner_close budget xs p) r)

unfoldable pub inner_end : ℕ → Inner → List Range
inner_end budget empty = []
inner_end budget (growing xs p) = inner_close budget xs p

unfoldable pub inner_pass : ℕ → List Range → List Range
inner_pass budget ranges = inner_end budget (foldl (inner_push budget) empty ranges)
