-- The two lists of a cover in a lent list, and ranges as pairs of their lowest and their highest identifier.
--   ranges_of ps    the ranges of these pairs
--   Lent ..         the list ls has room for m ranges from element 0 on and for n from element `from` on, and s is not 0
use Rattle.std.specs.Prelude.{ℕ, ◌+◌, ◌*◌, ◌≤◌, ◌<◌, List, map, length, get_or}
use Rattle.ranges.specs.declared.Range.{Range}
use Rattle.ranges.specs.Ranges.{range}

abbrev pub ranges_of : List (List ℕ) → List Range
ranges_of ps = map (λ p. range (get_or p 0 0) (get_or p 1 0)) ps

pub record Lent (m from n s : ℕ) (ls : List ℕ) : Type 0 where
  pub outer : 2 * m ≤ length ls
  pub inner : from + 2 * n ≤ length ls
  pub some : 0 < s
