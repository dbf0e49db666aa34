-- The convex of a row, by the size of the region before it. Document 01, 'Regions': each row number is the previous or one more.
--   opens_convex k c    the size k with the convex that the row with the number c belongs to, or the refusal 7
use Rattle.std.specs.Prelude.{cond, ℤ, pos}
use Rattle.answer.specs.Answer.{Answer, gives}
use Rattle.vector.specs.Numbers.{eq_z}
use Rattle.region_rows.specs.declared.counts.RegionSize.{RegionSize}
use Rattle.region_rows.specs.RegionSizes.{add_convex}

abbrev pub opens_convex : RegionSize → ℤ → Answer RegionSize
opens_convex k c = cond (eq_z c (pos k.convexes)) (add_convex k) (gives k)
