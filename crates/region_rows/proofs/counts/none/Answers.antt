-- `region_rows::counts::none` is the size of the region without convexes. Assumes nothing.
use mathlib.Core.Path.{refl}
use Rattle.region.specs.Building.{last_convex, total}
use Rattle.region_rows.proofs.counts.none.Goals as goal

pub returns : goal.returns
unfolding last_convex total
returns c = refl
