-- `region_points::holds_halfspace` is the comparison of n·p with d·K. Assumes nothing.
use mathlib.Core.Path.{ap, ◌∙◌}
use lib.Dec.{lit≤}
use lib.IntN.{◌*ℤ◌}
use lib.Signed.{le_z}
use Rattle.algebra.proofs.Sized.{held, lit, is_mul, fits_mul, same_le}
use Rattle.vector.specs.Numbers.{K}
use Rattle.vector.proofs.SizeLaws.{at_most_mono}
use Rattle.vector.proofs.VectorLaws.{dot_comm}
use Rattle.region_points.proofs.holds_halfspace.Goals as goal

pub overflow_mul-result : goal.overflow_mul-result
overflow_mul-result c = fits_mul (held c.requires.at_most.1 tt) (lit 1048576 tt) tt

pub dot-requires : goal.dot-requires
dot-requires c = record {
  small = c.requires.small;
  at_most = at_most_mono (lit≤ tt) c.requires.at_most.0;
}

pub returns : goal.returns
returns c =
    same_le (is_mul (held c.requires.at_most.1 tt) (lit 1048576 tt) tt) (held c.dot.ensures.upto tt)
    ∙ ap (le_z (c.args.h.d *ℤ K)) (c.dot.ensures.value ∙ dot_comm c.args.p c.args.h.n)
