-- `vector_units::unit` is Unit: K times the components, divided by the root of the square length. Assumes nothing.
use mathlib.Core.Path.{◌≡◌, ap, ◌∙◌}
use lib.IntN.{nat_abs}
use Rattle.vector.specs.Numbers.{root}
use Rattle.vector.specs.Vectors.{dot}
use Rattle.vector.proofs.SizeLaws.{unit_by}
use Rattle.vector_units.proofs.unit.Goals as goal
use Rattle.vector_units.proofs.unit.Goals.{After-isqrt}

length : (c : After-isqrt) → c.isqrt.result ≡ root (nat_abs (dot c.args.s c.args.s))
length c = c.isqrt.ensures.value ∙ ap root c.square_length.ensures.value

pub returns : goal.returns
returns c = let both = unit_by c.args.s (length (goal.at.returns c).After-isqrt) c.divided.ensures in record {
  value = both.0;
  small = both.1;
}
