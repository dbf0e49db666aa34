-- `vector_units::unit_two` is Unit: a guess that passes the two tests is the root of the square length; else `unit` answers. Assumes nothing.
use mathlib.Core.Path.{◌≡◌, sym, ap, ◌∙◌}
use lib.IntN.{nat_abs}
use Rattle.vector.specs.Numbers.{root}
use Rattle.vector.specs.Vectors.{dot}
use Rattle.vector.proofs.RootLaws.{root_tested}
use Rattle.vector.proofs.SizeLaws.{unit_by}
use Rattle.vector_units.proofs.unit_two.Goals as goal
use Rattle.vector_units.proofs.unit_two.Goals.{Then-is_root}

-- the guess is the root, by its tests
length : (c : Then-is_root) → c.near_two-n.result ≡ root (nat_abs (dot c.args.s c.args.s))
length c =
    root_tested c.square_length-q.result c.near_two-n.result (sym c.is_root.ensures ∙ c.if-is_root.true)
    ∙ ap root c.square_length-q.ensures.value

pub returns-then-is_root : goal.returns-then-is_root
returns-then-is_root c = let both = unit_by c.args.s (length (goal.at.returns-then-is_root c).Then-is_root) c.divided.ensures in record {
  value = both.0;
  small = both.1;
}
