-- `htm::from_c::htm_lookup_f32` is the identifier of a report, which is small, or minus the refusal. Assumes nothing.
use native.Mathlib.Omega.{arith}
use mathlib.Core.Path.{sym, ◌∙◌}
use Rattle.htm.proofs.LocatedLaws.{located_small}
use Rattle.htm.proofs.from_c.htm_lookup_f32.Goals as goal

pub number_or_minus-requires : goal.number_or_minus-requires
number_or_minus-requires c n e = omega (arith, located_small _ _ n (sym c.locate_report.ensures ∙ e))
