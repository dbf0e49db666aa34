-- `htm::from_c::htm_lookup_line` is the identifier, which has at most 26 bits, or minus the refusal. Assumes nothing.
use native.Mathlib.Omega.{arith}
use mathlib.Core.Path.{sym, ◌∙◌}
use Rattle.htm.proofs.LocatedLaws.{located_small}
use Rattle.htm.proofs.from_c.htm_lookup_line.Goals as goal

pub number_or_minus-requires : goal.number_or_minus-requires
number_or_minus-requires c n e = omega (arith, located_small _ _ n (sym c.locate_line.ensures ∙ e))
