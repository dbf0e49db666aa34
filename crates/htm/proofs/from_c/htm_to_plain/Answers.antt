-- `htm::from_c::htm_to_plain` is the length of the plain form, which is at most 10508, or minus the refusal. Assumes nothing.
use native.Mathlib.Omega.{arith}
use mathlib.Core.Path.{sym, ◌∙◌}
use Rattle.htm.proofs.CLaws.{converted_short}
use Rattle.htm.proofs.from_c.htm_to_plain.Goals as goal

pub number_or_minus-requires : goal.number_or_minus-requires
number_or_minus-requires c n e = omega (arith, converted_short _ _ _ n (sym c.to_plain.ensures.result_value ∙ e))
