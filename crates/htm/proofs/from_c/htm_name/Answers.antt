-- `htm::from_c::htm_name` is the length of the name, which is at most 32, or minus the refusal. Assumes nothing.
use native.Mathlib.Omega.{arith}
use mathlib.Core.Path.{sym, ◌∙◌}
use Rattle.htm.proofs.CLaws.{name_short}
use Rattle.htm.proofs.from_c.htm_name.Goals as goal

pub number_or_minus-requires : goal.number_or_minus-requires
number_or_minus-requires c n e = omega (arith, name_short _ _ n (sym c.name.ensures.result_value ∙ e))
