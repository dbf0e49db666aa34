-- `htm::from_c::htm_write` is the length of the file, which is at most 10508, or minus the refusal. Assumes nothing.
use native.Mathlib.Omega.{arith}
use mathlib.Core.Path.{sym, ◌∙◌}
use Rattle.htm.proofs.CLaws.{file_short}
use Rattle.htm.proofs.from_c.htm_write.Goals as goal

pub number_or_minus-requires : goal.number_or_minus-requires
number_or_minus-requires c n e = omega (arith, file_short _ _ _ _ _ n (sym c.write.ensures.result_value ∙ e))
