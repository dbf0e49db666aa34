-- The digits of the bytes so far.
use Rattle.std.proofs.Common.{◌≡◌, ◌*◌, take}
use Rattle.print.specs.Texts.{digits_text}
use Rattle.print.proofs.regions.put_digits.Given as goal

abbrev pub invariant-loop-i : goal.invariant-loop-i
invariant-loop-i l = take (2 * l.i) l.text ≡ digits_text (take l.i l.fn.part)
