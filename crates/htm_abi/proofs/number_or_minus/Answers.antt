-- `htm_abi::number_or_minus` is the length, which 64 bits with a sign hold, or minus the refusal. Assumes nothing.
use Prim.Native.Nat.{◌^◌, ◌≤◌}
use mathlib.Core.Path.{sym, ap, subst, ◌∙◌}
use lib.IntN.{pos}
use Rattle.algebra.proofs.Sizes.{Upto}
use Rattle.algebra.proofs.Sized.{nat, sfits}
use mir.Syntax.{w64}
use Rattle.answer.specs.Calls.{answer_of}
use Rattle.htm_abi.specs.Values.{number_for_c}
use Rattle.htm_abi.proofs.number_or_minus.Goals as goal
use Rattle.htm_abi.proofs.number_or_minus.Goals.{In-Ok}

small : (c : In-Ok) → c.in-Ok.n ≤ 2 ^ 32
small c = c.requires c.in-Ok.n (ap answer_of c.in-Ok.is)

pub overflow_cast-result : goal.overflow_cast-result
overflow_cast-result c = sfits w64 {z = pos c.in-Ok.n} (record { le = small (goal.at.overflow_cast-result c).In-Ok }) tt

pub returns-in-Ok : goal.returns-in-Ok
returns-in-Ok c =
    let e = nat (small (goal.at.returns-in-Ok c).In-Ok) tt in
    (e.eq ∙ sym (ap (λ r. number_for_c (answer_of r)) c.in-Ok.is), subst (Upto (2 ^ 32)) (sym e.eq) e.size)
