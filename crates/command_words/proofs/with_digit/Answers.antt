-- Each return has the test that its branch made. What overflows is above `most`.
use Rattle.std.proofs.Common.{◌≡◌, ◌+◌, ◌*◌, ◌-◌, ◌∙◌, arith}
use Rattle.command_words.proofs.NumberLaws.{no_digit, past, fits}
use Rattle.command_words.proofs.with_digit.Goals as goal

pub returns-then-not-is_ascii_digit : goal.returns-then-not-is_ascii_digit
returns-then-not-is_ascii_digit c = no_digit _ _ _ c.if-not-is_ascii_digit.ensures.cases

pub returns-in_err-checked_mul : goal.returns-in_err-checked_mul
returns-in_err-checked_mul c =
    c.from_residual.ensures ∙ past _ _ _ c.if-not-is_ascii_digit.ensures.cases (omega (arith, c.in_err-checked_mul.ensures))

pub returns-in_err-sum : goal.returns-in_err-sum
returns-in_err-sum c =
    c.from_residual-in_err-sum.ensures
    ∙ past _ _ _ c.if-not-is_ascii_digit.ensures.cases (omega (arith, c.in_ok-checked_mul.ensures.1, c.in_err-sum.ensures))

pub returns : goal.returns
returns c =
    let sum : c.in_ok-sum.sum ≡ c.args.n * 10 + (c.args.byte - 48) = omega (arith, c.in_ok-checked_mul.ensures.1, c.in_ok-sum.ensures.1) in
    c.then_some.ensures ∙ fits _ _ _ c.if-not-is_ascii_digit.ensures.cases sum
