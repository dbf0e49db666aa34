-- What with_digit gives is what the next digit makes of the number.
use Rattle.std.proofs.Common.{◌≡◌, sym, ◌∙◌, subst, length, arith}
use Rattle.command_words.specs.Numbers.{UpTo}
use Rattle.command_words.proofs.NumberLaws.{goes_on, stops, ends, up_to_from}
use Rattle.command_words.proofs.natural_of.Goals as goal

pub returns-in_err-n-clause-value : goal.returns-in_err-n-clause-value
returns-in_err-n-clause-value c =
    c.from_residual.ensures ∙ sym (stops _ _ _ _ c.loop-b-test.true (sym c.in_err-n.was ∙ c.with_digit.ensures)) ∙ c.loop-b.invariant.rest

pub loop-b-preserved : goal.loop-b-preserved
loop-b-preserved c =
    let read = sym c.in_ok-n.was ∙ c.with_digit.ensures in
    record {
      most = subst (UpTo _) (sym read) (up_to_from _ _ _);
      rest = sym (goes_on _ _ _ _ c.loop-b-test.true read) ∙ c.loop-b.invariant.rest;
    }

pub returns-clause-value : goal.returns-clause-value
returns-clause-value c =
    let over : c.loop-b.b-index ≡ length c.args.word.now = omega arith in
    ends _ _ _ over c.loop-b.invariant.most ∙ c.loop-b.invariant.rest
