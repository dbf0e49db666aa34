-- `print::covers::with_heads` gives the refusal of a file that is refused, and collects nothing then. Assumes nothing.
use mathlib.Core.Path.{refl, sym, ap, ◌∙◌}
use Rattle.std.proofs.lemmas.Result.{err_from_is_err_and}
use Rattle.answer.specs.Calls.{answer_of}
use Rattle.print.proofs.CoverLaws.{refusal_read, not_counted}
use Rattle.print.proofs.covers.with_heads.Goals as goal

pub returns-in_err-counts : goal.returns-in_err-counts
returns-in_err-counts g c n e =
    let p = err_from_is_err_and c.from_residual.result c.from_residual.ensures.1 in
    let was = sym (ap answer_of c.in_err-counts.was) ∙ c.cover.ensures.result_value in
    (rw (p.1, p.2) (refusal_read c.args.file.now _ n e _ was), refl)

pub returns : goal.returns
returns g c n e = not_counted c.args.file.now _ n e c.in_ok-counts.counts (sym (ap answer_of c.in_ok-counts.was) ∙ c.cover.ensures.result_value)
