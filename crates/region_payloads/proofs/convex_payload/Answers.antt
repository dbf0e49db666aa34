-- `region_payloads::convex_payload` gives the size with the convex, at the next record. Assumes nothing.
use mathlib.Core.Path.{sym, ap, ◌∙◌}
use Rattle.std.proofs.lemmas.Result.{err_from_is_err_and}
use Rattle.answer.specs.Calls.{answer_of}
use Rattle.region.specs.Reader.{convex_in}
use Rattle.region_payloads.specs.Payloads.{step_given}
use Rattle.region_payloads.proofs.StepLaws.{step_counted}
use Rattle.region_payloads.proofs.convex_payload.Goals as goal

pub returns : goal.returns
returns c x e =
    ap (λ r. step_given c.args.next (answer_of r)) (sym c.in_ok-counts.was) ∙ ap (step_given _) (c.convex_in.ensures x e) ∙ step_counted c.args.next (convex_in x)

pub returns-in_err-counts : goal.returns-in_err-counts
returns-in_err-counts c x e =
    let p = err_from_is_err_and c.from_residual.result c.from_residual.ensures.1 in
    rw (p.1, p.2)
    (ap (λ r. step_given c.args.next (answer_of r)) (sym c.in_err-counts.was) ∙ ap (step_given _) (c.convex_in.ensures x e) ∙ step_counted c.args.next (convex_in x))
