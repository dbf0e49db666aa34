-- `region_payloads::halfspace_payload` gives the size with the halfspace of the payload, at the next record. Assumes nothing.
use mathlib.Core.Path.{sym, ap}
use Rattle.std.proofs.lemmas.Result.{err_from_is_err_and}
use Rattle.answer.specs.Calls.{answer_of}
use Rattle.region.specs.Reader.{halfspace_in}
use Rattle.region_payloads.specs.Payloads.{step_given}
use Rattle.region_payloads.proofs.StepLaws.{counted_as, counted_taken}
use Rattle.region_payloads.proofs.halfspace_payload.Goals as goal

pub returns : goal.returns
returns c =
    counted_taken _ (ap (λ r. step_given c.args.next (answer_of r)) (sym c.in_ok-counts.was))
    (λ x before st. counted_as (ap (halfspace_in x) c.halfspace_of-h.ensures) (c.halfspace_in.ensures x before st))

pub returns-in_err-counts : goal.returns-in_err-counts
returns-in_err-counts c =
    let p = err_from_is_err_and c.from_residual.result c.from_residual.ensures.1 in
    rw (p.1, p.2)
    (counted_taken _ (ap (λ r. step_given c.args.next (answer_of r)) (sym c.in_err-counts.was))
    (λ x before st. counted_as (ap (halfspace_in x) c.halfspace_of-h.ensures) (c.halfspace_in.ensures x before st)))
