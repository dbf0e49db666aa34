-- `region_payloads::group_payload` begins the convex, checks 7 for all its halfspaces, and takes them. Assumes nothing.
use Prim.Native.Nat.{◌/◌}
use native.Mathlib.Omega.{arith}
use mathlib.Core.Path.{refl, sym, ap}
use lib.ListN.{length}
use Rattle.std.proofs.lemmas.Result.{err_from_is_err_and}
use Rattle.answer.specs.Answer.{refused, Crowd}
use Rattle.answer.specs.Calls.{answer_of}
use Rattle.region.proofs.FileBack.{halfspaces_count}
use Rattle.region_payloads.specs.Payloads.{step_given, SizeAfterBy, group_of}
use Rattle.region.specs.Reader.{group_in}
use Rattle.region_payloads.proofs.StepLaws.{counted_taken}
use Rattle.region_payloads.proofs.GroupLaws.{group_refused, group_crowd, group_all}
use Rattle.region_payloads.proofs.group_payload.Goals as goal
use Rattle.region_payloads.proofs.group_payload.Goals.{After-halfspaces_in}

-- the group's halfspaces, by what they gave
all : (c : After-halfspaces_in) → let a = c.args in SizeAfterBy (λ x. group_in x (group_of a.payload.now)) a.s.counts a.rows.now (answer_of c.halfspaces_in.result) c.halfspaces_in.new.rows
all c =
    let a = c.args in
    let n = halfspaces_count (length a.payload.now / 16) a.payload.now in
    group_all a.s.counts (group_of a.payload.now) a.rows.now _ c.convex_in.ensures _ (ap answer_of c.in_ok-begun.was) (omega arith) _ _ c.halfspaces_in.ensures

pub returns-in_err-begun : goal.returns-in_err-begun
returns-in_err-begun c =
    let a = c.args in
    let p = err_from_is_err_and c.from_residual.result c.from_residual.ensures.1 in
    rw (p.1, p.2)
    (counted_taken (refused _) refl (group_refused a.s.counts (group_of a.payload.now) a.rows.now _ c.convex_in.ensures _ (ap answer_of c.in_err-begun.was)))

pub returns-then-begun-n-gt-HALFSPACES : goal.returns-then-begun-n-gt-HALFSPACES
returns-then-begun-n-gt-HALFSPACES c =
    let a = c.args in
    let n = halfspaces_count (length a.payload.now / 16) a.payload.now in
    counted_taken (refused Crowd) refl
    (group_crowd a.s.counts (group_of a.payload.now) a.rows.now _ c.convex_in.ensures _ (ap answer_of c.in_ok-begun.was) (omega arith))

pub returns : goal.returns
returns c = counted_taken _ (ap (λ r. step_given c.args.next (answer_of r)) (sym c.in_ok-counts.was)) (all (goal.at.returns c).After-halfspaces_in)

pub returns-in_err-counts : goal.returns-in_err-counts
returns-in_err-counts c =
    let p = err_from_is_err_and c.from_residual-in_err-counts.result c.from_residual-in_err-counts.ensures.1 in
    rw (p.1, p.2)
    (counted_taken _ (ap (λ r. step_given c.args.next (answer_of r)) (sym c.in_err-counts.was)) (all (goal.at.returns-in_err-counts c).After-halfspaces_in))
