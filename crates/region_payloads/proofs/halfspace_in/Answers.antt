-- `region_payloads::halfspace_in` checks 4, counts the halfspace, which makes the checks 7 to 9, and writes its row. Assumes nothing.
use Prim.Native.Nat.{◌<◌}
use native.Mathlib.Omega.{arith}
use mathlib.Core.Path.{◌≡◌, sym, ap, ◌∙◌}
use Rattle.std.proofs.lemmas.Result.{err_from_is_err_and}
use Rattle.answer.specs.Answer.{gives}
use Rattle.answer.specs.Calls.{answer_of}
use Rattle.region_rows.specs.RegionSizes.{add_halfspace}
use Rattle.region_rows.proofs.CountLaws.{halfspace_passed}
use Rattle.region_payloads.proofs.StepLaws.{halfspace_order, halfspace_refused, halfspace_more}
use Rattle.region_payloads.proofs.halfspace_in.Goals as goal
use Rattle.region_payloads.proofs.halfspace_in.Goals.{In_ok-with, Else-k-eq0}

-- the halfspace is counted
more : (c : In_ok-with) → let w = c in
    gives c.in_ok-with.with ≡ add_halfspace w.args.k w.args.h
more c = sym (ap answer_of c.in_ok-with.was) ∙ c.with_halfspace.ensures

begun : (c : Else-k-eq0) → 0 < c.args.k.convexes
begun c = omega arith

pub returns-then-k-eq0 : goal.returns-then-k-eq0
returns-then-k-eq0 c x before st = halfspace_order _ _ x before _ st (omega arith)

pub write_row-requires : goal.write_row-requires
write_row-requires c =
    let p = halfspace_passed _ _ _ (sym (more (goal.at.write_row-requires c).In_ok-with)) in
    record {
      good_halfspace = p.0;
      convexes_nonzero = (begun (goal.at.write_row-requires c).Else-k-eq0, omega (arith, p.1));
    }

pub returns : goal.returns
returns c x before st =
    halfspace_more _ _ x before _ st (begun (goal.at.returns c).Else-k-eq0) _ (more (goal.at.returns c).In_ok-with) _ c.write_row.ensures

pub returns-in_err-with : goal.returns-in_err-with
returns-in_err-with c x before st =
    let p = err_from_is_err_and c.from_residual.result c.from_residual.ensures.1 in
    rw (p.1, p.2)
    (halfspace_refused _ _ x before _ st (begun (goal.at.returns-in_err-with c).Else-k-eq0) _ (sym (ap answer_of c.in_err-with.was) ∙ c.with_halfspace.ensures))
