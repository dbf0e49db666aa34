-- `trial_calls::trial` checks the owner and decodes the file. Assumes nothing.
use mathlib.Core.Path.{sym, ap, ◌∙◌}
use Rattle.std.proofs.lemmas.Result.{err_from_is_err_and}
use Rattle.answer.specs.Calls.{answer_of}
use Rattle.covering_calls.specs.Decoded.{Decoded}
use Rattle.covering_calls.proofs.DecodedLaws.{decoded}
use Rattle.trial_calls.proofs.AnswerLaws.{no_owner, file_refused}
use Rattle.trial_calls.proofs.trial.Goals as goal
use Rattle.trial_calls.proofs.trial.Goals.{In_ok-h}

-- the file is decoded
file : (c : In_ok-h) → Decoded c.args.file.now c.in_ok-h.h c.decode.new.rows
file c =
    decoded c.args.file.now c.in_ok-h.h _ _ (sym (ap answer_of c.in_ok-h.was) ∙ c.decode.ensures.result_value) c.decode.ensures.rows_after

pub returns-in_err-check_owner : goal.returns-in_err-check_owner
returns-in_err-check_owner c =
    let a = c.args in
    let p = err_from_is_err_and c.from_residual.result c.from_residual.ensures.1 in
    let s = c.in_err-check_owner.ensures in
    rw (p.1, p.2, s.0) (no_owner a.owner a.index.now a.file.now a.s a.t a.first.now a.second.now s.1)

pub trial_in-requires : goal.trial_in-requires
trial_in-requires c = record {
  file_is = (_, file (goal.at.trial_in-requires c).In_ok-h);
  owner_value = c.in_ok-check_owner.ensures;
}

pub returns : goal.returns
returns c = c.trial_in.ensures _ (file (goal.at.returns c).In_ok-h)

pub returns-in_err-h : goal.returns-in_err-h
returns-in_err-h c =
    let a = c.args in
    let p = err_from_is_err_and c.from_residual-in_err-h.result c.from_residual-in_err-h.ensures.1 in
    rw (p.1, p.2)
    (file_refused a.owner a.index.now a.file.now a.s a.t a.first.now a.second.now c.in_ok-check_owner.ensures _
    (sym (ap answer_of c.in_err-h.was) ∙ c.decode.ensures.result_value))
