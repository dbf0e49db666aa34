-- `trial_calls::trial_in` makes the checks, and tries both settings. Assumes nothing.
use mathlib.Core.Path.{sym, subst}
use Rattle.std.specs.Prelude.{Ok}
use Rattle.std.proofs.lemmas.Result.{err_from_is_err_and}
use lib.ListN.{length}
use Rattle.covering_calls.proofs.DecodedLaws.{some_rows}
use Rattle.trial.specs.Answers.{TrialCall}
use Rattle.trial_calls.specs.Tries.{Checks}
use Rattle.trial_calls.proofs.CheckLaws.{SettingsPassed, passed}
use Rattle.trial_calls.proofs.AnswerLaws.{check_refused, tried_both}
use Rattle.trial_calls.proofs.trial_in.Goals as goal
use Rattle.trial_calls.proofs.trial_in.Goals.{In_ok-checks}

-- every check passed
good : (c : In_ok-checks) →
    let a = c.args in
    Checks (length a.index.now) a.s a.t (length a.first.now) (length a.second.now) (Ok tt)
good c =
    let a = c.args in
    subst (Checks (length a.index.now) a.s a.t (length a.first.now) (length a.second.now)) c.in_ok-checks.was c.checks.ensures

passes : (c : In_ok-checks) →
    let a = c.args in
    SettingsPassed (length a.index.now) a.s a.t (length a.first.now) (length a.second.now)
passes c =
    let a = c.args in
    passed (length a.index.now) a.s a.t (length a.first.now) (length a.second.now) (good c) c.requires.file_is.1.file

pub returns-in_err-checks : goal.returns-in_err-checks
returns-in_err-checks c f k =
    let a = c.args in
    let p = err_from_is_err_and c.from_residual.result c.from_residual.ensures.1 in
    rw (p.1, p.2)
    (check_refused a.owner a.index.now f a.s a.t a.first.now a.second.now c.requires.owner_value k _
    (subst (Checks (length a.index.now) a.s a.t (length a.first.now) (length a.second.now)) c.in_err-checks.was c.checks.ensures))

pub invariant_of-entries : goal.invariant_of-entries
invariant_of-entries c = record { long = (passes (goal.at.invariant_of-entries c).In_ok-checks).index }

pub try_setting-one-requires : goal.try_setting-one-requires
try_setting-one-requires c =
    let p = passes (goal.at.try_setting-one-requires c).In_ok-checks in
    record {
      le_depth = (p.one.0, p.one.1, some_rows c.requires.file_is.1);
      budget_in_bounds = p.first;
    }

pub try_setting-two-requires : goal.try_setting-two-requires
try_setting-two-requires c =
    let p = passes (goal.at.try_setting-two-requires c).In_ok-checks in
    record {
      le_depth = (p.two.0, p.two.1, some_rows c.requires.file_is.1);
      budget_in_bounds = p.second;
    }

pub returns : goal.returns
returns c f k =
    let a = c.args in
    let one = c.try_setting-one.new.ranges in
    let two = c.try_setting-two.new.ranges in
    subst (λ t. TrialCall a.owner a.index.now f a.s a.t a.first.now a.second.now (Ok t) one two) (sym c.compared.ensures)
    (tried_both a.owner a.index.now f a.s a.t a.first.now a.second.now c.requires.owner_value k (good (goal.at.returns c).In_ok-checks)
    c.try_setting-one.result c.try_setting-two.result one two (c.try_setting-one.ensures k.file.region k.rows) (c.try_setting-two.ensures k.file.region k.rows))
