-- `htm::trial_from_c::htm_trial` checks that there is room for the result, and tries. Assumes nothing.
use native.Mathlib.Omega.{arith}
use mathlib.Core.Path.{◌≡◌, sym, ap, ◌∙◌}
use Rattle.answer.specs.Calls.{answer_of}
use Rattle.answer.specs.Answer.{Answer}
use Rattle.answer.specs.Lent.{put, stored}
use Rattle.trial.specs.declared.Trial.{Trial}
use Rattle.trial.specs.Answers.{trial_list}
use Rattle.htm_abi.specs.TrialValues.{setting_of}
use Rattle.htm_abi.specs.Values.{status_of}
use Rattle.htm.specs.TrialFromC.{TrialCallC}
use Rattle.htm.proofs.CLaws.{sent}
use Rattle.htm.proofs.TrialCLaws.{short_numbers, long_numbers}
use Rattle.htm.proofs.trial_from_c.htm_trial.Goals as goal
use Rattle.htm.proofs.trial_from_c.htm_trial.Goals.{After-trial}

-- what the trial answered, and the lists as it left them
results : (v : After-trial) (a : Answer Trial) → a ≡ answer_of v.trial.result →
    let b = v.args in
    TrialCallC b.owner b.index.now b.file.now (setting_of b.depth_1 b.budget_1) (setting_of b.depth_2 b.budget_2)
    b.first.now b.second.now b.numbers.now (status_of a)
    v.trial.new.first v.trial.new.second (stored (λ r before. put 0 (trial_list r) before) a b.numbers.now)
results v a q =
    let b = v.args in
    long_numbers b.owner b.index.now b.file.now (setting_of b.depth_1 b.budget_1) (setting_of b.depth_2 b.budget_2)
    b.first.now b.second.now b.numbers.now (omega (arith, v.if-numbers-lt-TRIAL_COUNTS.false)) a _ _
    (q ∙ v.trial.ensures.answer) v.trial.ensures.first_left v.trial.ensures.second_left

pub returns-then-numbers-lt-TRIAL_COUNTS : goal.returns-then-numbers-lt-TRIAL_COUNTS
returns-then-numbers-lt-TRIAL_COUNTS c =
    let a = c.args in
    let k = short_numbers a.owner a.index.now a.file.now (setting_of a.depth_1 a.budget_1) (setting_of a.depth_2 a.budget_2)
    a.first.now a.second.now a.numbers.now (omega (arith, c.if-numbers-lt-TRIAL_COUNTS.true)) _ c.trial_refusal_or_space-refusal.ensures in
    record { status_is = sent c.minus.ensures c.number.ensures ∙ k.status_is; first_left = k.first_left; second_left = k.second_left; numbers_left = k.numbers_left }

pub returns-in-Ok : goal.returns-in-Ok
returns-in-Ok c =
    let k = results (goal.at.returns-in-Ok c).After-trial _ (sym (ap answer_of c.in-Ok.is)) in
    record { status_is = k.status_is; first_left = k.first_left; second_left = k.second_left; numbers_left = c.put_trial.ensures ∙ k.numbers_left }

pub returns-in-Err : goal.returns-in-Err
returns-in-Err c =
    let k = results (goal.at.returns-in-Err c).After-trial _ (sym (ap answer_of c.in-Err.is)) in
    record { status_is = sent c.minus-in-Err.ensures c.number-in-Err.ensures ∙ k.status_is; first_left = k.first_left; second_left = k.second_left; numbers_left = k.numbers_left }
