-- `htm_abi::trials::trial_refusal_or_space` checks the owner, the file and the settings. Assumes nothing.
use native.Mathlib.Omega.{arith}
use mathlib.Core.Path.{◌≡◌, ap, ◌∙◌}
use borrow.Author.Tests.{lt-ltb, le-ltb}
use Rattle.answer.specs.Answer.{check, then, Owner}
use Rattle.region.specs.Reader.{read}
use Rattle.htm_abi.specs.ShortLists.{setting_refusal_or_space, trial_refusal_or_space}
use Rattle.htm_abi.proofs.RefusalLaws.{accepted, file_refused}
use Rattle.htm_abi.proofs.trials.trial_refusal_or_space.Goals as goal
use Rattle.htm_abi.proofs.trials.trial_refusal_or_space.Goals.{Else-owner-ge-OWNERS}

own : (c : Else-owner-ge-OWNERS) →
    let a = c.args in
    trial_refusal_or_space a.owner a.file.now a.s a.t ≡ then (read a.file.now) (λ x. setting_refusal_or_space a.s a.t)
own c =
    let a = c.args in
    ap (λ b. check Owner b (then (read a.file.now) (λ x. setting_refusal_or_space a.s a.t))) (lt-ltb a.owner 2 (omega (arith, c.if-owner-ge-OWNERS.false)))

pub returns-then-owner-ge-OWNERS : goal.returns-then-owner-ge-OWNERS
returns-then-owner-ge-OWNERS c =
    let a = c.args in
    ap (λ b. check Owner b (then (read a.file.now) (λ x. setting_refusal_or_space a.s a.t))) (le-ltb a.owner 2 (omega (arith, c.if-owner-ge-OWNERS.true)))

pub returns-in-Ok : goal.returns-in-Ok
returns-in-Ok c =
    let a = c.args in
    own (goal.at.returns-in-Ok c).Else-owner-ge-OWNERS
    ∙ accepted a.file.now (setting_refusal_or_space a.s a.t) c.decode.ensures.result_value _ c.in-Ok.is
    ∙ c.setting_refusal_or_space.ensures

pub returns-in-Err : goal.returns-in-Err
returns-in-Err c =
    let a = c.args in
    own (goal.at.returns-in-Err c).Else-owner-ge-OWNERS ∙ file_refused a.file.now (setting_refusal_or_space a.s a.t) c.decode.ensures.result_value _ c.in-Err.is
