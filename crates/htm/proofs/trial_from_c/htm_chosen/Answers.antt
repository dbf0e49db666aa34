-- `htm::trial_from_c::htm_chosen` checks both lists, tests the status, and puts the part. Assumes nothing.
use Prim.Native.Nat.{ℕ}
use native.Mathlib.Omega.{arith}
use Rattle.std.specs.Prelude.{Ok}
use mathlib.Core.Path.{ap, ◌∙◌}
use mathlib.Core.List.{[], ◌∷◌}
use Rattle.answer.specs.Lent.{put}
use Rattle.htm_abi.specs.TrialValues.{part_list}
use Rattle.htm.proofs.CLaws.{sent}
use Rattle.htm.proofs.TrialCLaws.{few_numbers, no_room_for_part, no_part, some_part, zero_status, other_status}
use Rattle.htm.proofs.trial_from_c.htm_chosen.Goals as goal

pub returns-then-numbers-lt-TRIAL_COUNTS : goal.returns-then-numbers-lt-TRIAL_COUNTS
returns-then-numbers-lt-TRIAL_COUNTS c =
    let a = c.args in
    let k = few_numbers a.status a.numbers.now a.first.now a.second.now a.part.now (omega (arith, c.if-numbers-lt-TRIAL_COUNTS.true)) in
    record {
      value = sent c.minus.ensures c.number.ensures ∙ k.0;
      part_after = k.1;
    }

pub returns-then-part-lt-PART_LENGTH : goal.returns-then-part-lt-PART_LENGTH
returns-then-part-lt-PART_LENGTH c =
    let a = c.args in
    let k = no_room_for_part a.status a.numbers.now a.first.now a.second.now a.part.now (omega (arith, c.if-numbers-lt-TRIAL_COUNTS.false)) (omega (arith, c.if-part-lt-PART_LENGTH.true)) in
    record {
      value = sent c.minus-then-part-lt-PART_LENGTH.ensures c.number-then-part-lt-PART_LENGTH.ensures ∙ k.0;
      part_after = k.1;
    }

pub returns-then-status-ne0 : goal.returns-then-status-ne0
returns-then-status-ne0 c =
    let a = c.args in
    let k = no_part a.status a.numbers.now a.first.now a.second.now a.part.now (omega (arith, c.if-numbers-lt-TRIAL_COUNTS.false)) (omega (arith, c.if-part-lt-PART_LENGTH.false))
    (other_status a.status c.if-status-ne0.true) in
    record {
      value = k.0;
      part_after = c.put_part.ensures ∙ k.1;
    }

pub returns : goal.returns
returns c =
    let a = c.args in
    let k = some_part a.status a.numbers.now a.first.now a.second.now a.part.now (omega (arith, c.if-numbers-lt-TRIAL_COUNTS.false)) (omega (arith, c.if-part-lt-PART_LENGTH.false))
    (zero_status c.ranges.status c.if-status-ne0.false) in
    let e = c.trial_at-t.ensures in record {
      value = k.0;
      part_after = c.put_part-2.ensures ∙ (λ i. put 0 (c.choice_number.ensures i ∷ c.part_length-n.ensures i ∷ []) a.part.now)
          ∙ ap (λ r. put 0 (part_list {E = ℕ} (Ok r) a.first.now a.second.now) a.part.now) e ∙ k.1;
    }
