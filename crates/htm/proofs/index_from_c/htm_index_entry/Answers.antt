-- `htm::index_from_c::htm_index_entry` finds the entry, checks the lent list's length, and stores it; where there is none nothing is written. Assumes nothing.
use native.Mathlib.Omega.{arith}
use mathlib.Core.Path.{◌≡◌, sym, ap, ◌∙◌}
use Rattle.std.specs.Prelude.{Ok}
use Rattle.answer.specs.Answer.{gives}
use Rattle.index.specs.Entries.{Slot}
use Rattle.index.specs.Answers.{entry_answer, entry_given}
use Rattle.htm.proofs.CLaws.{sent, entry_refused, no_entry, no_entry_room, entry_put}
use Rattle.htm.proofs.index_from_c.htm_index_entry.Goals as goal
use Rattle.htm.proofs.index_from_c.htm_index_entry.Goals.{In-Ok-Some}

-- the entry that was found, by the rule
found : (c : In-Ok-Some) → gives (Slot.found c.in-Ok-Some.e) ≡ entry_answer c.args.place c.args.index.now
found c = sym (ap (λ o. entry_given (Ok o)) c.in-Ok-Some.field-0-is) ∙ sym (ap entry_given c.in-Ok-Some.is) ∙ c.index_entry.ensures

pub returns-then-out-lt-WIDTH : goal.returns-then-out-lt-WIDTH
returns-then-out-lt-WIDTH c =
    let s = c.args in
    let k = no_entry_room s.place s.index.now s.out.now _ (found (goal.at.returns-then-out-lt-WIDTH c).In-Ok-Some) (omega (arith, c.if-out-lt-WIDTH.true)) in
    record {
      value = sent c.minus.ensures c.number.ensures ∙ k.0;
      out_after = k.1;
    }

pub store_entry-requires : goal.store_entry-requires
store_entry-requires c = omega (arith, c.if-out-lt-WIDTH.false)

pub shape_of-out : goal.shape_of-out
shape_of-out c = c.store_entry.auto.index

pub returns-else-out-lt-WIDTH : goal.returns-else-out-lt-WIDTH
returns-else-out-lt-WIDTH c =
    let s = c.args in
    let k = entry_put s.place s.index.now s.out.now _ (found (goal.at.returns-else-out-lt-WIDTH c).In-Ok-Some) (omega (arith, c.if-out-lt-WIDTH.false)) in
    record {
      value = k.0;
      out_after = c.store_entry.ensures ∙ k.1;
    }

pub returns-in-Ok-None : goal.returns-in-Ok-None
returns-in-Ok-None c =
    let s = c.args in
    let both = no_entry s.place s.index.now s.out.now (sym (ap (λ o. entry_given (Ok o)) c.in-Ok-None.field-0-is) ∙ sym (ap entry_given c.in-Ok-None.is) ∙ c.index_entry.ensures) in record {
      value = both.0;
      out_after = both.1;
    }

pub returns-in-Err : goal.returns-in-Err
returns-in-Err c =
    let s = c.args in
    let k = entry_refused s.place s.index.now s.out.now _ (sym (ap entry_given c.in-Err.is) ∙ c.index_entry.ensures) in
    record {
      value = sent c.minus-in-Err.ensures c.number-in-Err.ensures ∙ k.0;
      out_after = k.1;
    }
