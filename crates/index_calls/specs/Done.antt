-- A call that changes the index, as its contract has it. Document 02, F-10 and F-11.
--   Done a before after r   the call gave r by the answer a, and `after` is the list `before` with the entries that a gives; a refusal leaves it
use Rattle.std.specs.Prelude.{◌≡◌, List, ℤ}
use Rattle.std.specs.Prelude.{Result}
use Rattle.answer.specs.declared.Refusal.{Refusal}
use Rattle.answer.specs.Calls.{answer_of}
use Rattle.answer.specs.Answer.{Answer}
use Rattle.answer.specs.Lent.{stored}
use Rattle.index.specs.declared.Entry.{Entry}
use Rattle.index.specs.Exposures.{answered}
use Rattle.index.specs.Entries.{with_entries}

pub record Done (a : Answer (List Entry)) (before after : List ℤ) (r : Result (Unit {0}) Refusal) : Type 0 where
  pub answer : answer_of r ≡ answered a
  pub list : after ≡ stored with_entries a before
