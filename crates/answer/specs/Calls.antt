-- What a call sends back, in the terms of the rules. Document 01, 'What is sent back': a refusal carries its number only.
--   number r      the number of a refusal
--   answer_of r   what the call gave, or the number of its refusal
use Rattle.std.specs.Prelude.{ℕ, Result, Ok, Err}
use Rattle.answer.specs.declared.Refusal.{Refusal}
use Rattle.answer.specs.Answer as answer
use Rattle.answer.specs.Answer.{Answer, refused, gives}

abbrev pub number : Refusal → ℕ
number Refusal.Long = answer.Long
number Refusal.Torn = answer.Torn
number Refusal.Kind = answer.Kind
number Refusal.Order = answer.Order
number Refusal.Depth = answer.Depth
number Refusal.Budget = answer.Budget
number Refusal.Crowd = answer.Crowd
number Refusal.Vector = answer.Vector
number Refusal.Offset = answer.Offset
number Refusal.Space = answer.Space
number Refusal.Name = answer.Name
number Refusal.Float = answer.Float
number Refusal.Line = answer.Line
number Refusal.Mixed = answer.Mixed
number Refusal.Twice = answer.Twice
number Refusal.Full = answer.Full
number Refusal.Absent = answer.Absent
number Refusal.Owner = answer.Owner

module _ {A : Type 0} where
  abbrev pub answer_of : Result A Refusal → Answer A
  answer_of (Ok a) = gives a
  answer_of (Err r) = refused (number r)
