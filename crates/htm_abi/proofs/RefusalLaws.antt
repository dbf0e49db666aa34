-- The refusal of a file for which a lent list is too short: its own or 10, by what the decoder answers. Assumes nothing.
use mathlib.Core.Path.{◌≡◌, sym, ap, ◌∙◌}
use mathlib.Core.List.{List}
use Rattle.std.specs.Prelude.{Result, Ok, Err}
use Rattle.answer.specs.declared.Refusal.{Refusal}
use Rattle.answer.specs.Calls.{number, answer_of}
use Rattle.answer.specs.Answer.{Answer, refused, then, with_value}
use Rattle.answer.proofs.AnswerLaws.{value_gives, value_refused}
use Rattle.region.specs.declared.Header.{Header}
use Rattle.region.specs.Reader.{File, read}
use Rattle.region.specs.Answers.{header_of}

-- what the decoder said, and what follows it where the file is accepted
module _ (f : List _) (a : Answer File) {r : Result Header Refusal} (e : answer_of r ≡ with_value header_of (read f)) where
  pub accepted : (h : Header) → r ≡ Ok h → then (read f) (λ x. a) ≡ a
  accepted h k = let v = value_gives header_of (read f) h (sym e ∙ ap answer_of k) in ap (λ y. then y (λ x. a)) v.1

  pub file_refused : (n : Refusal) → r ≡ Err n → then (read f) (λ x. a) ≡ refused (number n)
  file_refused n k = ap (λ y. then y (λ x. a)) (value_refused header_of (read f) (number n) (sym e ∙ ap answer_of k))
