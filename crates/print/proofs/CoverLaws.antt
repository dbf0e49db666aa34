-- A file that is refused has no cover: the call gives the refusal that the file has. Assumes nothing.
use Prim.Native.Nat.{ℕ, ◌*◌}
use mathlib.Core.Path.{◌≡◌, sym, ap, ◌∙◌}
use mathlib.Core.List.{List}
use Rattle.std.specs.Prelude.{Ok, Err, Some}
use Rattle.answer.specs.declared.Refusal.{Refusal}
use Rattle.answer.specs.Answer.{Answer, refused}
use Rattle.answer.specs.Calls.{number, answer_of}
use Rattle.answer.specs.Lent.{room}
use Rattle.answer.proofs.AnswerLaws.{refused_gives}
use Rattle.answer.proofs.LentLaws.{first_refusal}
use Rattle.region.specs.Reader.{read}
use Rattle.region.specs.Budgets.{budget_of}
use Rattle.covering.specs.declared.Counts.{Counts}
use Rattle.covering.specs.Cover.{cover, counts_of}
use Rattle.htm.specs.Answers.{cover_answer}
use Rattle.print.specs.declared.Fault.TheVariants.{Refused}
use Rattle.print.specs.Lost.{refusal_of}

same_number : (m n : ℕ) → ◌≡◌ {A = Answer Counts} (refused m) (refused n) → m ≡ n
same_number m n e = cc

module _ (f before : List ℕ) (n : ℕ) (e : read f ≡ refused n) where
  no_cover : cover_answer f before ≡ refused n
  unfolding cover_answer
  no_cover = first_refusal (λ x. counts_of (cover x)) (read f) (λ x. room (4 * budget_of x.budget) before x) n e

  pub refusal_read : (r : Refusal) → answer_of (Err r) ≡ cover_answer f before → refusal_of (Err (Refused r)) ≡ Some n
  refusal_read r c = ap (λ m. Some m) (same_number (number r) n (c ∙ no_cover))

  pub not_counted : {X : Type 0} (c : Counts) → answer_of (Ok c) ≡ cover_answer f before → X
  not_counted c g = refused_gives n c (sym no_cover ∙ sym g)
