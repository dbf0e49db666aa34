-- A call that writes a file answers the refusal of the file, 10 where the lent list is shorter than the file, or the file's length. Only in the last case it
-- writes: the file, at the list's beginning. Assumes nothing.
use Prim.Native.Nat.{ℕ, ◌≤◌, ◌<◌}
use mathlib.Core.Path.{◌≡◌, sym, ap, ◌∙◌}
use mathlib.Core.List.{List}
use lib.ListN.{length}
use borrow.Author.Tests.{le-leb, lt-leb}
use Rattle.answer.specs.Answer.{Answer, refused, gives, check, with_value, Space}
use Rattle.answer.specs.Lent.{put, stored, room}
use Rattle.region.specs.Answers.{file_into, file_answer, file_after}

-- the call that writes w, a file or its refusal, to the list `before` answers a and leaves xs
abbrev pub Answered : Answer (List ℕ) → List ℕ → Answer ℕ → List ℕ → Type 0
Answered w before a xs = (a ≡ file_answer w before) × (xs ≡ file_after w before)

module _ (w : Answer (List ℕ)) (before : List ℕ) where
  pub answered : (a : Answer (List ℕ)) → file_into w before ≡ a → Answered w before (with_value length a) (stored (put 0) a before)
  unfolding file_answer file_after
  answered a e = (ap (with_value length) (sym e), ap (λ a. stored (put 0) a before) (sym e))

  pub no_file : (n : ℕ) → w ≡ refused n → Answered w before (refused n) before
  no_file n e = answered (refused n) (ap (λ a. file_into a before) e)

  into_room : (f : List ℕ) → w ≡ gives f → file_into w before ≡ room (length f) before f
  into_room f e = ap (λ a. file_into a before) e

  pub no_space : (f : List ℕ) → w ≡ gives f → length before < length f → Answered w before (refused Space) before
  no_space f e l = answered (refused Space) (into_room f e ∙ ap (λ t. check Space t (gives f)) (lt-leb (length f) (length before) l))

  pub file_written : (f : List ℕ) → w ≡ gives f → length f ≤ length before → Answered w before (gives (length f)) (put 0 f before)
  file_written f e l = answered (gives f) (into_room f e ∙ ap (λ t. check Space t (gives f)) (le-leb (length f) (length before) l))
