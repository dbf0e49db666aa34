-- The check of a lent list comes last: a refusal stays as it is, and an answer stays where the list is long enough. A refusal leaves the list as it was, and
-- what was put at its beginning is its front. Assumes nothing.
use Prim.Native.Nat.{ℕ, ◌+◌, ◌≤◌}
use mathlib.Core.Path.{◌≡◌, ap, ◌∙◌}
use mathlib.Core.List.{List}
use lib.Dec.{leb}
use lib.ListN.{length, take, drop}
use lib.Seq.{take_at}
use borrow.Author.Tests.{le-leb}
use Rattle.answer.specs.Answer.{Answer, refused, gives, check, then, with_value, Space}
use Rattle.answer.specs.Lent.{put, stored, room}
use Rattle.answer.proofs.AnswerLaws.{check_gives, then_gives, value_refused}

module _ {A B : Type 0} (value : A → B) where
  pub first_refusal : (a : Answer A) (f : A → Answer A) (n : ℕ) → a ≡ refused n → with_value value (then a f) ≡ refused n
  first_refusal a f n e = ap (λ x. with_value value (then x f)) e

  pub not_stored : {X : Type 0} (write : A → List X → List X) (a : Answer A) (before : List X) (n : ℕ) → with_value value a ≡ refused n → stored write a before ≡ before
  not_stored write a before n e = ap (λ x. stored write x before) (value_refused value a n e)

module _ {X A : Type 0} (before : List X) where
  -- what is given after the check of the list was given before it
  pub room_gives : (n : A → ℕ) (a : Answer A) (y : A) → then a (λ x. room (n x) before x) ≡ gives y → a ≡ gives y
  room_gives n a y e =
      let w = then_gives a (λ x. room (n x) before x) y e in
      w.1 ∙ check_gives Space (leb (n w.0) (length before)) (gives w.0) y w.2

  pub has_room : (n : A → ℕ) (a : Answer A) (y : A) → a ≡ gives y → n y ≤ length before → then a (λ x. room (n x) before x) ≡ gives y
  has_room n a y e h = ap (λ a. then a (λ x. room (n x) before x)) e ∙ ap (λ t. check Space t (gives y)) (le-leb (n y) (length before) h)

module _ {X : Type 0} (before : List X) where
  -- what was put at a list's beginning
  pub front : (xs : List X) (n : ℕ) → length xs ≡ n → take n (put 0 xs before) ≡ xs
  front xs n e = take_at xs (drop (0 + length xs) before) n e
