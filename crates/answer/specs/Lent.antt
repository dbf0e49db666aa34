-- Lent lists. Document 01, 'What is sent back': a refusal leaves every lent element as it was; number 10 where the list is too short.
--   put k xs before      the list with xs from element k on; the other elements stay
--   stored f a before    the list afterwards: f writes what the answer a gives; a refusal leaves it as it was
--   room n before a      a, or the refusal 10 where the list has fewer than n elements
use Rattle.std.specs.Prelude.{ℕ, ◌+◌, List, ◌++◌, leb, length, take, drop}
use Rattle.answer.specs.Answer.{Answer, refused, gives, check, Space}

module _ {X : Type 0} where
  abbrev pub put : ℕ → List X → List X → List X
  put k xs before = take k before ++ (xs ++ drop (k + length xs) before)

  abbrev pub stored : {A : Type 0} → (A → List X → List X) → Answer A → List X → List X
  stored f (refused n) before = before
  stored f (gives a) before = f a before

  abbrev pub room : {A : Type 0} → ℕ → List X → A → Answer A
  room n before a = check Space (leb n (length before)) (gives a)
