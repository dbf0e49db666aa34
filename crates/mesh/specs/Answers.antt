-- What the call that names an identifier answers, and what its lent list holds afterwards. Document 01, 'What is sent back'. The other calls of the
-- mesh lend nothing: `lookup` (Lookup), `identifier_of` (Names), `corners` (Identifiers).
--   name_into i before     the name to write, or the refusal: 11, then 10
--   name_answer i before   the name's length, or the refusal
--   name_after i before    the list afterwards: the name at its beginning
--   NamesOfCalls          `htm::identifier` reads back what `htm::name` wrote, and the other way round, by the contracts of the two calls (htm/src/lib.rt);
--                         proved in proofs/NamesInverse
use Rattle.std.specs.Prelude.{ℕ, ◌≤◌, ◌≡◌, List, length, take}
use Rattle.std.specs.Prelude.{Result, Ok}
use Rattle.answer.specs.declared.Refusal.{Refusal}
use Rattle.answer.specs.Answer.{Answer, then, with_value, gives}
use Rattle.answer.specs.Calls.{answer_of}
use Rattle.answer.specs.Lent.{put, stored, room}
use Rattle.mesh.specs.Names.{name_of, identifier_of}

abbrev pub name_into : ℕ → List ℕ → Answer (List ℕ)
name_into i before = then (name_of i) (λ s. room (length s) before s)

unfoldable pub name_answer : ℕ → List ℕ → Answer ℕ
name_answer i before = with_value length (name_into i before)

unfoldable pub name_after : ℕ → List ℕ → List ℕ
name_after i before = stored (put 0) (name_into i before) before

pub record NamesOfCalls : Type 0 where
  -- `name` gave n for the identifier i and left `after` in the lent list: `identifier`, on its first n elements, gives i
  pub read_back : (i n : ℕ) (before after : List ℕ) → answer_of (Ok n) ≡ name_answer i before → after ≡ name_after i before
      → (r : Result ℕ Refusal) → answer_of r ≡ identifier_of (take n after) → r ≡ Ok i
  -- `identifier` gave i for the name s: `name`, on a list that is long enough, gives the length of s and leaves s at its front, the rest as it was
  pub written_back : (i : ℕ) (s before after : List ℕ) → answer_of (Ok i) ≡ identifier_of s → length s ≤ length before
      → (r : Result ℕ Refusal) → answer_of r ≡ name_answer i before → after ≡ name_after i before → (r ≡ Ok (length s)) × (after ≡ put 0 s before)
