-- The two owners do not interfere. Document 02, F-11: any two histories from an empty index with the same calls by one owner in the same order give that owner
-- the same answers, full included, however the other's calls differ. Calls of no owner may stand between them.
--   owner_of c         the owner that the call c names, 0 or 1 or no owner
--   calls_of o h       the calls of the history h that name the owner o
--   answers_to o h rs  of the answers rs to the history h those to the calls that name the owner o
--   Ran h rs n        the calls h one after the other, each as its contract has it, gave rs from an empty index on, and left the list n
--   Noninterference   the statement
--   OwnEntries        beside it: an owner's entries are those that its own calls leave, each once, in ascending order
use Rattle.std.specs.Prelude.{ℕ, ◌≡◌, cond, List, [], ◌∷◌, map, eqb, ℤ}
use Rattle.std.specs.Prelude.{Result}
use Rattle.answer.specs.declared.Refusal.{Refusal}
use Rattle.answer.specs.Calls.{answer_of}
use Rattle.index.specs.Exposures.{OwnerCapacity, only, Call, adds, removes, content_of}
use Rattle.index.specs.Entries.{is_owned, entries_in}
use Rattle.index.specs.HistoryCorrect.{EntriesMatch, IsEmpty, Runs, Numbered}

abbrev pub owner_of : Call → ℕ
owner_of (adds x) = x.owner
owner_of (removes k) = k.owner

abbrev pub calls_of : ℕ → List Call → List Call
calls_of o h = only (λ c. eqb (owner_of c) o) h

unfoldable pub answers_to : {A : Type 0} → ℕ → List Call → List A → List A
answers_to o [] rs = []
answers_to o (c ∷ h) [] = []
answers_to o (c ∷ h) (r ∷ rs) = cond (eqb (owner_of c) o) (r ∷ answers_to o h rs) (answers_to o h rs)

pub record Ran (h : List Call) (rs : List (Result (Unit {0}) Refusal)) (n : List ℤ) : Type 0 where
  pub start : List ℤ
  pub empty : IsEmpty start
  pub numbered : Numbered h
  pub runs : Runs start h rs n

abbrev pub Noninterference : Type 0
Noninterference = (o : ℕ) (h g : List Call) (rs qs : List (Result (Unit {0}) Refusal)) (m n : List ℤ) → Ran h rs m → Ran g qs n → calls_of o h ≡ calls_of o g
    → answers_to o h (map answer_of rs) ≡ answers_to o g (map answer_of qs)

abbrev pub OwnEntries : Type 0
OwnEntries = (o : ℕ) (h : List Call) (rs : List (Result (Unit {0}) Refusal)) (n : List ℤ) → Ran h rs n → EntriesMatch (content_of OwnerCapacity (calls_of o h)) (only (is_owned o) (entries_in n))
