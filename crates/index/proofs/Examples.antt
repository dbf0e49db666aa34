-- Worked examples, by computing: a history on an index where two entries are an owner's capacity, with every refusal and a place that serves again;
-- what the owner is answered is what its own calls alone are; and the order of the entries. Assumes nothing.
use Prim.Native.Nat.{ℕ}
use mathlib.Core.Path.{◌≡◌, refl}
use mathlib.Core.List.{List, [], ◌∷◌}
use lib.IntN.{pos}
use Rattle.algebra.specs.Lists.{every, some, tally}
use Rattle.answer.specs.Answer.{refused, gives}
use Rattle.vector.specs.Vectors.{vec, is_vector}
use Rattle.index.specs.declared.Entry.{Entry}
use Rattle.index.specs.Exposures.{Exposure, exposure, key, only, Call, adds, removes, content_from, answers_from, content_of, answers_of}
use Rattle.index.specs.Entries.{entry, inserted, withdrawn}
use Rattle.index.specs.Noninterference.{calls_of, answers_to}

abbrev north : ℕ → ℕ → Exposure
north o n = exposure o n (pos 0) (pos 0) (pos 1048576)

-- 8 is no vector, 15 a number that is there, 16 a full owner, 17 a number that is not there; in the place of number 1, number 3 is taken at last
abbrev calls : List Call
calls =
    adds (north 0 1) ∷ adds (exposure 0 2 (pos 0) (pos 0) (pos 5)) ∷ adds (north 0 1) ∷ adds (north 0 2) ∷ adds (north 0 3) ∷ removes (key 0 3) ∷ removes (key 0 1) ∷ adds (north 0 3) ∷ []

pub history_example : (answers_of 2 calls ≡ gives tt ∷ refused 8 ∷ refused 15 ∷ gives tt ∷ refused 16 ∷ refused 17 ∷ gives tt ∷ gives tt ∷ [])
    × (content_of 2 calls ≡ north 0 3 ∷ north 0 2 ∷ [])
unfolding some tally is_vector only content_from answers_from
history_example = (refl, refl)

-- the other owner has number 1 too, may not remove number 2, which is not its own, and is full; a third is no owner, whatever it asks
abbrev both : List Call
both =
    adds (north 1 1) ∷ adds (north 0 1) ∷ adds (north 0 2) ∷ removes (key 1 2) ∷ adds (north 1 2) ∷ adds (north 1 3) ∷ adds (exposure 2 1 (pos 0) (pos 0) (pos 5)) ∷ removes (key 2 1)
    ∷ adds (north 0 3) ∷ removes (key 1 1) ∷ removes (key 0 1) ∷ []

pub owners_example : (answers_of 2 both ≡ gives tt ∷ gives tt ∷ gives tt ∷ refused 17 ∷ gives tt ∷ refused 16 ∷ refused 18 ∷ refused 18 ∷ refused 16 ∷ gives tt ∷ gives tt ∷ [])
    × (content_of 2 both ≡ north 1 2 ∷ north 0 2 ∷ [])
    × (answers_to 0 both (answers_of 2 both) ≡ answers_of 2 (calls_of 0 both))
unfolding some tally is_vector only content_from answers_from answers_to
owners_example = (refl, refl, refl)

-- by identifier, then by number, then by owner
abbrev e : ℕ → ℕ → ℕ → Entry
e id number owner = entry (pos id) (pos number) (pos owner) (vec (pos 0) (pos 0) (pos 0))

pub order_example : (inserted (e 8 5 0) (e 7 9 1 ∷ e 8 4 1 ∷ e 8 5 1 ∷ e 8 6 0 ∷ e 9 1 0 ∷ []) ≡ e 7 9 1 ∷ e 8 4 1 ∷ e 8 5 0 ∷ e 8 5 1 ∷ e 8 6 0 ∷ e 9 1 0 ∷ [])
    × (withdrawn (key 1 4) (e 7 9 0 ∷ e 8 4 0 ∷ e 8 4 1 ∷ e 8 6 1 ∷ []) ≡ e 7 9 0 ∷ e 8 4 0 ∷ e 8 6 1 ∷ [])
unfolding every inserted withdrawn
order_example = (refl, refl)
