-- The order of the checks of an add and of a removal, whatever list is lent. Document 02, F-10 and F-11. What is asked of the call itself comes
-- before the list: 18 before 8 before 10 for an add, 18 before 10 for a removal. A list that is too short is 10, before 15, 16 and 17. Assumes nothing.
--   add_refused, remove_refused    what is refused there is refused so of every list
--   add_short, remove_short        where nothing is refused there, a list that is too short is 10
use Prim.Native.Nat.{ℕ}
use mathlib.Core.Path.{◌≡◌, refl, ap, ◌∙◌}
use mathlib.Core.Bool.{Bool, true, false}
use mathlib.Core.List.{List}
use lib.Dec.{leb}
use lib.ListN.{length}
use lib.IntN.{ℤ}
use Rattle.answer.specs.Answer.{Answer, refused, gives, check, then, Vector, Space, Owner}
use Rattle.vector.specs.Vectors.{is_vector}
use Rattle.index.specs.declared.Entry.{Entry}
use Rattle.index.specs.declared.Key.{Key}
use Rattle.index.specs.Exposures.{is_owner, Exposure, key_of, answered}
use Rattle.index.specs.Entries.{IndexLength, entry_of, entries_in, inserting, withdrawing}
use Rattle.index.specs.Answers.{in_list, addable, removable, adding, removing, add_answer, remove_answer}

-- ---- two checks, and one, before the rest

module _ {A : Type 0} (a : Answer A) where
  behind_two : (m n : ℕ) (t u : Bool) → check m t (check n u a) ≡ then (check m t (check n u (gives (tt {0})))) (λ _. a)
  behind_two m n false u = refl
  behind_two m n true false = refl
  behind_two m n true true = refl

  behind_one : (m : ℕ) (t : Bool) → check m t a ≡ then (check m t (gives (tt {0}))) (λ _. a)
  behind_one m false = refl
  behind_one m true = refl

-- ---- an add

module _ (x : Exposure) (l : List ℤ) where
  abbrev with_entry : Answer (List Entry)
  with_entry = in_list l (inserting (key_of x) (entry_of x) (entries_in l))

  add_behind : adding x l ≡ then (addable x) (λ _. with_entry)
  add_behind = behind_two with_entry Owner Vector (is_owner x.owner) (is_vector x.pointing)

  pub add_refused : (n : ℕ) → addable x ≡ refused n → add_answer x l ≡ refused n
  unfolding add_answer
  add_refused n e = ap answered (add_behind ∙ ap (λ a. then a (λ _. with_entry)) e)

  pub add_short : addable x ≡ gives tt → leb IndexLength (length l) ≡ false → add_answer x l ≡ refused Space
  unfolding add_answer
  add_short e h =
      ap answered (add_behind ∙ ap (λ a. then a (λ _. with_entry)) e ∙ ap (λ t. check Space t (inserting (key_of x) (entry_of x) (entries_in l))) h)

-- ---- a removal

module _ (k : Key) (l : List ℤ) where
  abbrev left : Answer (List Entry)
  left = in_list l (withdrawing k (entries_in l))

  remove_behind : removing k l ≡ then (removable k) (λ _. left)
  remove_behind = behind_one left Owner (is_owner k.owner)

  pub remove_refused : (n : ℕ) → removable k ≡ refused n → remove_answer k l ≡ refused n
  unfolding remove_answer
  remove_refused n e = ap answered (remove_behind ∙ ap (λ a. then a (λ _. left)) e)

  pub remove_short : removable k ≡ gives tt → leb IndexLength (length l) ≡ false → remove_answer k l ≡ refused Space
  unfolding remove_answer
  remove_short e h = ap answered (remove_behind ∙ ap (λ a. then a (λ _. left)) e ∙ ap (λ t. check Space t (withdrawing k (entries_in l))) h)
