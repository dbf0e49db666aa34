-- What the calls answer, and what they leave in the lent list. Document 02, F-10 and F-11. An owner is checked before all else. A list of fewer than
-- IndexLength elements is no index, and refused as space, 10; of any other the entries are those that `entries_in` reads, also where no history leaves it.
--   addable x, removable k                  what is asked of the call itself, before the list: 18, 8; 18
--   adding x l, removing k l, beginning l   the entries after the call, or its refusal: 18, 8, 10, 15, 16; 18, 10, 17; 10
--   add_answer, remove_answer, begin_answer    what the call answers: that it was done, or its refusal
--   add_after, remove_after, begin_after       the list afterwards: the entries in the place of the old ones, or all as it was after a refusal
--   count_answer l      how many entries there are; refusal 10
--   entry_answer i l    the entry at place i, or that there is none; refusal 10
--   entry_given r       what the call that reads an entry gave
use Rattle.std.specs.Prelude.{ℕ, List, [], leb, length, ℤ}
use Rattle.std.specs.Prelude.{Option, Some, None, Result, Ok, Err}
use Rattle.answer.specs.declared.Refusal.{Refusal}
use Rattle.answer.specs.Calls.{number}
use Rattle.answer.specs.Answer.{Answer, refused, gives, check, Vector, Space, Owner}
use Rattle.answer.specs.Lent.{stored}
use Rattle.vector.specs.Vectors.{is_vector}
use Rattle.index.specs.declared.Entry.{Entry}
use Rattle.index.specs.declared.Key.{Key}
use Rattle.index.specs.Exposures.{is_owner, Exposure, key_of, answered}
use Rattle.index.specs.Entries.{IndexLength, entry_of, count_in, entries_in, with_entries, inserting, withdrawing, Slot, found, nothing, slot_at}

-- what is answered on a list that is long enough
abbrev pub in_list : {A : Type 0} → List ℤ → Answer A → Answer A
in_list l a = check Space (leb IndexLength (length l)) a

abbrev pub addable : Exposure → Answer (Unit {0})
addable x = check Owner (is_owner x.owner) (check Vector (is_vector x.pointing) (gives tt))

abbrev pub removable : Key → Answer (Unit {0})
removable k = check Owner (is_owner k.owner) (gives tt)

abbrev pub adding : Exposure → List ℤ → Answer (List Entry)
adding x l = check Owner (is_owner x.owner) (check Vector (is_vector x.pointing) (in_list l (inserting (key_of x) (entry_of x) (entries_in l))))

abbrev pub removing : Key → List ℤ → Answer (List Entry)
removing k l = check Owner (is_owner k.owner) (in_list l (withdrawing k (entries_in l)))

abbrev pub beginning : List ℤ → Answer (List Entry)
beginning l = in_list l (gives [])

unfoldable pub add_answer : Exposure → List ℤ → Answer (Unit {0})
add_answer x l = answered (adding x l)

unfoldable pub add_after : Exposure → List ℤ → List ℤ
add_after x l = stored with_entries (adding x l) l

unfoldable pub remove_answer : Key → List ℤ → Answer (Unit {0})
remove_answer k l = answered (removing k l)

unfoldable pub remove_after : Key → List ℤ → List ℤ
remove_after k l = stored with_entries (removing k l) l

unfoldable pub begin_answer : List ℤ → Answer (Unit {0})
begin_answer l = answered (beginning l)

unfoldable pub begin_after : List ℤ → List ℤ
begin_after l = stored with_entries (beginning l) l

unfoldable pub count_answer : List ℤ → Answer ℕ
count_answer l = in_list l (gives (count_in l))

unfoldable pub entry_answer : ℕ → List ℤ → Answer Slot
entry_answer i l = in_list l (gives (slot_at i (entries_in l)))

abbrev pub entry_given : Result (Option Entry) Refusal → Answer Slot
entry_given (Ok (Some e)) = gives (found e)
entry_given (Ok None) = gives nothing
entry_given (Err r) = refused (number r)
