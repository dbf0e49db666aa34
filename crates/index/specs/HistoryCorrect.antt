-- The theorem of the index. Document 02, F-10: over every list of adds and removes from an empty index, the content is the set that the accepted ones leave,
-- and a withdrawn place serves again; F-11: with two owners, each of whom may have 1024 entries.
--   Ascends es        each entry precedes the next
--   EntriesMatch xs es   es are the entries of the exposures xs, each once, in ascending order: of es as many pass every test as of xs
--   is_filed e         e is the entry of a number of 32 bits, an owner and a vector
--   IsIndex l         the list l is an index; IsEmpty l: one without entries
--   Does ..           the call c, as its contract has it, gave r and left the list `after` of `before`
--   Runs l h rs n     the calls h one after the other give rs, from the list l on, and leave the list n
--   Numbered h        the numbers of the exposures that h adds have 32 bits
--   IsNew x h         after the history h, x may be added as far as its owner, its pointing and its number go
--   ServesAgain h     after the history h, another exposure of an owner that has 1024 is refused as full; and when one is withdrawn, whether there were 1024 or
--                     fewer, any other of the same owner is accepted
--   Leaves h rs n     the answers rs and the list n are what the rule says of the history h
--   HistoryCorrect    the statement: lists of zeros, and lists that `begin` leaves, are empty indexes; from one every history leaves what it should; and in
--                     an index there is room wherever an owner has a place
use Rattle.std.specs.Prelude.{ℕ, ◌≤◌, ◌≡◌, Bool, true, false, ◌&&◌, ◌||◌, List, [], ◌∷◌, ◌++◌, map, length, get_or, ℤ, pos, nat_abs}
use Rattle.std.specs.Prelude.{Result}
use Rattle.answer.specs.declared.Refusal.{Refusal}
use Rattle.answer.specs.Calls.{answer_of}
use Rattle.std.specs.Int.Signed.{le_z}
use Rattle.algebra.specs.Lists.{every, some, tally}
use Rattle.answer.specs.Answer.{Answer, refused, gives, Full}
use Rattle.vector.specs.Numbers.{eq_z}
use Rattle.vector.specs.Vectors.{is_vector}
use Rattle.mesh.specs.Lookup.{identifier}
use Rattle.index.specs.declared.Entry.{Entry}
use Rattle.index.specs.declared.Key.{Key}
use Rattle.index.specs.Exposures.{IndexCapacity, OwnerCapacity, is_owner, Exposure, is_number, key_of, has_owner, has_key, has_place}
use Rattle.index.specs.Exposures.{Call, adds, removes, content_of, answers_of}
use Rattle.index.specs.Entries.{IndexLength, entry_of, precedes, is_owned, is_keyed, has_room, entries_in}
use Rattle.index.specs.Answers.{add_answer, add_after, remove_answer, remove_after, begin_answer, begin_after, count_answer}

-- ---- an index

abbrev pub Ascends : List Entry → Type 0
Ascends [] = Unit {0}
Ascends (a ∷ []) = Unit {0}
Ascends (a ∷ b ∷ rest) = (precedes a b ≡ true) × Ascends (b ∷ rest)

pub record EntriesMatch (xs : List Exposure) (es : List Entry) : Type 0 where
  pub ascends : Ascends es
  pub exactly : (f : Entry → Bool) → tally f es ≡ tally (λ x. f (entry_of x)) xs

abbrev pub is_filed : Entry → Bool
is_filed e =
    le_z (pos 0) e.number && is_number (nat_abs e.number) && (is_owned 0 e || is_owned 1 e)
    && is_vector e.pointing && eq_z e.id (pos (identifier e.pointing 12))

pub record IsIndex (l : List ℤ) : Type 0 where
  pub long : IndexLength ≤ length l
  pub counted : get_or l 0 (pos 0) ≡ pos (length (entries_in l))
  pub few : length (entries_in l) ≤ IndexCapacity
  pub within : (o : ℕ) → tally (is_owned o) (entries_in l) ≤ OwnerCapacity
  pub ascends : Ascends (entries_in l)
  pub differ : (k : Key) → tally (is_keyed k) (entries_in l) ≤ 1
  pub filed : every is_filed (entries_in l) ≡ true

abbrev pub IsEmpty : List ℤ → Type 0
IsEmpty l = IsIndex l × (entries_in l ≡ [])

-- ---- the calls, one after the other

abbrev pub call_answer : Call → List ℤ → Answer (Unit {0})
call_answer (adds x) l = add_answer x l
call_answer (removes k) l = remove_answer k l

abbrev pub call_after : Call → List ℤ → List ℤ
call_after (adds x) l = add_after x l
call_after (removes k) l = remove_after k l

pub record Does (c : Call) (before after : List ℤ) (r : Result (Unit {0}) Refusal) : Type 0 where
  pub answer : answer_of r ≡ call_answer c before
  pub list : after ≡ call_after c before

abbrev pub Runs : List ℤ → List Call → List (Result (Unit {0}) Refusal) → List ℤ → Type 0
Runs l [] [] n = n ≡ l
Runs l [] (r ∷ rs) n = ⊥
Runs l (c ∷ h) [] n = ⊥
Runs l (c ∷ h) (r ∷ rs) n = (m : List ℤ) × Does c l m r × Runs m h rs n

abbrev pub numbered : Call → Bool
numbered (adds x) = is_number x.number
numbered (removes k) = true

abbrev pub Numbered : List Call → Type 0
Numbered h = every numbered h ≡ true

-- ---- the statement

-- of an exposure x and the history h: x has an owner and a vector, and its number is not the owner's after h
pub record IsNew (x : Exposure) (h : List Call) : Type 0 where
  pub owned : is_owner x.owner ≡ true
  pub pointed : is_vector x.pointing ≡ true
  pub absent : some (has_key (key_of x)) (content_of OwnerCapacity h) ≡ false

pub record ServesAgain (h : List Call) : Type 0 where
  pub full : (x : Exposure) → IsNew x h → tally (has_owner x.owner) (content_of OwnerCapacity h) ≡ OwnerCapacity
      → answers_of OwnerCapacity (h ++ adds x ∷ []) ≡ answers_of OwnerCapacity h ++ refused Full ∷ []
  pub again : (k : Key) (x : Exposure) → some (has_key k) (content_of OwnerCapacity h) ≡ true → k.owner ≡ x.owner → IsNew x (h ++ removes k ∷ [])
      → answers_of OwnerCapacity (h ++ removes k ∷ adds x ∷ []) ≡ answers_of OwnerCapacity h ++ gives tt ∷ gives tt ∷ []

pub record Leaves (h : List Call) (rs : List (Result (Unit {0}) Refusal)) (n : List ℤ) : Type 0 where
  pub answers : map answer_of rs ≡ answers_of OwnerCapacity h
  pub index : IsIndex n
  pub content : EntriesMatch (content_of OwnerCapacity h) (entries_in n)
  pub count : count_answer n ≡ gives (length (content_of OwnerCapacity h))
  pub again : ServesAgain h

pub record HistoryCorrect : Type 0 where
  pub zeros : (l : List ℤ) → IndexLength ≤ length l → every (eq_z (pos 0)) l ≡ true → IsEmpty l
  pub begun : (l : List ℤ) → IndexLength ≤ length l → (begin_answer l ≡ gives tt) × IsEmpty (begin_after l)
  pub kept : (l n : List ℤ) (h : List Call) (rs : List (Result (Unit {0}) Refusal)) → IsEmpty l → Numbered h → Runs l h rs n → Leaves h rs n
  pub room : (l : List ℤ) (o : ℕ) → IsIndex l → is_owner o ≡ true → has_place OwnerCapacity (is_owned o) (entries_in l) ≡ true → has_room (entries_in l) ≡ true
