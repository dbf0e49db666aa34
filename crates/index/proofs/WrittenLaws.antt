-- Entries that are written into a list are read there again, and leave its length: by recursion over the entries. Assumes nothing.
use Prim.Native.Nat.{ℕ, zero, suc, ◌*◌, ◌≤◌, min}
use mathlib.Core.Path.{◌≡◌, ap, ◌∙◌, refl}
use mathlib.Core.List.{List, [], ◌∷◌}
use native.Mathlib.Omega.{arith}
use lib.Dec.{leb}
use lib.ListN.{length, get_or, drop, length-drop}
use lib.IntN.{ℤ, pos, negsuc}
use Rattle.answer.specs.Answer.{gives, Space}
use Rattle.answer.proofs.AnswerLaws.{check_gives, same_value}
use Rattle.index.specs.declared.Entry.{Entry}
use Rattle.index.specs.Exposures.{IndexCapacity}
use Rattle.index.specs.Entries.{Width, IndexLength, count_of, count_in, entries_from, entries_in, written, with_entries}
use Rattle.index.specs.Answers.{count_answer}

pub length_entries : (n : ℕ) (l : List ℤ) → length (entries_from n l) ≡ n
unfolding entries_from
length_entries zero l = refl
length_entries (suc n) l = ap suc (length_entries n (drop Width l))

pub in_written : (es : List Entry) (l : List ℤ) → entries_from (length es) (written es l) ≡ es
unfolding entries_from written
in_written [] l = refl
in_written (e ∷ es) l = ap (λ x. e ∷ x) (in_written es (drop Width l))

pub length_written : (es : List Entry) (l : List ℤ) → Width * length es ≤ length l → length (written es l) ≡ length l
unfolding written
length_written [] l h = refl
length_written (e ∷ es) l h = omega (arith, length_written es (drop Width l) (omega (arith, length-drop Width l)), length-drop Width l)

-- an index keeps its length, and its entries are those that it was given
module _ (es : List Entry) (l : List ℤ) (few : length es ≤ IndexCapacity) (long : IndexLength ≤ length l) where
  pub with_entries_long : IndexLength ≤ length (with_entries es l)
  unfolding with_entries
  with_entries_long = omega (arith, length_written es (drop 1 l) (omega (arith, length-drop 1 l)), length-drop 1 l)

  pub entries_with : entries_in (with_entries es l) ≡ es
  unfolding with_entries entries_in
  entries_with = let e : min (length es) IndexCapacity ≡ length es = omega arith in ap (λ n. entries_from n (written es (drop 1 l))) e ∙ in_written es (drop 1 l)

pub length_in : (l : List ℤ) → length (entries_in l) ≡ count_in l
unfolding entries_in
length_in l = length_entries (count_in l) (drop 1 l)

-- ---- the count of a list is at most the capacity

few : (z : ℤ) → count_of z ≤ IndexCapacity
few (pos n) = omega arith
few (negsuc n) = omega arith

pub count_few : (l : List ℤ) (n : ℕ) → count_answer l ≡ gives n → n ≤ IndexCapacity
unfolding count_answer
count_few l n e = omega (arith, few (get_or l 0 (pos 0)), same_value (count_in l) n (check_gives Space (leb IndexLength (length l)) (gives (count_in l)) n e))
