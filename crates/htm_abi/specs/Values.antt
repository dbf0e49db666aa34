-- What a host in C gets: a number instead of an answer, and the numbers of a value in a lent list. Document 01, 'What is sent back' and 'Regions'.
-- A refusal is minus its number; the call `lookup` and the identifier of a name give 0 instead. The calls that answer so: htm/specs/CalledFromC.
--   or_zero a        the identifier, or 0 for a refusal
--   number_for_c a    the number that is asked for, or minus the number of the refusal
--   held_for_c a      1 held, 0 not, or minus the number of the refusal
--   found_for_c a     1 where there is an entry, 0 where there is none, or minus the number of the refusal
--   status_of a      0, or minus the number of the refusal
--   corners_list c   x, y, z of each corner
--   header_list h    count, depth, budget
use Rattle.std.specs.Prelude.{ℕ, Bool, cond, List, [], ◌∷◌, ◌++◌, ℤ, pos, neg_ℤ}
use Rattle.answer.specs.Answer.{Answer, refused, gives}
use Rattle.vector.specs.Vectors.{three}
use Rattle.mesh.specs.declared.Corners.{Corners}
use Rattle.region.specs.declared.Header.{Header}
use Rattle.index.specs.Entries.{Slot, found, nothing}

-- ---- answers as numbers

abbrev pub or_zero : Answer ℕ → ℕ
or_zero (refused n) = 0
or_zero (gives i) = i

abbrev pub number_for_c : Answer ℕ → ℤ
number_for_c (refused n) = neg_ℤ (pos n)
number_for_c (gives n) = pos n

abbrev pub held_for_c : Answer Bool → ℤ
held_for_c (refused n) = neg_ℤ (pos n)
held_for_c (gives held) = cond held (pos 1) (pos 0)

abbrev pub found_for_c : Answer Slot → ℤ
found_for_c (refused n) = neg_ℤ (pos n)
found_for_c (gives nothing) = pos 0
found_for_c (gives (found e)) = pos 1

abbrev pub status_of : {A : Type 0} → Answer A → ℤ
status_of (refused n) = neg_ℤ (pos n)
status_of (gives a) = pos 0

-- ---- values as numbers

abbrev pub corners_list : Corners → List ℤ
corners_list c = three c.v0 ++ three c.v1 ++ three c.v2

abbrev pub header_list : Header → List ℕ
header_list h = h.count ∷ h.depth ∷ h.budget ∷ []
