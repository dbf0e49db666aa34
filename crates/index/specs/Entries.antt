-- The entries of an index, and how they stand in a lent list. Document 02, F-10: ordered by depth-12 identifier and then number; F-11: entries alike in both
-- stand with owner 0 first. In the list, element 0 is the count, and then come the entries, six numbers each: identifier, number, owner, x, y, z. The
-- definitions are for every list, index or not.
--   entry_of x         the entry of an exposure
--   below y z t       y is below z or, where they are equal, t: one part of an order, and what the parts after it say
--   precedes a b      the order of the entries; by_number a b: of those with one identifier
--   is_owned o e       e is an entry of the owner o
--   is_keyed k e       e is the entry of the exposure with the key k
--   Width, numbers e  how many numbers an entry has, and which, as they stand in the list
--   IndexLength       the fewest elements of a list that is lent for an index
--   entry_at l k       the entry whose numbers begin at element k of the list l
--   entries_from n l   the first n entries of a list l without count
--   count_in l         the count in element 0 of the list l: 0 where that is below 0, and at most IndexCapacity
--   entries_in l       the entries in the list l
--   written es l      the list l without count with the entries es at its front; the other elements stay
--   with_entries es l  the list l with the entries es in the place of its own
--   inserted e es     e before those entries at the end that it precedes
--   withdrawn k es    without the first entry that has the key k
--   has_room es        the list has room for another entry, of either owner
--   inserting         the entries after an add, or the refusal: 15 twice, 16 full; withdrawing: after a removal, or 17 absent
--   Slot              what stands at a place: an entry, or nothing
--   slot_at i es       what stands at place i, counted from 0: nothing past the last entry
use Rattle.std.specs.Prelude.{ℕ, zero, suc, ◌+◌, ◌*◌, min, Bool, cond, not, ◌&&◌, ◌||◌, List, [], ◌∷◌, ◌++◌, ltb, length, get_or, drop, ℤ, pos, negsuc}
use Rattle.std.specs.Int.Signed.{lt_z}
use Rattle.algebra.specs.Lists.{every, some}
use Rattle.answer.specs.Answer.{Answer, gives, check, Twice, Full, Absent}
use Rattle.vector.specs.declared.Vec3.{Vec3}
use Rattle.vector.specs.Numbers.{eq_z}
use Rattle.vector.specs.Vectors.{vec, three}
use Rattle.mesh.specs.Lookup.{identifier}
use Rattle.index.specs.declared.Entry.{Entry}
use Rattle.index.specs.declared.Key.{Key}
use Rattle.index.specs.Exposures.{IndexCapacity, OwnerCapacity, Exposure, has_place}

abbrev pub entry : ℤ → ℤ → ℤ → Vec3 → Entry
entry id number owner pointing = record { id = id; number = number; owner = owner; pointing = pointing }

abbrev pub entry_of : Exposure → Entry
entry_of x = entry (pos (identifier x.pointing 12)) (pos x.number) (pos x.owner) x.pointing

abbrev pub below : ℤ → ℤ → Bool → Bool
below y z t = lt_z y z || (eq_z y z && t)

-- by identifier, then by number, then by owner
abbrev pub by_number : Entry → Entry → Bool
by_number a b = below a.number b.number (lt_z a.owner b.owner)

abbrev pub precedes : Entry → Entry → Bool
precedes a b = below a.id b.id (by_number a b)

abbrev pub is_owned : ℕ → Entry → Bool
is_owned o e = eq_z e.owner (pos o)

abbrev pub is_keyed : Key → Entry → Bool
is_keyed k e = eq_z e.number (pos k.number) && is_owned k.owner e

-- ---- in a list

abbrev pub Width : ℕ
Width = 6

abbrev pub IndexLength : ℕ
IndexLength = 1 + Width * IndexCapacity

abbrev pub numbers : Entry → List ℤ
numbers e = e.id ∷ e.number ∷ e.owner ∷ three e.pointing

abbrev pub entry_at : List ℤ → ℕ → Entry
entry_at l k =
    entry (get_or l k (pos 0)) (get_or l (k + 1) (pos 0)) (get_or l (k + 2) (pos 0)) (vec (get_or l (k + 3) (pos 0)) (get_or l (k + 4) (pos 0)) (get_or l (k + 5) (pos 0)))

unfoldable pub entries_from : ℕ → List ℤ → List Entry
entries_from zero l = []
entries_from (suc n) l = entry_at l 0 ∷ entries_from n (drop Width l)

abbrev pub count_of : ℤ → ℕ
count_of (pos n) = min n IndexCapacity
count_of (negsuc n) = 0

abbrev pub count_in : List ℤ → ℕ
count_in l = count_of (get_or l 0 (pos 0))

unfoldable pub entries_in : List ℤ → List Entry
entries_in l = entries_from (count_in l) (drop 1 l)

unfoldable pub written : List Entry → List ℤ → List ℤ
written [] l = l
written (e ∷ es) l = numbers e ++ written es (drop Width l)

unfoldable pub with_entries : List Entry → List ℤ → List ℤ
with_entries es l = pos (length es) ∷ written es (drop 1 l)

-- ---- an entry inserted, withdrawn, found by its place

unfoldable pub inserted : Entry → List Entry → List Entry
inserted e [] = e ∷ []
inserted e (x ∷ es) = cond (every (precedes e) (x ∷ es)) (e ∷ x ∷ es) (x ∷ inserted e es)

unfoldable pub withdrawn : Key → List Entry → List Entry
withdrawn k [] = []
withdrawn k (x ∷ es) = cond (is_keyed k x) es (x ∷ withdrawn k es)

-- In an index this is so wherever the entry's owner has a place (`HistoryCorrect.room`); it is asked for the sake of other lists.
abbrev pub has_room : List Entry → Bool
has_room es = ltb (length es) IndexCapacity

-- the entry e of the exposure with the key k
abbrev pub inserting : Key → Entry → List Entry → Answer (List Entry)
inserting k e es =
    check Twice (not (some (is_keyed k) es)) (check Full (has_place OwnerCapacity (is_owned k.owner) es) (check Full (has_room es) (gives (inserted e es))))

abbrev pub withdrawing : Key → List Entry → Answer (List Entry)
withdrawing k es = check Absent (some (is_keyed k) es) (gives (withdrawn k es))

pub data Slot : Type 0 where
  found : Entry → Slot
  nothing : Slot

unfoldable pub slot_at : ℕ → List Entry → Slot
slot_at i [] = nothing
slot_at zero (e ∷ es) = found e
slot_at (suc i) (e ∷ es) = slot_at i es
