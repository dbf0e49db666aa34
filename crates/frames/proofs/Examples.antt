-- Worked examples of the walk, of what it delivers and counts, and of the checks, by computing: a bent rule is refused here. Document 02, F-12.
-- Assumes nothing.
--   day_example        entries beside two outer and two inner ranges, at both ends of each: what becomes of every entry
--   counts_example     what is delivered and tested of them; neither a skipped entry nor an inner one is a test
--   behind_example     entries out of order: a range that was passed is left behind, and an entry in it is skipped
--   depth_examples     identifiers shortened to the depth; second_example: a walk at depth 2
--   number_examples    what is delivered of a number, also of one that no index has
--   owner_example      the entries of one owner; capacity_example: the first 1024 of them
--   check_examples     18, then the file, then 10 for the range list, for 1023 numbers and for a list that is no index
use Prim.Native.Nat.{ℕ, ◌+◌, ◌*◌}
use mathlib.Core.Path.{◌≡◌, refl}
use mathlib.Core.Bool.{Bool}
use mathlib.Core.List.{List, [], ◌∷◌, map}
use lib.ListN.{replicate}
use lib.IntN.{ℤ, pos, negsuc, neg_ℤ}
use lib.Signed.{le_z}
use Rattle.algebra.specs.Lists.{tally, numbers_from}
use Rattle.answer.specs.Answer.{refused, gives, Torn, Space, Owner}
use Rattle.vector.specs.Numbers.{K}
use Rattle.vector.specs.declared.Vec3.{Vec3}
use Rattle.vector.specs.Vectors.{vec, is_vector}
use Rattle.region.specs.Building.{last_convex, total, with_halfspace, add}
use Rattle.region.specs.Regions.{Region}
use Rattle.region.specs.Reader.{header, record_in, records_in, read}
use Rattle.region.specs.Writer.{file_in, convexes_bytes, halfspaces_bytes}
use Rattle.ranges.specs.declared.Range.{Range}
use Rattle.ranges.specs.Ranges.{range}
use Rattle.index.specs.declared.Entry.{Entry}
use Rattle.index.specs.Exposures.{only}
use Rattle.index.specs.Entries.{entry, entries_from, entries_in, written, with_entries}
use Rattle.frames.specs.declared.Disposition.{Disposition}
use Rattle.frames.specs.declared.Disposition.TheVariants.{Skipped, Unchecked, Held, Discarded}
use Rattle.frames.specs.Walk.{shortened, number_of, entries_of, ahead, WalkStep, walk_step, walk, delivered_by, tests_of}
use Rattle.frames.specs.Answers.{frames_into, frames_by, frames_list}
use Rattle.region.specs.declared.Style.{Style}

-- ---- entries of owner 0: an identifier, a number and a pointing that the test holds, that it does not, that is no vector

abbrev north : Vec3
north = vec (pos 0) (pos 0) K

abbrev south : Vec3
south = vec (pos 0) (pos 0) (neg_ℤ K)

abbrev neither : Vec3
neither = vec (pos 0) (pos 0) (pos 5)

abbrev held : Vec3 → Bool
held p = le_z (pos 0) p.z

abbrev e : ℕ → ℕ → Vec3 → Entry
e id number pointing = entry (pos id) (pos number) (pos 0) pointing

-- ---- a walk at depth 12

abbrev outer : List Range
outer = range 10 19 ∷ range 30 39 ∷ []

abbrev inner : List Range
inner = range 12 14 ∷ range 30 31 ∷ []

abbrev day : List WalkStep
day =
    walk_step (e 9 1 north) Skipped ∷ walk_step (e 10 2 north) Held ∷ walk_step (e 11 3 south) Discarded
    ∷ walk_step (e 12 4 south) Unchecked ∷ walk_step (e 12 5 north) Unchecked ∷ walk_step (e 14 6 neither) Unchecked
    ∷ walk_step (e 15 7 neither) Discarded ∷ walk_step (e 19 8 north) Held ∷ walk_step (e 19 9 south) Discarded
    ∷ walk_step (e 20 10 north) Skipped ∷ walk_step (e 29 11 south) Skipped
    ∷ walk_step (e 30 12 south) Unchecked ∷ walk_step (e 31 13 north) Unchecked
    ∷ walk_step (e 32 14 north) Held ∷ walk_step (e 39 15 south) Discarded ∷ walk_step (e 40 16 north) Skipped ∷ []

abbrev entries : List WalkStep → List Entry
entries ms = map (λ m. m.entry) ms

pub day_example : walk 12 held outer inner (entries day) ≡ day
unfolding walk ahead is_vector
day_example = refl

pub counts_example : (delivered_by day ≡ 2 ∷ 4 ∷ 5 ∷ 6 ∷ 8 ∷ 12 ∷ 13 ∷ 14 ∷ [])
    × (tests_of day ≡ 7)
    × (frames_list (frames_by day) ≡ 8 ∷ 7 ∷ [])
    × (tests_of (walk_step (e 9 1 north) Skipped ∷ []) ≡ 0)
    × (tests_of (walk_step (e 12 4 south) Unchecked ∷ []) ≡ 0)
unfolding only tally
counts_example = (refl, refl, refl, refl, refl)

abbrev dispositions : List WalkStep → List Disposition
dispositions ms = map (λ m. m.disposition) ms

abbrev unordered : List Entry
unordered = e 15 1 north ∷ e 13 2 north ∷ e 31 3 south ∷ e 12 4 north ∷ e 30 5 north ∷ e 40 6 north ∷ e 31 7 north ∷ []

pub behind_example : dispositions (walk 12 held outer inner unordered) ≡ Held ∷ Held ∷ Unchecked ∷ Skipped ∷ Unchecked ∷ Skipped ∷ Skipped ∷ []
unfolding walk ahead is_vector
behind_example = refl

-- ---- other depths

abbrev last : Entry
last = e 67108863 1 north

pub depth_examples : (shortened 12 last ≡ 67108863) × (shortened 11 last ≡ 16777215) × (shortened 1 last ≡ 15)
    × (shortened 2 (entry (negsuc 67108862) (pos 1) (pos 0) north) ≡ 0)
depth_examples = (refl, refl, refl, refl)

-- descendant k of trixel i of depth 2
abbrev of : ℕ → ℕ → Vec3 → Entry
of i k p = e (i * 1048576 + k) 1 p

abbrev night : List Entry
night =
    of 48 1048575 north ∷ of 49 0 north ∷ of 49 1048575 south ∷ of 50 0 south ∷ of 50 1048575 south ∷ of 51 0 north ∷ of 60 7 north ∷ []

pub second_example : dispositions (walk 2 held (range 49 50 ∷ range 60 60 ∷ []) (range 50 50 ∷ []) night)
    ≡ Skipped ∷ Held ∷ Discarded ∷ Unchecked ∷ Unchecked ∷ Skipped ∷ Held ∷ []
unfolding walk ahead is_vector
second_example = refl

pub number_examples : (number_of (e 9 4294967295 north) ≡ 4294967295)
    × (number_of (e 9 4294967296 north) ≡ 0)
    × (number_of (entry (pos 9) (negsuc 6) (pos 0) north) ≡ 0)
number_examples = (refl, refl, refl)

-- ---- the entries of an owner

abbrev by : ℕ → ℕ → Entry
by owner number = entry (pos 40) (pos number) (pos owner) north

pub owner_example : entries_of 1 (with_entries (by 0 1 ∷ by 1 1 ∷ by 0 2 ∷ by 1 3 ∷ by 2 4 ∷ []) []) ≡ by 1 1 ∷ by 1 3 ∷ []
unfolding only entries_in entries_from with_entries written
owner_example = refl

pub capacity_example : map number_of (entries_of 1 (with_entries (by 0 9 ∷ map (by 1) (numbers_from 0 1025)) [])) ≡ numbers_from 0 1024
unfolding only entries_in entries_from with_entries written numbers_from
capacity_example = refl

-- ---- the checks

abbrev region : Region
region = (record { n = north; d = pos 0 } ∷ []) ∷ []

abbrev file : List ℕ
file = file_in Style.Plain 2 1 region

abbrev index : List ℤ
index = replicate 12289 (pos 0)

abbrev elements : ℕ → List ℕ
elements n = replicate n 0

pub check_examples : (frames_into 2 [] [] [] [] ≡ refused Owner)
    × (frames_into 1 [] [] [] [] ≡ refused Torn)
    × (frames_into 1 index file (elements 3) (elements 1024) ≡ refused Space)
    × (frames_into 1 index file (elements 4) (elements 1023) ≡ refused Space)
    × (frames_into 1 [] file (elements 4) (elements 1024) ≡ refused Space)
    × (frames_into 1 index file (elements 4) (elements 1024) ≡ gives (record { depth = 2; budget = 1; region = region }))
unfolding read header record_in records_in add last_convex total with_halfspace is_vector file_in convexes_bytes halfspaces_bytes
check_examples = (refl, refl, refl, refl, refl, refl)
