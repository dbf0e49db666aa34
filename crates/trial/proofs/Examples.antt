-- Worked examples of a trial, by computing: a bent rule is refused here. Document 02, F-13. Assumes nothing.
--   sky_examples       the share of the sky of some ranges at two depths, in identifiers of depth 12
--   choice_examples    the smaller share, and the first of equal ones
--   result_example     the result of a setting: the counts of a walk and of the two lists
--   list_example       the results of two settings, as numbers
--   part_examples      the part: nothing of a shorter buffer, all of an exact one, the front of a longer one; nothing after a refusal
--   buffer_examples    which buffer the part is of
--   check_examples     18, the file, 5 and 6 of the first setting, those of the second, then 10 for each buffer
use Prim.Native.Nat.{ℕ}
use Rattle.std.specs.Prelude.{Result, Ok, Err}
use Rattle.answer.specs.declared.Refusal.{Refusal}
use mathlib.Core.Path.{◌≡◌, refl}
use mathlib.Core.List.{List, [], ◌∷◌}
use lib.ListN.{replicate}
use lib.IntN.{ℤ, pos}
use Rattle.algebra.specs.Lists.{tally}
use Rattle.answer.specs.Answer.{refused, gives, Torn, Depth, Budget, Space, Owner}
use Rattle.vector.specs.Numbers.{K}
use Rattle.vector.specs.Vectors.{vec, is_vector}
use Rattle.region.specs.Building.{last_convex, total, with_halfspace, add}
use Rattle.region.specs.Regions.{Region}
use Rattle.region.specs.Reader.{header, record_in, records_in, read}
use Rattle.region.specs.Writer.{file_in, convexes_bytes, halfspaces_bytes}
use Rattle.ranges.specs.declared.Range.{Range}
use Rattle.ranges.specs.Ranges.{range}
use Rattle.ranges.specs.Contents.{identifiers}
use Rattle.covering.specs.Cover.{Cover}
use Rattle.index.specs.Entries.{entry}
use Rattle.frames.specs.declared.Disposition.{Disposition}
use Rattle.frames.specs.declared.Disposition.TheVariants.{Skipped, Unchecked, Held, Discarded}
use Rattle.frames.specs.Walk.{WalkStep, walk_step}
use Rattle.trial.specs.declared.Setting.{Setting}
use Rattle.trial.specs.declared.SettingResult.{SettingResult}
use Rattle.trial.specs.declared.Choice.{Choice}
use Rattle.trial.specs.declared.Choice.TheVariants.{First, Second}
use Rattle.trial.specs.declared.Trial.{Trial}
use Rattle.trial.specs.Trials.{result_of, spanned, choice_of}
use Rattle.trial.specs.Answers.{trial_into, trial_list, part_of, buffer_of}
use Rattle.region.specs.declared.Style.{Style}

-- ---- the share of the sky, and the choice

abbrev some : List Range
some = range 33554432 33554435 ∷ range 33554440 33554440 ∷ []

-- at depth 1 the ranges of the eight roots are the whole sky
pub sky_examples : (spanned 12 some ≡ 5) × (spanned 11 some ≡ 20) × (spanned 1 (range 8 15 ∷ []) ≡ 33554432)
    × (spanned 12 (range 33554432 67108863 ∷ []) ≡ 33554432) × (spanned 7 [] ≡ 0)
unfolding identifiers
sky_examples = (refl, refl, refl, refl, refl)

pub choice_examples : (choice_of 5 5 ≡ First) × (choice_of 4 5 ≡ First) × (choice_of 5 4 ≡ Second) × (choice_of 0 0 ≡ First)
    × (choice_of (spanned 11 some) (spanned 12 some) ≡ Second)
    × (choice_of (spanned 1 (range 8 15 ∷ [])) (spanned 12 (range 33554432 67108863 ∷ [])) ≡ First)
unfolding identifiers
choice_examples = (refl, refl, refl, refl, refl, refl)

-- ---- the result of a setting

abbrev m : Disposition → WalkStep
m f = walk_step (entry (pos 33554432) (pos 1) (pos 0) (vec (pos 0) (pos 0) K)) f

abbrev walked : List WalkStep
walked = m Skipped ∷ m Held ∷ m Unchecked ∷ m Unchecked ∷ m Discarded ∷ m Unchecked ∷ m Skipped ∷ m Held ∷ m Unchecked ∷ m Skipped ∷ []

abbrev lists : Cover
lists = record { outer = some; inner = range 33554433 33554433 ∷ []; seen = 9; full = 1; partial = 3; swallowed = 1 }

abbrev five : ℕ → ℕ → ℕ → ℕ → ℕ → SettingResult
five unchecked held discarded outer inner = record { unchecked = unchecked; held = held; discarded = discarded; outer = outer; inner = inner }

pub result_example : result_of lists walked ≡ five 4 2 1 2 1
unfolding tally
result_example = refl

-- ---- the part

abbrev tried : Choice → Trial
tried c = record { first = five 4 2 1 2 1; second = five 3 3 0 1 0; choice = c }

pub list_example : (trial_list (tried First) ≡ 4 ∷ 2 ∷ 1 ∷ 2 ∷ 1 ∷ 3 ∷ 3 ∷ 0 ∷ 1 ∷ 0 ∷ 1 ∷ [])
    × (trial_list (tried Second) ≡ 4 ∷ 2 ∷ 1 ∷ 2 ∷ 1 ∷ 3 ∷ 3 ∷ 0 ∷ 1 ∷ 0 ∷ 2 ∷ [])
list_example = (refl, refl)

abbrev part : Choice → List ℕ → List ℕ → List ℕ
part c first second = part_of {E = Refusal} (Ok (tried c)) first second

pub part_examples : (part First (1 ∷ 2 ∷ 3 ∷ []) (5 ∷ 6 ∷ 7 ∷ 8 ∷ []) ≡ [])
    × (part First (1 ∷ 2 ∷ 3 ∷ 4 ∷ []) [] ≡ 1 ∷ 2 ∷ 3 ∷ 4 ∷ [])
    × (part First (1 ∷ 2 ∷ 3 ∷ 4 ∷ 5 ∷ 6 ∷ []) [] ≡ 1 ∷ 2 ∷ 3 ∷ 4 ∷ [])
    × (part Second (1 ∷ 2 ∷ 3 ∷ 4 ∷ []) (5 ∷ []) ≡ [])
    × (part Second [] (5 ∷ 6 ∷ []) ≡ 5 ∷ 6 ∷ [])
    × (part Second (1 ∷ 2 ∷ 3 ∷ 4 ∷ []) (5 ∷ 6 ∷ 7 ∷ 8 ∷ []) ≡ 5 ∷ 6 ∷ [])
    × (part_of (Err Refusal.Order) (1 ∷ 2 ∷ []) (5 ∷ 6 ∷ []) ≡ [])
part_examples = (refl, refl, refl, refl, refl, refl, refl)

abbrev buffer : Result Trial Refusal → ℕ
buffer r = buffer_of r 1 2

pub buffer_examples : (buffer (Ok (tried First)) ≡ 1) × (buffer (Ok (tried Second)) ≡ 2) × (buffer (Err Refusal.Order) ≡ 1)
buffer_examples = (refl, refl, refl)

-- ---- the checks

abbrev s : ℕ → ℕ → Setting
s depth budget = record { depth = depth; budget = budget }

abbrev region : Region
region = (record { n = vec (pos 0) (pos 0) K; d = pos 0 } ∷ []) ∷ []

-- its header's depth and budget play no part
abbrev file : List ℕ
file = file_in Style.Plain 3 7 region

abbrev index : List ℤ
index = replicate 12289 (pos 0)

abbrev elements : ℕ → List ℕ
elements n = replicate n 0

-- the settings need 8 and 64 elements, the second by budget 0
pub check_examples : (trial_into 2 [] [] (s 0 2049) (s 0 2049) [] [] ≡ refused Owner)
    × (trial_into 1 [] [] (s 0 2049) (s 0 2049) [] [] ≡ refused Torn)
    × (trial_into 1 [] file (s 13 2049) (s 0 2049) [] [] ≡ refused Depth)
    × (trial_into 1 [] file (s 12 2049) (s 13 0) [] [] ≡ refused Budget)
    × (trial_into 1 [] file (s 12 2048) (s 13 2049) [] [] ≡ refused Depth)
    × (trial_into 1 [] file (s 12 2048) (s 12 2049) [] [] ≡ refused Budget)
    × (trial_into 1 index file (s 12 2) (s 1 0) (elements 7) (elements 64) ≡ refused Space)
    × (trial_into 1 index file (s 12 2) (s 1 0) (elements 64) (elements 63) ≡ refused Space)
    × (trial_into 1 [] file (s 12 2) (s 1 0) (elements 8) (elements 64) ≡ refused Space)
    × (trial_into 1 index file (s 12 2) (s 1 0) (elements 8) (elements 64) ≡ gives (record { depth = 3; budget = 7; region = region }))
unfolding read header record_in records_in add last_convex total with_halfspace is_vector file_in convexes_bytes halfspaces_bytes
check_examples = (refl, refl, refl, refl, refl, refl, refl, refl, refl, refl)
