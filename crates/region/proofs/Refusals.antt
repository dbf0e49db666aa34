-- Damaged files and rows, and the number of the first check that fails: by computing. Where two checks would fail, the earlier one decides. And small files
-- converted. Assumes nothing.
use mathlib.Core.Path.{◌≡◌, refl}
use mathlib.Core.List.{List, [], ◌∷◌, ◌++◌}
use Prim.Native.Nat.{ℕ, zero, suc}
use lib.IntN.{ℤ, pos, negsuc, neg_ℤ}
use Rattle.answer.specs.Answer.{refused, gives, Torn, Kind, Order, Depth, Budget, Crowd, Vector, Offset, Mixed}
use Rattle.vector.specs.Numbers.{K}
use Rattle.vector.specs.Vectors.{vec, is_vector}
use Rattle.region.specs.declared.Halfspace.{Halfspace}
use Rattle.region.specs.Building.{last_convex, total, with_halfspace, add}
use Rattle.region.specs.Bytes.{word_bytes}
use Rattle.region.specs.Rows.{row_in, rows_in, region_of}
use Rattle.region.specs.Regions.{Convex, Region}
use Rattle.region.specs.declared.Record.{Record}
use Rattle.region.specs.Records.{record_of}
use Rattle.region.specs.Reader.{File, header, halfspaces_of, halfspaces_in, group_in, record_in, records_in, read}
use Rattle.region.specs.Writer.{header_bytes, convex_bytes, halfspace_bytes, end_bytes, halfspaces_bytes, convexes_bytes, payload_bytes, group_bytes, groups_bytes, file_in, write_in, write, write_grouped}
use Rattle.region.specs.Converting.{convert, to_grouped, to_plain}
use Rattle.region.specs.declared.Style.{Style}

-- ---- halfspaces: good, without a vector, with an offset beyond K, with neither

abbrev good : Halfspace
good = record { n = vec (pos 0) (pos 0) K; d = neg_ℤ K }

abbrev steep : Halfspace
steep = record { n = vec (neg_ℤ K) (pos 0) (pos 1); d = pos 524288 }

abbrev no_vector : Halfspace
no_vector = record { n = vec (pos 0) (pos 0) (pos 1048573); d = pos 0 }

abbrev no_offset : Halfspace
no_offset = record { n = vec (pos 0) (pos 0) K; d = negsuc 1048576 }

abbrev neither : Halfspace
neither = record { n = vec (pos 0) (pos 0) (pos 1048577); d = pos 1048577 }

-- ---- files. A good beginning, and a region that may end

abbrev begun : List ℕ
begun = header_bytes 12 2048 ++ convex_bytes

abbrev filled : List ℕ
filled = begun ++ halfspace_bytes good

pub files : (read [] ≡ refused Torn)
    × (read filled ≡ refused Torn)
    × (read (filled ++ word_bytes 3 ++ word_bytes 4) ≡ refused Torn)
    × (read (filled ++ word_bytes 9 ++ word_bytes 5 ++ end_bytes) ≡ refused Torn)
    × (read (filled ++ word_bytes 4 ++ word_bytes 5) ≡ refused Kind)
    × (read (filled ++ word_bytes 4 ++ word_bytes 1) ≡ refused Kind)
    × (read (filled ++ header_bytes 13 2049) ≡ refused Order)
    × (read (filled ++ end_bytes ++ 0 ∷ []) ≡ refused Order)
    × (read (begun ++ end_bytes) ≡ refused Order)
    × (read (begun ++ convex_bytes) ≡ refused Order)
    × (read (convex_bytes ++ header_bytes 13 0) ≡ refused Order)
    × (read (header_bytes 12 2048 ++ end_bytes) ≡ refused Order)
    × (read (header_bytes 12 2048 ++ halfspace_bytes neither) ≡ refused Order)
    × (read (header_bytes 13 2049 ++ 0 ∷ []) ≡ refused Depth)
    × (read (header_bytes 0 2049) ≡ refused Depth)
    × (read (header_bytes 12 2049 ++ 0 ∷ []) ≡ refused Budget)
    × (read (begun ++ halfspace_bytes neither) ≡ refused Vector)
    × (read (begun ++ halfspace_bytes no_vector ++ 0 ∷ []) ≡ refused Vector)
    × (read (begun ++ halfspace_bytes no_offset ++ header_bytes 13 2049) ≡ refused Offset)
unfolding read header record_in records_in add last_convex total with_halfspace is_vector
files = (refl, refl, refl, refl, refl, refl, refl, refl, refl, refl, refl, refl, refl, refl, refl, refl, refl, refl, refl)

-- ---- grouped files, and records of the other style

abbrev grouped : List ℕ
grouped = header_bytes 12 2048 ++ group_bytes (good ∷ good ∷ [])

pub styles : (read grouped ≡ refused Torn)
    × (read (grouped ++ word_bytes 20 ++ word_bytes 5) ≡ refused Torn)
    × (read (grouped ++ word_bytes 5 ++ word_bytes 2 ++ 0 ∷ []) ≡ refused Kind)
    × (read (filled ++ word_bytes 5 ++ word_bytes 5 ++ 0 ∷ []) ≡ refused Kind)
    × (read (grouped ++ convex_bytes) ≡ refused Mixed)
    × (read (grouped ++ halfspace_bytes neither) ≡ refused Mixed)
    × (read (begun ++ group_bytes (neither ∷ [])) ≡ refused Mixed)
    × (read (filled ++ group_bytes (neither ∷ [])) ≡ refused Mixed)
    × (read (group_bytes (good ∷ []) ++ header_bytes 13 0) ≡ refused Order)
    × (read (grouped ++ header_bytes 13 2049) ≡ refused Order)
    × (read (grouped ++ end_bytes ++ 0 ∷ []) ≡ refused Order)
    × (read (header_bytes 13 2049 ++ group_bytes (neither ∷ [])) ≡ refused Depth)
    × (read (grouped ++ group_bytes (good ∷ neither ∷ [])) ≡ refused Vector)
    × (read (grouped ++ group_bytes (no_offset ∷ neither ∷ [])) ≡ refused Offset)
unfolding read header record_in records_in halfspaces_of halfspaces_in payload_bytes add last_convex total with_halfspace is_vector
styles = (refl, refl, refl, refl, refl, refl, refl, refl, refl, refl, refl, refl, refl, refl)

pub lengths : (record_of 5 4 ≡ refused Kind)
    × (record_of 5 8 ≡ refused Kind)
    × (record_of 5 20 ≡ gives (Record.Group 1))
    × (record_of 5 21 ≡ refused Kind)
    × (record_of 5 36 ≡ gives (Record.Group 2))
    × (record_of 5 1604 ≡ gives (Record.Group 100))
    × (record_of 5 1620 ≡ refused Kind)
    × (record_of 6 20 ≡ refused Kind)
lengths = (refl, refl, refl, refl, refl, refl, refl, refl)

-- ---- the limits of a group: 7 for its convex and for all its halfspaces, before 8

abbrev times : {A : Type 0} → ℕ → A → List A
times zero a = []
times (suc n) a = a ∷ times n a

abbrev says : Region → File
says g = record { depth = 12; budget = 2048; region = g }

abbrev some : Convex
some = good ∷ []

pub limits : (group_in (says (times 64 some)) (neither ∷ []) ≡ refused Crowd)
    × (group_in (says (times 63 some)) (neither ∷ []) ≡ refused Vector)
    × (group_in (says (times 5 (times 100 good))) (times 13 neither) ≡ refused Crowd)
    × (group_in (says (times 5 (times 100 good))) (times 12 neither) ≡ refused Vector)
unfolding halfspaces_in add last_convex total with_halfspace is_vector
limits = (refl, refl, refl, refl)

-- ---- conversions: three halfspaces in two convexes

abbrev two : Region
two = (good ∷ steep ∷ []) ∷ (steep ∷ []) ∷ []

pub conversions : (to_grouped (file_in Style.Plain 2 0 two) ≡ gives (file_in Style.Grouped 2 0 two))
    × (to_plain (file_in Style.Grouped 2 0 two) ≡ gives (file_in Style.Plain 2 0 two))
    × (to_grouped (file_in Style.Grouped 2 7 two) ≡ gives (file_in Style.Grouped 2 7 two))
    × (to_plain (file_in Style.Grouped 2 7 two) ≡ gives (file_in Style.Plain 2 7 two))
    × (to_plain (grouped ++ convex_bytes) ≡ refused Mixed)
unfolding convert file_in convexes_bytes halfspaces_bytes groups_bytes payload_bytes read header record_in records_in halfspaces_of halfspaces_in add last_convex total with_halfspace is_vector
conversions = (refl, refl, refl, refl, refl)

-- ---- rows

abbrev row : ℤ → Halfspace → List ℤ
row c h = c ∷ h.n.x ∷ h.n.y ∷ h.n.z ∷ h.d ∷ []

pub rows : (write 13 2049 [] ≡ refused Depth)
    × (write 12 2049 [] ≡ refused Budget)
    × (write 12 2048 [] ≡ refused Order)
    × (write 12 2048 (row (pos 0) good ++ pos 0 ∷ []) ≡ refused Order)
    × (write 12 2048 (row (pos 1) neither) ≡ refused Order)
    × (write 12 2048 (row (negsuc 0) neither) ≡ refused Order)
    × (write 12 2048 (row (pos 0) good ++ row (pos 2) neither) ≡ refused Order)
    × (write 12 2048 (row (pos 0) neither) ≡ refused Vector)
    × (write 12 2048 (row (pos 0) no_offset ++ row (pos 2) good) ≡ refused Offset)
    × (write_grouped 13 2049 [] ≡ refused Depth)
    × (write_grouped 12 2049 [] ≡ refused Budget)
    × (write_grouped 12 2048 (row (pos 0) no_offset ++ row (pos 2) good) ≡ refused Offset)
unfolding write_in region_of rows_in row_in add last_convex total with_halfspace is_vector
rows = (refl, refl, refl, refl, refl, refl, refl, refl, refl, refl, refl, refl)
