-- The writer of region files of both styles. Document 01, 'Regions' and 'What is sent back': checks 5, 6, then the rows; document 02, F-7.
--   file_in s d b g                   the bytes of the file of style s with depth d, budget b and region g
--   write_in s d b rs                 the bytes of the file of style s of the rows rs, or the first refusal
--   write d b rs, write_grouped d b rs   the plain one and the grouped one, or the first refusal
use Rattle.std.specs.Prelude.{ℕ, List, [], ◌∷◌, ◌++◌, length, ℤ}
use Rattle.vector.specs.Numbers.{is_depth}
use Rattle.answer.specs.Answer.{Answer, check, with_value, Depth, Budget}
use Rattle.region.specs.declared.Halfspace.{Halfspace}
use Rattle.region.specs.declared.Record.{Record}
use Rattle.region.specs.declared.Style.{Style}
use Rattle.region.specs.Regions.{Convex, Region}
use Rattle.region.specs.Budgets.{is_budget}
use Rattle.region.specs.Bytes.{word_bytes, signed_bytes}
use Rattle.region.specs.Records.{kind, size}
use Rattle.region.specs.Rows.{region_of}

-- the beginning of a record: its length and its kind
abbrev pub begin : Record → List ℕ
begin r = word_bytes (size r) ++ word_bytes (kind r)

abbrev pub header_bytes : ℕ → ℕ → List ℕ
header_bytes d b = begin Record.Header ++ word_bytes d ++ word_bytes b

abbrev pub convex_bytes : List ℕ
convex_bytes = begin Record.Convex

abbrev pub numbers_bytes : Halfspace → List ℕ
numbers_bytes h = signed_bytes h.n.x ++ signed_bytes h.n.y ++ signed_bytes h.n.z ++ signed_bytes h.d

abbrev pub halfspace_bytes : Halfspace → List ℕ
halfspace_bytes h = begin Record.Halfspace ++ numbers_bytes h

abbrev pub end_bytes : List ℕ
end_bytes = begin Record.End

unfoldable pub halfspaces_bytes : Convex → List ℕ
halfspaces_bytes [] = []
halfspaces_bytes (h ∷ hs) = halfspace_bytes h ++ halfspaces_bytes hs

unfoldable pub convexes_bytes : Region → List ℕ
convexes_bytes [] = []
convexes_bytes (c ∷ cs) = convex_bytes ++ halfspaces_bytes c ++ convexes_bytes cs

-- kind 5: the numbers of all halfspaces of a convex
unfoldable pub payload_bytes : Convex → List ℕ
payload_bytes [] = []
payload_bytes (h ∷ hs) = numbers_bytes h ++ payload_bytes hs

abbrev pub group_bytes : Convex → List ℕ
group_bytes c = begin (Record.Group (length c)) ++ payload_bytes c

unfoldable pub groups_bytes : Region → List ℕ
groups_bytes [] = []
groups_bytes (c ∷ cs) = group_bytes c ++ groups_bytes cs

abbrev pub region_bytes : Style → Region → List ℕ
region_bytes Style.Plain g = convexes_bytes g
region_bytes Style.Grouped g = groups_bytes g

-- ---- the file

unfoldable pub file_in : Style → ℕ → ℕ → Region → List ℕ
file_in s d b g = header_bytes d b ++ region_bytes s g ++ end_bytes

unfoldable pub write_in : Style → ℕ → ℕ → List ℤ → Answer (List ℕ)
write_in s d b rs = check Depth (is_depth d) (check Budget (is_budget b) (with_value (file_in s d b) (region_of rs)))

abbrev pub write : ℕ → ℕ → List ℤ → Answer (List ℕ)
write d b rs = write_in Style.Plain d b rs

abbrev pub write_grouped : ℕ → ℕ → List ℤ → Answer (List ℕ)
write_grouped d b rs = write_in Style.Grouped d b rs
