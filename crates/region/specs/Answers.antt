-- What reader, writer and point test answer, and what each lent list holds afterwards. Document 01, 'Regions' and 'What is sent back'.
-- A call that writes has three definitions: `..Into`, what it has to write or its refusal, with 10 after all other checks;
-- `..Answer`, the values it gives; `..After`, the lent list afterwards, of the list before. A refusal leaves the list as it was.
--   read_into read_answer read_after      the reader: count, depth and budget as written; the rows at the list's beginning
--   file_into file_answer file_after      a call that writes a file, by the file or its refusal: the file's length; the file at the list's beginning
--   write_answer write_after             the plain writer; the grouped one and the conversions have `file_answer` and `file_after` of what they write
--   point_test f p                      whether the region of the file f holds the point p
use Rattle.std.specs.Prelude.{ℕ, Bool, List, length, ℤ}
use Rattle.answer.specs.Answer.{Answer, gives, check, then, with_value, Vector}
use Rattle.answer.specs.Lent.{put, stored, room}
use Rattle.vector.specs.declared.Vec3.{Vec3}
use Rattle.vector.specs.Vectors.{is_vector}
use Rattle.region.specs.declared.Header.{Header}
use Rattle.region.specs.Regions.{holds}
use Rattle.region.specs.Building.{total}
use Rattle.region.specs.Rows.{rows}
use Rattle.region.specs.Reader.{File, read}
use Rattle.region.specs.Writer.{write}

-- ---- the reader: depth and budget as written and the count of the rows, and the rows at the list's beginning

abbrev pub header_of : File → Header
header_of x = record { count = total x.region; depth = x.depth; budget = x.budget }

abbrev pub read_into : List ℕ → List ℤ → Answer File
read_into f before = then (read f) (λ x. room (length (rows x.region)) before x)

unfoldable pub read_answer : List ℕ → List ℤ → Answer Header
read_answer f before = with_value header_of (read_into f before)

abbrev pub rows_into : File → List ℤ → List ℤ
rows_into x before = put 0 (rows x.region) before

unfoldable pub read_after : List ℕ → List ℤ → List ℤ
read_after f before = stored rows_into (read_into f before) before

-- ---- a call that writes a file: the file's length, and the file at the list's beginning

abbrev pub file_into : Answer (List ℕ) → List ℕ → Answer (List ℕ)
file_into a before = then a (λ f. room (length f) before f)

unfoldable pub file_answer : Answer (List ℕ) → List ℕ → Answer ℕ
file_answer a before = with_value length (file_into a before)

unfoldable pub file_after : Answer (List ℕ) → List ℕ → List ℕ
file_after a before = stored (put 0) (file_into a before) before

abbrev pub write_answer : ℕ → ℕ → List ℤ → List ℕ → Answer ℕ
write_answer d b rs before = file_answer (write d b rs) before

abbrev pub write_after : ℕ → ℕ → List ℤ → List ℕ → List ℕ
write_after d b rs before = file_after (write d b rs) before

-- ---- the point test: the file's checks, then 8

unfoldable pub point_test : List ℕ → Vec3 → Answer Bool
point_test f p = then (read f) (λ x. check Vector (is_vector p) (gives (holds x.region p)))
