-- Region file and rows, both ways, in either style. Document 01, 'Regions'; document 02, F-7. The statements are about what writer and reader answer and leave
-- in lent lists, where the second list is long enough: proofs/CallsBack. For the rules alone: `write_back` proofs/WriteBack, `file_back` proofs/FileBack.
--   WriteThenRead   the bytes that the writer wrote, handed to the reader
--   ReadThenWrite   the rows that the reader wrote, handed to the writer
use Rattle.std.specs.Prelude.{ℕ, ◌*◌, ◌/◌, ◌≤◌, ◌≡◌, true, List, length, take, ℤ}
use Rattle.answer.specs.Answer.{gives}
use Rattle.answer.specs.Lent.{put}
use Rattle.region.specs.declared.Header.{Header}
use Rattle.region.specs.Bytes.{are_bytes}
use Rattle.region.specs.declared.Style.{Style}
use Rattle.region.specs.Reader.{style_of}
use Rattle.region.specs.Writer.{write_in}
use Rattle.region.specs.Answers.{read_answer, read_after, file_answer, file_after}

abbrev pub ReadsBack : ℕ → ℕ → List ℤ → List ℕ → List ℤ → Type 0
ReadsBack d b rs f before = (read_answer f before ≡ gives (record { count = length rs / 5; depth = d; budget = b })) × (read_after f before ≡ put 0 rs before)

abbrev pub WriteThenRead : Type 0
WriteThenRead =
    (s : Style) (d b : ℕ) (rs before : List ℤ) (out : List ℕ) (n : ℕ) → file_answer (write_in s d b rs) out ≡ gives n → length rs ≤ length before
    → ReadsBack d b rs (take n (file_after (write_in s d b rs) out)) before

abbrev pub WritesBack : List ℕ → Header → List ℤ → List ℕ → Type 0
WritesBack f h rs out =
    let again = write_in (style_of f) h.depth h.budget rs in
    (file_answer again out ≡ gives (length f)) × (file_after again out ≡ put 0 f out)

abbrev pub ReadThenWrite : Type 0
ReadThenWrite =
    (f out : List ℕ) (before : List ℤ) (h : Header) → are_bytes f ≡ true → read_answer f before ≡ gives h → length f ≤ length out
    → WritesBack f h (take (5 * h.count) (read_after f before)) out
