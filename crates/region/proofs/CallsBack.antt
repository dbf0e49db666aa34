-- Writer and reader, and the conversions, called one after the other on the same bytes and rows: by the laws of the rules. Assumes nothing.
use Prim.Native.Nat.{ℕ, ◌*◌, ◌≤◌, ◌/◌}
use native.Mathlib.Omega.{arith}
use mathlib.Core.Path.{◌≡◌, refl, sym, ap, subst, ◌∙◌}
use mathlib.Core.List.{List}
use lib.ListN.{length, take}
use lib.IntN.{ℤ}
use Rattle.answer.specs.Answer.{Answer, gives, then, with_value}
use Rattle.answer.specs.Lent.{put, stored}
use Rattle.answer.proofs.AnswerLaws.{value_gives}
use Rattle.answer.proofs.LentLaws.{room_gives, has_room, front}
use Rattle.region.specs.declared.Header.{Header}
use Rattle.region.specs.Building.{total}
use Rattle.region.specs.Rows.{rows}
use Rattle.region.specs.declared.Style.{Style}
use Rattle.region.specs.Reader.{File, style_of, read}
use Rattle.region.specs.Writer.{write_in}
use Rattle.region.specs.Answers.{header_of, read_into, read_answer, rows_into, read_after, file_into, file_answer, file_after}
use Rattle.region.specs.RoundTrip.{ReadsBack, WriteThenRead, WritesBack, ReadThenWrite}
use Rattle.region.specs.Converting.{in_style, convert, ComesBack, ConvertThenBack}
use Rattle.region.proofs.WriteBack.{write_back}
use Rattle.region.proofs.FileBack.{file_back}
use Rattle.region.proofs.ConvertLaws.{converted_back}
use Rattle.region.proofs.FileAnswers.{file_written}
use Rattle.region.proofs.RegionLaws.{rows_length}

-- ---- the answers by what is written

read_given_law : (f : List ℕ) (before : List ℤ) (x : File) → read_into f before ≡ gives x → (read_answer f before ≡ gives (header_of x)) × (read_after f before ≡ rows_into x before)
unfolding read_answer read_after
read_given_law f before x e = (ap (with_value header_of) e, ap (λ a. stored rows_into a before) e)

-- the file that was written where a length was answered
pub file_given : (a : Answer (List ℕ)) (out : List ℕ) (n : ℕ) → file_answer a out ≡ gives n → (f : List ℕ) × (a ≡ gives f) × (f ≡ take n (file_after a out))
unfolding file_answer file_after
file_given a out n e =
    let w = value_gives length (file_into a out) n e in
    (w.0, room_gives out length a w.0 w.1, sym (ap (λ b. take n (stored (put 0) b out)) w.1 ∙ front out w.0 n w.2))

file_put : (a : Answer (List ℕ)) (out f : List ℕ) → a ≡ gives f → length f ≤ length out
    → (file_answer a out ≡ gives (length f)) × (file_after a out ≡ put 0 f out)
file_put a out f e l = let w = file_written a out f e l in (sym w.0, sym w.1)

-- ---- the writer, then the reader

reads_back : (s : Style) (d b : ℕ) (rs before : List ℤ) (f : List ℕ) → write_in s d b rs ≡ gives f → length rs ≤ length before → ReadsBack d b rs f before
reads_back s d b rs before f e h =
    let w = write_back s d b rs f e in
    let x : File = record { depth = d; budget = b; region = w.0 } in
    let n : total w.0 ≡ length rs / 5 = omega (arith, rows_length w.0, ap length w.1) in
    let r = read_given_law f before x (has_room before (λ x. length (rows x.region)) (read f) x w.2.1 (omega (arith, ap length w.1))) in
    (r.0 ∙ ap (λ c. gives (record { count = c; depth = d; budget = b })) n, r.1 ∙ ap (λ rs. put 0 rs before) w.1)

pub write_then_read : WriteThenRead
write_then_read s d b rs before out n e h =
    let w = file_given (write_in s d b rs) out n e in
    subst (λ f. ReadsBack d b rs f before) w.2 (reads_back s d b rs before w.0 w.1 h)

-- ---- the reader, then the writer

was_read : (f : List ℕ) (before : List ℤ) (h : Header) → read_answer f before ≡ gives h → (x : File) × (read_into f before ≡ gives x) × (header_of x ≡ h)
unfolding read_answer
was_read f before h e = value_gives header_of (read_into f before) h e

pub read_then_write : ReadThenWrite
read_then_write f out before h bytes e l =
    let w = was_read f before h e in
    let x = w.0 in
    let rs = rows x.region in
    let accepted = room_gives before (λ x. length (rows x.region)) (read f) x w.1 in
    let five : length rs ≡ 5 * h.count = rows_length x.region ∙ ap (λ h. 5 * h.count) w.2 in
    let same : rs ≡ take (5 * h.count) (read_after f before) = sym (ap (take (5 * h.count)) (read_given_law f before x w.1).1 ∙ front before rs (5 * h.count) five) in
    let back = file_put (write_in (style_of f) x.depth x.budget rs) out f (file_back (style_of f) f x bytes (refl, accepted)) l in
    subst (λ rs. WritesBack f h rs out) same (subst (λ h. WritesBack f h rs out) w.2 back)

-- ---- a conversion, then the one back

pub convert_then_back : ConvertThenBack
unfolding convert
convert_then_back s f out back n bytes e l =
    let w = file_given (convert s f) out n e in
    let h = w.0 in
    let x = value_gives (in_style s f) (read f) h w.1 in
    let t = style_of f in
    let again : convert t h ≡ gives f = sym (ap (λ r. then r (convert t)) w.1) ∙ converted_back t s f x.0 bytes (refl, x.1) in
    subst (λ h. ComesBack f h back) w.2 (file_put (convert t h) back f again l)
