-- Region files converted from one style to the other. Document 02, F-7. The statements are proved in proofs/ConvertLaws and proofs/CallsBack.
--   convert s f              the file f in the style s: itself where it is in that style, else written anew, with its depth and budget as written; or
--                            its refusal
--   to_grouped f, to_plain f   in the grouped style, and in the plain one
--   AsItIs                   an accepted file in the wanted style converts to itself
--   ConvertThenBack          what a conversion wrote to a lent list, converted back to a list that is long enough, is the first file
use Rattle.std.specs.Prelude.{ℕ, ◌≤◌, ◌≡◌, true, cond, List, length, take}
use Rattle.answer.specs.Answer.{Answer, gives, with_value}
use Rattle.answer.specs.Lent.{put}
use Rattle.region.specs.Bytes.{are_bytes}
use Rattle.region.specs.declared.Style.{Style}
use Rattle.region.specs.Records.{same_style}
use Rattle.region.specs.Reader.{File, style_of, read, AcceptedIn}
use Rattle.region.specs.Writer.{file_in}
use Rattle.region.specs.Answers.{file_answer, file_after}

abbrev pub in_style : Style → List ℕ → File → List ℕ
in_style s f x = cond (same_style s (style_of f)) f (file_in s x.depth x.budget x.region)

unfoldable pub convert : Style → List ℕ → Answer (List ℕ)
convert s f = with_value (in_style s f) (read f)

abbrev pub to_grouped : List ℕ → Answer (List ℕ)
to_grouped f = convert Style.Grouped f

abbrev pub to_plain : List ℕ → Answer (List ℕ)
to_plain f = convert Style.Plain f

-- ---- statements

abbrev pub AsItIs : Type 0
AsItIs = (s : Style) (f : List ℕ) (x : File) → AcceptedIn s f x → convert s f ≡ gives f

abbrev pub ComesBack : List ℕ → List ℕ → List ℕ → Type 0
ComesBack f h back = (file_answer (convert (style_of f) h) back ≡ gives (length f)) × (file_after (convert (style_of f) h) back ≡ put 0 f back)

abbrev pub ConvertThenBack : Type 0
ConvertThenBack =
    (s : Style) (f out back : List ℕ) (n : ℕ) → are_bytes f ≡ true → file_answer (convert s f) out ≡ gives n → length f ≤ length back
    → ComesBack f (take n (file_after (convert s f) out)) back
