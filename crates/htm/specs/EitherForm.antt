-- A cover is the same from either form of one region, and so is the point test. Document 02, F-7. Proved, of the rules and of the answers too: proofs/EitherForm.
--   SameAnswers h f       cover and point test answer the same for two files, and the cover leaves the same in the lent list; with a second list, for C, too
--   SameCoverOfCalls      of the file that a conversion left in a lent list: handed to cover or point test, it is answered as the first file is
use Rattle.std.specs.Prelude.{ℕ, ◌≡◌, List, take}
use Rattle.answer.specs.Answer.{gives}
use Rattle.vector.specs.declared.Vec3.{Vec3}
use Rattle.region.specs.declared.Style.{Style}
use Rattle.region.specs.Converting.{convert}
use Rattle.region.specs.Answers.{file_answer, file_after, point_test}
use Rattle.htm.specs.Answers.{cover_answer, cover_after}
use Rattle.htm.specs.CalledFromC.{cover_for_c, cover_after_c, counts_after_c}

-- h and f are answered alike, whatever lists are lent and whatever the point is
abbrev pub SameAnswers : List ℕ → List ℕ → Type 0
SameAnswers h f =
    ((out : List ℕ) → (cover_answer h out ≡ cover_answer f out) × (cover_after h out ≡ cover_after f out))
    × ((out counts : List ℕ)
    → (cover_for_c h out counts ≡ cover_for_c f out counts)
    × (cover_after_c h out counts ≡ cover_after_c f out counts) × (counts_after_c h out counts ≡ counts_after_c f out counts))
    × ((p : Vec3) → point_test h p ≡ point_test f p)

abbrev pub SameCoverOfCalls : Type 0
SameCoverOfCalls = (s : Style) (f lent : List ℕ) (n : ℕ) → file_answer (convert s f) lent ≡ gives n → SameAnswers (take n (file_after (convert s f) lent)) f
