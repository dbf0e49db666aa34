-- The point test's answer by its checks in their order: the file's, then the vector's, then the scan of the rows that the file was decoded to.
-- Assumes nothing.
use Prim.Native.Nat.{ℕ, ◌+◌}
use mathlib.Core.Path.{◌≡◌, sym, ap, ◌∙◌}
use mathlib.Core.Bool.{Bool, true, false}
use mathlib.Core.List.{List}
use lib.ListN.{length, drop}
use lib.IntN.{ℤ}
use Rattle.answer.specs.Answer.{Answer, refused, gives, check, then, with_value, Vector}
use Rattle.answer.specs.Lent.{put}
use Rattle.answer.proofs.AnswerLaws.{value_gives, value_refused}
use Rattle.vector.specs.declared.Vec3.{Vec3}
use Rattle.vector.specs.Vectors.{is_vector}
use Rattle.region.specs.declared.Header.{Header}
use Rattle.region.specs.Regions.{holds}
use Rattle.region.specs.Rows.{rows}
use Rattle.region.specs.Reader.{File, read}
use Rattle.region.specs.Answers.{header_of, point_test}
use Rattle.region.proofs.FilledLaws.{accepted_filled}
use Rattle.region_points.specs.Points.{rows_hold}
use Rattle.region_points.proofs.PointLaws.{rows_hold_law}

module _ (f : List ℕ) (p : Vec3) where
  tested : (a : Answer File) → read f ≡ a → then a (λ x. check Vector (is_vector p) (gives (holds x.region p))) ≡ point_test f p
  unfolding point_test
  tested a e = ap (λ b. then b (λ x. check Vector (is_vector p) (gives (holds x.region p)))) (sym e)

  pub file_refused : (n : ℕ) → refused n ≡ with_value header_of (read f) → refused n ≡ point_test f p
  file_refused n e = tested (refused n) (value_refused header_of (read f) n (sym e))

  module _ (d : Header) (e : gives d ≡ with_value header_of (read f)) where
    accepted : (x : File) × (read f ≡ gives x) × (header_of x ≡ d)
    accepted = value_gives header_of (read f) d (sym e)

    checked : (t : Bool) → is_vector p ≡ t → check Vector t (gives (holds accepted.0.region p)) ≡ point_test f p
    checked t v = ap (λ t. check Vector t (gives (holds accepted.0.region p))) (sym v) ∙ tested (gives accepted.0) accepted.1

    pub no_vector_law : is_vector p ≡ false → refused Vector ≡ point_test f p
    no_vector_law v = checked false v

    -- `decoded` is the array that the file was decoded to
    pub held : is_vector p ≡ true → (zeros decoded : List ℤ) → ((x : File) → read f ≡ gives x → decoded ≡ put 0 (rows x.region) zeros)
        → (t : Bool) → t ≡ rows_hold p d.count decoded → gives t ≡ point_test f p
    held v zeros decoded w t q =
        let x = accepted.0 in
        let g = x.region in
        let filled = accepted_filled f x accepted.1 in
        let same : t ≡ holds g p =
        q ∙ (λ j. rows_hold p (sym accepted.2 j).count (w x accepted.1 j)) ∙ rows_hold_law p g (drop (0 + length (rows g)) zeros) filled.0 filled.1 in
        ap gives same ∙ checked true v
