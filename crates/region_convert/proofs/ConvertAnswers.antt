-- What a conversion answers, by what the file was decoded to: its refusal, the file itself, or what is written from its rows. Assumes nothing.
use Prim.Native.Nat.{ℕ, ◌*◌, ◌≤◌}
use native.Mathlib.Omega.{arith}
use mathlib.Core.Path.{◌≡◌, refl, sym, ap, subst, ◌∙◌}
use mathlib.Core.Bool.{false}
use mathlib.Core.List.{List}
use lib.ListN.{length, take}
use lib.Seq.{take_at}
use lib.IntN.{ℤ}
use Rattle.answer.specs.Answer.{Answer, refused, gives, with_value}
use Rattle.answer.specs.Lent.{put}
use Rattle.answer.proofs.AnswerLaws.{value_gives, value_refused}
use Rattle.answer.proofs.PutLaws.{put_length}
use Rattle.region.specs.declared.Header.{Header}
use Rattle.region.specs.declared.Record.{Record}
use Rattle.region.specs.declared.Style.{Style}
use Rattle.region.specs.Records.{same_style}
use Rattle.region.specs.Rows.{rows}
use Rattle.region.specs.Reader.{File, read, style_of}
use Rattle.region.specs.Writer.{write_in}
use Rattle.region.specs.Converting.{convert}
use Rattle.region.specs.Answers.{header_of}
use Rattle.region.proofs.FileAnswers.{Answered, no_file}
use Rattle.region.proofs.ReaderLaws.{Begins, accepted_headed}
use Rattle.region.proofs.RegionLaws.{rows_length}
use Rattle.region.proofs.RowsBack.{accepted_within_limits}
use Rattle.region.proofs.ConvertLaws.{as_it_is, refusal_stays, written_anew}

-- the answer of a call that has the same file to write
pub same_file : {w v : Answer (List ℕ)} (before : List ℕ) {xs : List ℕ} {a : Answer ℕ} → w ≡ v → Answered w before a xs → Answered v before a xs
same_file before {xs} {a} e h = subst (λ w. Answered w before a xs) e h

pub file_refused : (s : Style) (f before : List ℕ) (n : ℕ) → refused n ≡ with_value header_of (read f) → Answered (convert s f) before (refused n) before
file_refused s f before n e = no_file (convert s f) before n (refusal_stays s f n (value_refused header_of (read f) n (sym e)))

other_style : (s t : Style) → (s ≡ t → ⊥) → same_style s t ≡ false
other_style Style.Plain Style.Plain n = absurd (n refl)
other_style Style.Plain Style.Grouped n = refl
other_style Style.Grouped Style.Plain n = refl
other_style Style.Grouped Style.Grouped n = absurd (n refl)

-- the file f is accepted and says d
module _ (f : List ℕ) (d : Header) (e : gives d ≡ with_value header_of (read f)) where
  accepted : (x : File) × (read f ≡ gives x) × (header_of x ≡ d)
  accepted = value_gives header_of (read f) d (sym e)

  pub headed : Begins f Record.Header
  headed = accepted_headed f accepted.0 accepted.1

  pub itself : (s : Style) → s ≡ style_of f → gives f ≡ convert s f
  itself s t = sym (as_it_is s f accepted.0 (sym t, accepted.1))

  count : length (rows accepted.0.region) ≡ 5 * d.count
  count = rows_length accepted.0.region ∙ ap (λ z. 5 * z.count) accepted.2

  -- `decoded` is the array that the file was decoded to
  module _ (zeros decoded : List ℤ) (w : (x : File) → read f ≡ gives x → decoded ≡ put 0 (rows x.region) zeros) where
    pub enough : length zeros ≡ 2560 → 5 * d.count ≤ length decoded
    enough l =
        let x = accepted.0 in
        let most : 5 * d.count ≤ 2560 = omega (arith, (accepted_within_limits f x accepted.1).halfspaces, ap (λ z. z.count) accepted.2) in
        omega (arith, ap length (w x accepted.1), put_length 0 (rows x.region) zeros (omega (arith, count)))

    pub anew : (s : Style) → (s ≡ style_of f → ⊥) → write_in s d.depth d.budget (take (5 * d.count) decoded) ≡ convert s f
    anew s t =
        let x = accepted.0 in
        let rs = rows x.region in
        let same : take (5 * d.count) decoded ≡ rs = ap (take (5 * d.count)) (w x accepted.1) ∙ take_at rs _ (5 * d.count) count in
        (λ i. write_in s (sym accepted.2 i).depth (sym accepted.2 i).budget (same i))
        ∙ sym (written_anew s f x accepted.1 (other_style s (style_of f) t))
