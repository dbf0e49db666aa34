-- Both forms of a region say the same, and cover and point test go by what a file says. Assumes nothing.
use Prim.Native.Nat.{ℕ, ◌*◌}
use mathlib.Core.Path.{◌≡◌, ap, subst}
use mathlib.Core.List.{List}
use Rattle.answer.specs.Answer.{Answer, gives, check, then, with_value, Vector}
use Rattle.answer.specs.Lent.{put, stored, room}
use Rattle.vector.specs.Vectors.{is_vector}
use Rattle.region.specs.Regions.{holds}
use Rattle.region.specs.Budgets.{budget_of}
use Rattle.region.specs.Reader.{File, read}
use Rattle.region.specs.Answers.{point_test}
use Rattle.region.specs.Converting.{convert}
use Rattle.region.proofs.ConvertLaws.{converted}
use Rattle.region.proofs.CallsBack.{file_given}
use Rattle.covering.specs.Cover.{cover, counts_of, cover_counts, counts_list}
use Rattle.htm.specs.Answers.{cover_answer, both_lists, cover_after}
use Rattle.htm.specs.CalledFromC.{in_both, cover_for_c, cover_after_c, counts_after_c}
use Rattle.htm.specs.EitherForm.{SameAnswers, SameCoverOfCalls}
use Rattle.region.specs.declared.Style.{Style}

pub same_cover : (s : Style) (f h : List ℕ) → convert s f ≡ gives h → with_value cover (read h) ≡ with_value cover (read f)
same_cover s f h e = ap (with_value cover) (converted s f h e).1

same_answers : (f h : List ℕ) → read h ≡ read f → SameAnswers h f
unfolding cover_answer cover_after cover_for_c cover_after_c counts_after_c point_test
same_answers f h e =
    let into : List ℕ → Answer File → Answer File = λ out a. then a (λ x. room (4 * budget_of x.budget) out x) in
    let both : List ℕ → List ℕ → Answer File → Answer File = λ out counts a. in_both cover_counts (into out a) counts in (
      (λ out. (ap (λ a. with_value (λ x. counts_of (cover x)) (into out a)) e, ap (λ a. stored both_lists (into out a) out) e)),
      (λ out counts. (
        ap (λ a. with_value (λ x. counts_of (cover x)) (both out counts a)) e,
        ap (λ a. stored both_lists (both out counts a) out) e,
        ap (λ a. stored (λ c before. put 0 (counts_list c) before) (with_value (λ x. counts_of (cover x)) (both out counts a)) counts) e,
      )),
      (λ p. ap (λ a. then a (λ x. check Vector (is_vector p) (gives (holds x.region p)))) e),
    )

pub same_cover_of_answers : (s : Style) (f h : List ℕ) → convert s f ≡ gives h → SameAnswers h f
same_cover_of_answers s f h e = same_answers f h (converted s f h e).1

pub same_cover_of_calls : SameCoverOfCalls
same_cover_of_calls s f lent n e =
    let w = file_given (convert s f) lent n e in
    subst (λ h. SameAnswers h f) w.2 (same_cover_of_answers s f w.0 w.1)
