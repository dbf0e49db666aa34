-- Frames and trials after every history: the list that a history leaves is an index (`history_kept`), with the owner's own entries (`own_entries`).
-- Assumes nothing.
use mathlib.Core.Path.{◌≡◌, sym, ◌∙◌}
use Rattle.std.specs.Prelude.{Result}
use Rattle.answer.specs.declared.Refusal.{Refusal}
use mathlib.Core.Bool.{Bool}
use lib.Dec.{leb}
use lib.ListN.{length, take}
use borrow.Author.Tests.{le-leb}
use Prim.Native.Nat.{◌*◌}
use mathlib.Core.List.{List}
use lib.IntN.{ℤ}
use Rattle.answer.specs.Answer.{Answer, gives, check, then, with_value, Space, Owner}
use Rattle.answer.specs.Lent.{put, stored}
use Rattle.region.specs.Regions.{Region, holds}
use Rattle.region.specs.Budgets.{budget_of}
use Rattle.region.specs.Reader.{File, read}
use Rattle.covering.specs.Cover.{cover, both_listed}
use Rattle.index.specs.declared.Entry.{Entry}
use Rattle.index.specs.Entries.{IndexLength}
use Rattle.index.specs.Exposures.{Call, OwnerCapacity, is_owner}
use Rattle.frames.specs.Walk.{WalkStep, walk, delivered_by}
use Rattle.frames.specs.Answers.{frames_by, walk_of, frames_answer, ranges_after, numbers_after}
use Rattle.trial.specs.declared.Setting.{Setting}
use Rattle.trial.specs.declared.Trial.{Trial}
use Rattle.trial.specs.Trials.{result_of, cover_by, walk_by, sky_of, choice_of, trial_of}
use Rattle.trial.specs.Answers.{check_setting, room_for, lists_by, trial_answer, first_after, second_after}
use Rattle.index.specs.HistoryCorrect.{IsIndex}
use Rattle.index.specs.Noninterference.{Ran}
use Rattle.index.proofs.HistoryKept.{history_kept}
use Rattle.index.proofs.Noninterference.{own_entries, same_entries}
use Rattle.htm.specs.Histories.{FramesOfHistories, TrialsOfHistories, FramesNoninterference, TrialsNoninterference}
use Rattle.htm.proofs.FramesKept.{frames_calls}
use Rattle.htm.proofs.TrialsKept.{trials_answers}

left_index : (h : List Call) (rs : List (Result (Unit {0}) Refusal)) (l : List ℤ) → Ran h rs l → IsIndex l
left_index h rs l r = (history_kept.kept r.start l h rs r.empty r.numbered r.runs).index

pub frames_histories : FramesOfHistories
frames_histories o h rs l f ranges numbers lists left r ran k = (own_entries o h rs l ran, frames_calls o l f ranges numbers lists left r (left_index h rs l ran) k)

pub trials_histories : TrialsOfHistories
trials_histories o h rs l f s t first second one two r ran c =
    let k = trials_answers o l f s t first second r (sym c.answer) in
    (own_entries o h rs l ran, (k.file, k.accepted, k.same_held (left_index h rs l ran)))

-- ---- noninterference

-- both lists are long enough to be an index
both_long : (m n : List ℤ) → IsIndex m → IsIndex n → leb IndexLength (length m) ≡ leb IndexLength (length n)
both_long m n i j = le-leb IndexLength (length m) i.long ∙ sym (le-leb IndexLength (length n) j.long)

pub frames_noninterference : FramesNoninterference
unfolding frames_answer ranges_after numbers_after walk_of
frames_noninterference o h g rs qs m n r q e f ranges numbers =
    let long = both_long m n (left_index h rs m r) (left_index g qs n q) in
    let own = same_entries o h g rs qs m n r q e in
    let into : Bool → Answer File = λ b. check Owner (is_owner o) (then (read f) (λ x.
    check Space (leb (4 * budget_of x.budget) (length ranges)) (check Space (leb OwnerCapacity (length numbers)) (check Space b (gives x))))) in
    let steps : List Entry → File → List WalkStep = λ es x. walk x.depth (holds x.region) (cover x).outer (cover x).inner (take OwnerCapacity es) in
    record {
      answer = λ i. with_value (λ x. frames_by (steps (own i) x)) (into (long i));
      lists = λ i. stored (λ x before. both_listed (budget_of x.budget) (cover x) before) (into (long i)) ranges;
      left = λ i. stored (λ x before. put 0 (delivered_by (steps (own i) x)) before) (into (long i)) numbers;
    }

trial_by_law : List Entry → Region → Setting → Setting → Trial
trial_by_law es g s t =
    let w : Setting → List WalkStep = λ u. walk u.depth (holds g) (cover_by u g).outer (cover_by u g).inner (take OwnerCapacity es) in
    record { first = result_of (cover_by s g) (w s); second = result_of (cover_by t g) (w t); choice = choice_of (sky_of s g) (sky_of t g) }

pub trials_noninterference : TrialsNoninterference
unfolding trial_answer first_after second_after trial_of walk_by trial_by_law
trials_noninterference o h g rs qs m n r q e f s t first second =
    let long = both_long m n (left_index h rs m r) (left_index g qs n q) in
    let own = same_entries o h g rs qs m n r q e in
    let into : Bool → Answer File = λ b. check Owner (is_owner o) (then (read f) (λ x. check_setting s (check_setting t (room_for s first (room_for t second (check Space b (gives x))))))) in
    record {
      answer = λ i. with_value (λ x. trial_by_law (own i) x.region s t) (into (long i));
      one = λ i. stored (lists_by s) (into (long i)) first;
      two = λ i. stored (lists_by t) (into (long i)) second;
    }
