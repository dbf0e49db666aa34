-- Number 10 comes last, and a refusal changes no lent element: an answer with the check of a list's length is the answer's refusal where it has one, and
-- what is stored for a refusal is the list as it was. Assumes nothing.
use Prim.Native.Nat.{ℕ, ◌*◌}
use mathlib.Core.Path.{◌≡◌, refl, ap, ◌∙◌}
use mathlib.Core.Bool.{Bool, true, false}
use mathlib.Core.List.{List}
use lib.Dec.{leb}
use lib.ListN.{length}
use lib.IntN.{ℤ}
use Rattle.answer.specs.Answer.{Answer, refused, gives, check, then, with_value, Depth, Budget, Space, Owner}
use Rattle.answer.specs.Lent.{put, stored}
use Rattle.answer.proofs.LentLaws.{first_refusal, not_stored}
use Rattle.mesh.specs.Answers.{name_into, name_answer, name_after}
use Rattle.vector.specs.Numbers.{is_depth}
use Rattle.region.specs.Budgets.{is_budget, budget_of}
use Rattle.region.specs.Reader.{File, read}
use Rattle.region.specs.Answers.{header_of, rows_into, read_into, read_answer, read_after, file_into, file_answer, file_after}
use Rattle.region.proofs.ConvertLaws.{refusal_stays}
use Rattle.covering.specs.Cover.{cover, counts_of, cover_counts, counts_list}
use Rattle.index.specs.Entries.{with_entries}
use Rattle.index.specs.Exposures.{OwnerCapacity, is_owner}
use Rattle.index.specs.Answers.{in_list, beginning, adding, removing, begin_answer, begin_after, add_answer, add_after, remove_answer, remove_after}
use Rattle.index.proofs.CheckOrder.{add_refused, remove_refused}
use Rattle.frames.specs.declared.Frames.{Frames}
use Rattle.frames.specs.Walk.{delivered_by}
use Rattle.frames.specs.Answers.{frames_into, walk_of, frames_by, frames_list, frames_answer, ranges_after, numbers_after}
use Rattle.htm.specs.Answers.{cover_into, cover_answer, both_lists, cover_after}
use Rattle.htm_abi.specs.Values.{corners_list, header_list}
use Rattle.htm.specs.CalledFromC.{entry_into, entry_after_c, corners_for_c, corners_after_c, in_both, read_for_c, rows_after_c, header_after_c, contents_list, contents_for_c, contents_after_c, cover_for_c, cover_after_c, counts_after_c, frames_into_c, frames_for_c, ranges_after_c, numbers_after_c, frames_after_c}
use Rattle.trial.specs.declared.Setting.{Setting}
use Rattle.trial.specs.declared.Trial.{Trial}
use Rattle.trial.specs.Trials.{trial_of}
use Rattle.trial.specs.Answers.{check_setting, room_for, trial_into, trial_answer, lists_by, first_after, second_after, trial_list}
use Rattle.htm.specs.TrialFromC.{trial_into_c, trial_for_c, first_after_c, second_after_c, trial_after_c, chosen_after_c}
use Rattle.htm.specs.Refusals.{SpaceLast, LentListsStay}

-- the owner's refusal, or the file's, is that of what comes behind both
check_then : {A B : Type 0} (t : Bool) (a : Answer A) (f : A → Answer B) → check Owner t (then a f) ≡ then (check Owner t a) f
check_then true a f = refl
check_then false a f = refl

frames_refused : (o : ℕ) (l : List ℤ) (f ranges numbers : List ℕ) (n : ℕ) → check Owner (is_owner o) (read f) ≡ refused n → frames_into o l f ranges numbers ≡ refused n
frames_refused o l f ranges numbers n e =
    let rest : File → Answer File = λ x. check Space (leb (4 * budget_of x.budget) (length ranges)) (check Space (leb OwnerCapacity (length numbers)) (in_list l (gives x))) in
    check_then (is_owner o) (read f) rest ∙ ap (λ a. then a rest) e

-- as above, for a trial: the lengths of the lists are checked behind the settings
check_setting_then : (f : File → Answer File) (x : File) (a b c d : Bool)
    → check Depth a (check Budget b (check Depth c (check Budget d (f x)))) ≡ then (check Depth a (check Budget b (check Depth c (check Budget d (gives x))))) f
check_setting_then f x false b c d = refl
check_setting_then f x true false c d = refl
check_setting_then f x true true false d = refl
check_setting_then f x true true true false = refl
check_setting_then f x true true true true = refl

module _ (o : ℕ) (l : List ℤ) (f first second : List ℕ) (s t : Setting) where
  abbrev rooms : File → Answer File
  rooms x = room_for s first (room_for t second (in_list l (gives x)))

  behind : (b : Bool) (a : Answer File) → check Owner b (then a (λ x. check_setting s (check_setting t (rooms x)))) ≡ then (check Owner b (then a (λ x. check_setting s (check_setting t (gives x))))) rooms
  behind false a = refl
  behind true (refused n) = refl
  behind true (gives x) = check_setting_then rooms x (is_depth s.depth) (is_budget s.budget) (is_depth t.depth) (is_budget t.budget)

  trial_refused : (n : ℕ) → check Owner (is_owner o) (then (read f) (λ x. check_setting s (check_setting t (gives x)))) ≡ refused n → trial_into o l f s t first second ≡ refused n
  trial_refused n e = behind (is_owner o) (read f) ∙ ap (λ a. then a rooms) e

pub space_last : SpaceLast
unfolding trial_answer trial_for_c name_answer read_answer file_answer cover_answer corners_for_c read_for_c contents_for_c cover_for_c frames_answer frames_for_c
space_last = record {
  name = λ i before n. first_refusal length _ _ n;
  reader = λ f before n. first_refusal header_of _ _ n;
  writer = λ s d b rs before n. first_refusal length _ _ n;
  converter = λ s f before n e. first_refusal length _ _ n (refusal_stays s f n e);
  cover = λ f before n. first_refusal (λ x. counts_of (cover x)) _ _ n;
  add = add_refused;
  remove = remove_refused;
  frames = λ o l f ranges numbers n e. ap (with_value (λ x. frames_by (walk_of o l x))) (frames_refused o l f ranges numbers n e);
  trial = λ o l f s t first second n e. ap (with_value (λ x. trial_of o l x.region s t)) (trial_refused o l f first second s t n e);
  corners_C = λ i out n e. rw e;
  reader_C = λ f rows header n e. rw e;
  contents_C = λ f header n e. rw e;
  cover_C = λ f out counts n e. rw e;
  frames_C = λ o l f ranges numbers counts n e. first_refusal (λ x. frames_by (walk_of o l x)) (frames_into o l f ranges numbers) _ n (frames_refused o l f ranges numbers n e);
  trial_C = λ o l f s t first second numbers n e.
      first_refusal (λ x. trial_of o l x.region s t) (trial_into o l f s t first second) _ n (trial_refused o l f first second s t n e);
}

-- ---- a refusal changes nothing

module _ (o : ℕ) (l : List ℤ) where
  abbrev found : File → Frames
  found x = frames_by (walk_of o l x)

  abbrev deliver : File → List ℕ → List ℕ
  deliver x before = put 0 (delivered_by (walk_of o l x)) before

pub lent_lists_stay : LentListsStay
unfolding name_answer name_after read_answer read_after file_answer file_after cover_answer cover_after begin_answer begin_after add_answer add_after remove_answer remove_after frames_answer ranges_after numbers_after trial_answer first_after second_after corners_after_c read_for_c rows_after_c header_after_c contents_after_c cover_for_c cover_after_c counts_after_c entry_after_c frames_for_c ranges_after_c numbers_after_c frames_after_c trial_for_c first_after_c second_after_c trial_after_c chosen_after_c
lent_lists_stay = record {
  name = λ i before n. not_stored length (put 0) (name_into i before) before n;
  reader = λ f before n. not_stored header_of rows_into (read_into f before) before n;
  file = λ a before n. not_stored length (put 0) (file_into a before) before n;
  cover = λ f before n. not_stored (λ x. counts_of (cover x)) both_lists (cover_into f before) before n;
  begin = λ l n. not_stored (λ _. tt) with_entries (beginning l) l n;
  add = λ x l n. not_stored (λ _. tt) with_entries (adding x l) l n;
  remove = λ k l n. not_stored (λ _. tt) with_entries (removing k l) l n;
  frames = λ o l f ranges numbers.
      let a = frames_into o l f ranges numbers in
      (λ n. not_stored (found o l) both_lists a ranges n, λ n. not_stored (found o l) (deliver o l) a numbers n);
  trial = λ o l f s t first second.
      let a = trial_into o l f s t first second in
      let v : File → Trial = λ x. trial_of o l x.region s t in
      (λ n. not_stored v (lists_by s) a first n, λ n. not_stored v (lists_by t) a second n);
  corners_C = λ i out n. ap (λ a. stored (λ c before. put 0 (corners_list c) before) a out);
  reader_C = λ f rows header.
      (λ n. not_stored header_of rows_into (in_both 3 (read_into f rows) header) rows n, λ n. ap (λ a. stored (λ h before. put 0 (header_list h) before) a header));
  contents_C = λ f header n. ap (λ a. stored (λ x before. put 0 (contents_list x) before) a header);
  cover_C = λ f out counts. (
    λ n. not_stored (λ x. counts_of (cover x)) both_lists (in_both cover_counts (cover_into f out) counts) out n,
    λ n. ap (λ a. stored (λ c before. put 0 (counts_list c) before) a counts),
  );
  entry_C = λ i l out n. ap (λ a. stored entry_into a out);
  no_entry_C = λ i l out. ap (λ a. stored entry_into a out);
  frames_C = λ o l f ranges numbers counts.
      let a = frames_into_c o l f ranges numbers counts in (
        λ n. not_stored (found o l) both_lists a ranges n,
        λ n. not_stored (found o l) (deliver o l) a numbers n,
        λ n. ap (λ b. stored (λ r before. put 0 (frames_list r) before) b counts),
      );
  trial_C = λ o l f s t first second numbers.
      let a = trial_into_c o l f s t first second numbers in
      let v : File → Trial = λ x. trial_of o l x.region s t in (
        λ n. not_stored v (lists_by s) a first n,
        λ n. not_stored v (lists_by t) a second n,
        λ n. ap (λ b. stored (λ r before. put 0 (trial_list r) before) b numbers),
      );
  chosen_C = λ z ns first second part n. ap (λ a. stored (put 0) a part);
}
