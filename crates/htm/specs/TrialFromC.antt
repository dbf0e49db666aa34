-- A trial for a host in C: settings, results and parts as numbers. Document 02, F-13. As in CalledFromC a refusal is minus its number, and comes before any
-- list is written. How results and parts stand in lists: htm_abi/specs/TrialValues.
--   trial_into_c ..       the file that is tried, or the refusal: as for `trial`, then 10 where the list of numbers has fewer than eleven elements
--   trial_for_c .., first_after_c, second_after_c, trial_after_c   both results; the two buffers and the list of numbers afterwards (`trial_list`)
--   chosen_for_c z ns ..  which buffer, and how many of its elements are the part (`part_list`), given the status z and the numbers ns of a trial (`answer_in`);
--                       10 where ns has fewer than eleven elements, or the list for the answer fewer than two; chosen_after_c: that list afterwards
--   ReadBack            the status and the numbers of `htm_trial` say what the trial answered, a result or a refusal
--   PartForC            so after `htm_trial`, whatever it answered, `htm_chosen` with its status, its numbers and its two buffers gives the part of that answer
--   CallReadBack, CallPartForC   the same of what a call in Rattle answered
use Rattle.std.specs.Prelude.{ℕ, ◌≤◌, ◌≡◌, List, leb, length, ℤ}
use Rattle.std.specs.Prelude.{Result}
use Rattle.answer.specs.declared.Refusal.{Refusal}
use Rattle.answer.specs.Calls.{answer_of}
use Rattle.answer.specs.Answer.{Answer, gives, check, with_value, Space}
use Rattle.answer.specs.Lent.{put, stored}
use Rattle.region.specs.Reader.{File}
use Rattle.trial.specs.declared.Setting.{Setting}
use Rattle.trial.specs.declared.Trial.{Trial}
use Rattle.trial.specs.Trials.{trial_of}
use Rattle.trial.specs.Answers.{trial_into, lists_by, trial_list, trial_counts}
use Rattle.htm_abi.specs.TrialValues.{trial_given, numbered, answer_in, part_list}
use Rattle.htm_abi.specs.Values.{status_of}
use Rattle.htm.specs.CalledFromC.{in_both}

-- ---- the trial

abbrev pub trial_into_c : ℕ → List ℤ → List ℕ → Setting → Setting → List ℕ → List ℕ → List ℕ → Answer File
trial_into_c o l f s t first second numbers = in_both trial_counts (trial_into o l f s t first second) numbers

unfoldable pub trial_for_c : ℕ → List ℤ → List ℕ → Setting → Setting → List ℕ → List ℕ → List ℕ → Answer Trial
trial_for_c o l f s t first second numbers = with_value (λ x. trial_of o l x.region s t) (trial_into_c o l f s t first second numbers)

unfoldable pub first_after_c : ℕ → List ℤ → List ℕ → Setting → Setting → List ℕ → List ℕ → List ℕ → List ℕ
first_after_c o l f s t first second numbers = stored (lists_by s) (trial_into_c o l f s t first second numbers) first

unfoldable pub second_after_c : ℕ → List ℤ → List ℕ → Setting → Setting → List ℕ → List ℕ → List ℕ → List ℕ
second_after_c o l f s t first second numbers = stored (lists_by t) (trial_into_c o l f s t first second numbers) second

unfoldable pub trial_after_c : ℕ → List ℤ → List ℕ → Setting → Setting → List ℕ → List ℕ → List ℕ → List ℕ
trial_after_c o l f s t first second numbers = stored (λ r before. put 0 (trial_list r) before) (trial_for_c o l f s t first second numbers) numbers

-- the call gave the status and left the three lists, all by these definitions: its contract
pub record TrialCallC (o : ℕ) (l : List ℤ) (f : List ℕ) (s t : Setting) (first second numbers : List ℕ) (status : ℤ) (one two left : List ℕ) : Type 0 where
  pub status_is : status ≡ status_of (trial_for_c o l f s t first second numbers)
  pub first_left : one ≡ first_after_c o l f s t first second numbers
  pub second_left : two ≡ second_after_c o l f s t first second numbers
  pub numbers_left : left ≡ trial_after_c o l f s t first second numbers

-- ---- the part that is handed back

unfoldable pub chosen_for_c : ℤ → List ℕ → List ℕ → List ℕ → List ℕ → Answer (List ℕ)
chosen_for_c z ns first second part =
    check Space (leb trial_counts (length ns)) (check Space (leb 2 (length part)) (gives (part_list (answer_in z ns) first second)))

unfoldable pub chosen_after_c : ℤ → List ℕ → List ℕ → List ℕ → List ℕ → List ℕ
chosen_after_c z ns first second part = stored (put 0) (chosen_for_c z ns first second part) part

-- ---- both calls

abbrev pub ReadBack : Type 0
ReadBack =
    (o : ℕ) (l : List ℤ) (f : List ℕ) (s t : Setting) (first second numbers : List ℕ) (r : Result Trial ℕ)
    → trial_given r ≡ trial_for_c o l f s t first second numbers
    → answer_in (status_of (trial_for_c o l f s t first second numbers)) (trial_after_c o l f s t first second numbers) ≡ r

abbrev pub PartForC : Type 0
PartForC =
    (o : ℕ) (l : List ℤ) (f : List ℕ) (s t : Setting) (first second numbers part : List ℕ) (r : Result Trial ℕ)
    → trial_given r ≡ trial_for_c o l f s t first second numbers → trial_counts ≤ length numbers → 2 ≤ length part
    → let one = first_after_c o l f s t first second numbers in
    let two = second_after_c o l f s t first second numbers in
    chosen_for_c (status_of (trial_for_c o l f s t first second numbers)) (trial_after_c o l f s t first second numbers) one two part
    ≡ gives (part_list r one two)

-- ---- the same of what a call in Rattle answered: a result, or one of the refusals

abbrev pub CallReadBack : Type 0
CallReadBack =
    (o : ℕ) (l : List ℤ) (f : List ℕ) (s t : Setting) (first second numbers : List ℕ) (r : Result Trial Refusal)
    → answer_of r ≡ trial_for_c o l f s t first second numbers
    → answer_in (status_of (trial_for_c o l f s t first second numbers)) (trial_after_c o l f s t first second numbers) ≡ numbered r

abbrev pub CallPartForC : Type 0
CallPartForC =
    (o : ℕ) (l : List ℤ) (f : List ℕ) (s t : Setting) (first second numbers part : List ℕ) (r : Result Trial Refusal)
    → answer_of r ≡ trial_for_c o l f s t first second numbers → trial_counts ≤ length numbers → 2 ≤ length part
    → let one = first_after_c o l f s t first second numbers in
    let two = second_after_c o l f s t first second numbers in
    chosen_for_c (status_of (trial_for_c o l f s t first second numbers)) (trial_after_c o l f s t first second numbers) one two part
    ≡ gives (part_list r one two)
