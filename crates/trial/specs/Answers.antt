-- What the two calls of a trial answer, and what the first leaves in the two buffers. Document 02, F-13: checks run owner, the file, depth and budget of the
-- first setting, those of the second, then space for the first buffer and for the second. Last, as for every call on an index, a list too short to be one is
-- refused as space too.
--   trial_into ..       the file that is tried, or the refusal: 18, the file's, 5, 6, 5, 6, 10
--   trial_answer ..     both results, and the choice
--   first_after ..      the first buffer afterwards, and second_after the second: the two lists of each setting, as a cover leaves them
--   TrialCall ..       it gave r and left both buffers, all by these definitions: the contract of the call
--   trial_list t        both results and the choice, as numbers, `trial_counts` of them: the five of the first, those of the second, and the choice, 1 or 2
--   fitting n l        the first n elements of l; none where it has fewer
--   of_choice c a b     a where the choice c is the first, b where it is the second
--   part_by t ..        of the two buffers the chosen one's first 2 × outer count elements; none where it is shorter
--   part_of r ..        as above, for what a trial answered; none after a refusal
--   buffer_of r ..      of two things, one for each buffer, that of the buffer which the part is of: of the first unless the second is chosen
--   IsPart r first second part   a reference to that part, itself and not a copy: its elements, and where it points
use Rattle.std.specs.Prelude.{ℕ, ◌*◌, ◌≡◌, cond, List, [], ◌∷◌, leb, length, take, ℤ}
use Rattle.std.specs.Prelude.{Result, Ok, Err}
use Rattle.answer.specs.declared.Refusal.{Refusal}
use Rattle.answer.specs.Calls.{answer_of}
use Rattle.std.specs.Borrow.{Bor}
use Rattle.answer.specs.Answer.{Answer, gives, check, then, with_value, Depth, Budget, Space, Owner}
use Rattle.answer.specs.Lent.{stored}
use Rattle.vector.specs.Numbers.{is_depth}
use Rattle.region.specs.Budgets.{is_budget, budget_of}
use Rattle.region.specs.Reader.{File, read}
use Rattle.covering.specs.Cover.{both_listed}
use Rattle.index.specs.Exposures.{is_owner}
use Rattle.index.specs.Answers.{in_list}
use Rattle.trial.specs.declared.Setting.{Setting}
use Rattle.trial.specs.declared.Choice.{Choice}
use Rattle.trial.specs.declared.Choice.TheVariants.{First, Second}
use Rattle.trial.specs.declared.Trial.{Trial}
use Rattle.trial.specs.Trials.{cover_by, trial_of}

-- ---- the trial

-- the setting s is one, or the refusal: 5, 6
abbrev pub check_setting : {A : Type 0} → Setting → Answer A → Answer A
check_setting s a = check Depth (is_depth s.depth) (check Budget (is_budget s.budget) a)

-- the buffer has room for both lists of the setting s
abbrev pub room_for : {A : Type 0} → Setting → List ℕ → Answer A → Answer A
room_for s before a = check Space (leb (4 * budget_of s.budget) (length before)) a

abbrev pub trial_into : ℕ → List ℤ → List ℕ → Setting → Setting → List ℕ → List ℕ → Answer File
trial_into o l f s t first second =
    check Owner (is_owner o) (then (read f) (λ x. check_setting s (check_setting t (room_for s first (room_for t second (in_list l (gives x)))))))

unfoldable pub trial_answer : ℕ → List ℤ → List ℕ → Setting → Setting → List ℕ → List ℕ → Answer Trial
trial_answer o l f s t first second = with_value (λ x. trial_of o l x.region s t) (trial_into o l f s t first second)

abbrev pub lists_by : Setting → File → List ℕ → List ℕ
lists_by s x before = both_listed (budget_of s.budget) (cover_by s x.region) before

unfoldable pub first_after : ℕ → List ℤ → List ℕ → Setting → Setting → List ℕ → List ℕ → List ℕ
first_after o l f s t first second = stored (lists_by s) (trial_into o l f s t first second) first

unfoldable pub second_after : ℕ → List ℤ → List ℕ → Setting → Setting → List ℕ → List ℕ → List ℕ
second_after o l f s t first second = stored (lists_by t) (trial_into o l f s t first second) second

pub record TrialCall (o : ℕ) (l : List ℤ) (f : List ℕ) (s t : Setting) (first second : List ℕ) (r : Result Trial Refusal) (one two : List ℕ) : Type 0 where
  pub answer : answer_of r ≡ trial_answer o l f s t first second
  pub first_left : one ≡ first_after o l f s t first second
  pub second_left : two ≡ second_after o l f s t first second

-- a choice by its two cases
abbrev pub of_choice : {A : Type 0} → Choice → A → A → A
of_choice First first second = first
of_choice Second first second = second

-- as numbers, and how many they are
abbrev pub trial_list : Trial → List ℕ
trial_list t =
    t.first.unchecked ∷ t.first.held ∷ t.first.discarded ∷ t.first.outer ∷ t.first.inner
    ∷ t.second.unchecked ∷ t.second.held ∷ t.second.discarded ∷ t.second.outer ∷ t.second.inner ∷ of_choice t.choice 1 2 ∷ []

abbrev pub trial_counts : ℕ
trial_counts = 11

-- ---- the part that is handed back

abbrev pub fitting : ℕ → List ℕ → List ℕ
fitting n l = cond (leb n (length l)) (take n l) []

abbrev pub part_by : Trial → List ℕ → List ℕ → List ℕ
part_by t first second = of_choice t.choice (fitting (2 * t.first.outer) first) (fitting (2 * t.second.outer) second)

abbrev pub part_of : {E : Type 0} → Result Trial E → List ℕ → List ℕ → List ℕ
part_of (Ok t) first second = part_by t first second
part_of (Err e) first second = []

abbrev pub buffer_by : {A : Type 0} → Trial → A → A → A
buffer_by t first second = of_choice t.choice first second

abbrev pub buffer_of : {E A : Type 0} → Result Trial E → A → A → A
buffer_of (Ok t) first second = buffer_by t first second
buffer_of (Err e) first second = first

pub record IsPart {E : Type 0} (r : Result Trial E) (first second part : Bor (List ℕ)) : Type 0 where
  pub elements : part.now ≡ part_of r first.now second.now
  pub address : part.ref_ptr ≡ buffer_of r first.ref_ptr second.ref_ptr
