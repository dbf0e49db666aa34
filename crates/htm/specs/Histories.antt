-- Frames and trials after every history of adds and removes from an empty index. Document 02, F-10 to F-13, of the calls, end to end.
--   FramesOfHistories   the owner's entries are those of the exposures that its own accepted calls leave, and of them are delivered exactly those that the
--                       region holds, in index order (`Delivered`, Frames)
--   TrialsOfHistories   the same entries, and unchecked plus held is the same under both settings (`SameHeld`, Trials), with no premise on the index
--   FramesNoninterference, TrialsNoninterference   two histories with the same calls of one owner in the same order give that owner the same frames and
--                       trials, in every lent list
use Rattle.std.specs.Prelude.{ℕ, ◌≡◌, List, ℤ}
use Rattle.std.specs.Prelude.{Result, Ok}
use Rattle.answer.specs.declared.Refusal.{Refusal}
use Rattle.index.specs.Exposures.{OwnerCapacity, Call, content_of}
use Rattle.index.specs.HistoryCorrect.{EntriesMatch}
use Rattle.index.specs.Noninterference.{calls_of, Ran}
use Rattle.frames.specs.declared.Frames as declared
use Rattle.frames.specs.Answers.{frames_answer, ranges_after, numbers_after, FramesCall}
use Rattle.trial.specs.declared.Setting.{Setting}
use Rattle.trial.specs.declared.Trial.{Trial}
use Rattle.trial.specs.Answers.{trial_answer, first_after, second_after, TrialCall}
use Rattle.htm.specs.Frames.{entries_by, Delivered}
use Rattle.htm.specs.Trials.{held_by, SameHeld}
use Rattle.region.specs.Reader.{File, Accepted}

abbrev pub Own : ℕ → List Call → List ℤ → Type 0
Own o h l = EntriesMatch (content_of OwnerCapacity (calls_of o h)) (entries_by o l)

abbrev pub FramesOfHistories : Type 0
FramesOfHistories =
    (o : ℕ) (h : List Call) (rs : List (Result (Unit {0}) Refusal)) (l : List ℤ) (f ranges numbers lists left : List ℕ) (r : declared.Frames) → Ran h rs l
    → FramesCall o l f ranges numbers (Ok r) lists left → Own o h l × Delivered o l f ranges numbers r lists left

abbrev pub TrialsOfHistories : Type 0
TrialsOfHistories =
    (o : ℕ) (h : List Call) (rs : List (Result (Unit {0}) Refusal)) (l : List ℤ) (f : List ℕ) (s t : Setting) (first second one two : List ℕ) (r : Trial) → Ran h rs l
    → TrialCall o l f s t first second (Ok r) one two
    → Own o h l × ((x : File) × Accepted f x × SameHeld (held_by o l x.region) r)

pub record SameFrames (o : ℕ) (m n : List ℤ) (f ranges numbers : List ℕ) : Type 0 where
  pub answer : frames_answer o m f ranges numbers ≡ frames_answer o n f ranges numbers
  pub lists : ranges_after o m f ranges numbers ≡ ranges_after o n f ranges numbers
  pub left : numbers_after o m f ranges numbers ≡ numbers_after o n f ranges numbers

pub record SameTrial (o : ℕ) (m n : List ℤ) (f : List ℕ) (s t : Setting) (first second : List ℕ) : Type 0 where
  pub answer : trial_answer o m f s t first second ≡ trial_answer o n f s t first second
  pub one : first_after o m f s t first second ≡ first_after o n f s t first second
  pub two : second_after o m f s t first second ≡ second_after o n f s t first second

abbrev pub FramesNoninterference : Type 0
FramesNoninterference = (o : ℕ) (h g : List Call) (rs qs : List (Result (Unit {0}) Refusal)) (m n : List ℤ) → Ran h rs m → Ran g qs n → calls_of o h ≡ calls_of o g
    → (f ranges numbers : List ℕ) → SameFrames o m n f ranges numbers

abbrev pub TrialsNoninterference : Type 0
TrialsNoninterference = (o : ℕ) (h g : List Call) (rs qs : List (Result (Unit {0}) Refusal)) (m n : List ℤ) → Ran h rs m → Ran g qs n → calls_of o h ≡ calls_of o g
    → (f : List ℕ) (s t : Setting) (first second : List ℕ) → SameTrial o m n f s t first second
