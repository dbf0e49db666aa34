-- Trying settings before buying disks. Document 02, F-13: delivered plus held is the same under both settings; the part handed back is the outer list that
-- spans the smaller share of the sky, the first if equal.
--   held_by o l g       how many entries of the owner o in the index l the region g holds
--   SameHeld n r       under both settings of the trial r, what is delivered unchecked plus what is tested and held is n
--   chosen_of c s t     the setting of the choice c; Smaller c s t g: its outer list spans no more than either, and the first is chosen if they
--                      are equal
--   TrialCorrect ..    of a trial's answer and the part that the second call hands back: both, and the part has the chosen setting's outer list
--   TrialsOfCalls      of whatever values meet the contracts of both calls
-- Proved, of the rules and of the answers too: proofs/TrialsKept.
use Rattle.std.specs.Prelude.{ℕ, ◌+◌, ◌≤◌, ◌≡◌, List, ℤ}
use Rattle.std.specs.Prelude.{Ok}
use Rattle.answer.specs.declared.Refusal.{Refusal}
use Rattle.algebra.specs.Lists.{tally}
use Rattle.region.specs.Regions.{Region, holds}
use Rattle.region.specs.Reader.{File, Accepted}
use Rattle.ranges.specs.Ranges.{pairs}
use Rattle.index.specs.HistoryCorrect.{IsIndex}
use Rattle.trial.specs.declared.Setting.{Setting}
use Rattle.trial.specs.declared.Choice.{Choice}
use Rattle.trial.specs.declared.Choice.TheVariants.{First}
use Rattle.trial.specs.declared.Trial.{Trial}
use Rattle.trial.specs.Trials.{cover_by, sky_of}
use Rattle.trial.specs.Answers.{TrialCall, part_of, of_choice}
use Rattle.htm.specs.Frames.{entries_by}

abbrev pub held_by : ℕ → List ℤ → Region → ℕ
held_by o l g = tally (λ e. holds g e.pointing) (entries_by o l)

pub record SameHeld (n : ℕ) (r : Trial) : Type 0 where
  pub first : r.first.unchecked + r.first.held ≡ n
  pub second : r.second.unchecked + r.second.held ≡ n

-- ---- the choice

abbrev pub chosen_of : Choice → Setting → Setting → Setting
chosen_of c s t = of_choice c s t

pub record Smaller (c : Choice) (s t : Setting) (g : Region) : Type 0 where
  pub no_first : sky_of (chosen_of c s t) g ≤ sky_of s g
  pub no_second : sky_of (chosen_of c s t) g ≤ sky_of t g
  pub equal : sky_of s g ≡ sky_of t g → c ≡ First

-- ---- of the calls

-- r is what the trial answered, and part is what the second call hands back of the two buffers as the trial left them
pub record TrialCorrect (o : ℕ) (l : List ℤ) (f : List ℕ) (s t : Setting) (r : Trial) (part : List ℕ) : Type 0 where
  pub file : File
  pub accepted : Accepted f file
  pub same_held : IsIndex l → SameHeld (held_by o l file.region) r
  pub smaller : Smaller r.choice s t file.region
  pub outer : part ≡ pairs (cover_by (chosen_of r.choice s t) file.region).outer

abbrev pub TrialsOfCalls : Type 0
TrialsOfCalls =
    (o : ℕ) (l : List ℤ) (f : List ℕ) (s t : Setting) (first second one two part : List ℕ) (r : Trial)
    → TrialCall o l f s t first second (Ok r) one two → part ≡ part_of {E = Refusal} (Ok r) one two → TrialCorrect o l f s t r part
