-- What the parts of a trial give. Document 02, F-13; the rules are those of trial/specs.
--   passing r a        the answer a, or the refusal r
--   SettingRefusal s r r is what the setting s is refused with, if it is none
--   Checks ..          r is the first check that fails behind the file's, if one does, where the index has k elements and the buffers have m and n:
--                      5, 6, 5, 6, 10
--   score_of d r        the result and the share of the sky of a search at the depth d; trial_by a b: both results, and the choice
--   Tries, TriesRows   the setting s tried on a region; on every region that has these rows
use Rattle.std.specs.Prelude.{ℕ, ◌+◌, ◌-◌, ◌*◌, ◌^◌, ◌≡◌, List, leb, ℤ, Result}
use Rattle.answer.specs.declared.Refusal.{Refusal}
use Rattle.answer.specs.Calls.{answer_of}
use Rattle.answer.specs.Answer.{Answer, check, then, Space}
use Rattle.region.specs.Regions.{Region}
use Rattle.region.specs.Budgets.{budget_of}
use Rattle.region.specs.Reader.{File}
use Rattle.covering.specs.Cover.{both_listed}
use Rattle.covering_walk.specs.Walk.{RowsOf}
use Rattle.index.specs.Entries.{IndexLength}
use Rattle.frames_calls.specs.declared.SearchResult.{SearchResult}
use Rattle.trial.specs.declared.Setting.{Setting}
use Rattle.trial.specs.declared.Trial.{Trial}
use Rattle.trial.specs.Trials.{cover_by, result_by, sky_of, choice_of}
use Rattle.trial.specs.Answers.{check_setting}
use Rattle.trial_calls.specs.declared.ScoredSetting.{ScoredSetting}

-- ---- the checks

abbrev pub passing : {A : Type 0} → Result (Unit {0}) Refusal → Answer A → Answer A
passing r a = then (answer_of r) (λ u. a)

abbrev pub SettingRefusal : Setting → Result (Unit {0}) Refusal → Type 0
SettingRefusal s r = (a : Answer File) → check_setting s a ≡ passing r a

-- those of the lists, by their lengths
abbrev pub check_lengths : {A : Type 0} → ℕ → Setting → Setting → ℕ → ℕ → Answer A → Answer A
check_lengths k s t m n a = check Space (leb (4 * budget_of s.budget) m) (check Space (leb (4 * budget_of t.budget) n) (check Space (leb IndexLength k) a))

abbrev pub Checks : ℕ → Setting → Setting → ℕ → ℕ → Result (Unit {0}) Refusal → Type 0
Checks k s t m n r = (a : Answer File) → check_setting s (check_setting t (check_lengths k s t m n a)) ≡ passing r a

-- ---- one setting

abbrev pub score_of : ℕ → SearchResult → ScoredSetting
score_of d r = record {
  result = record {
    unchecked = r.dispositions.unchecked;
    held = r.dispositions.held;
    discarded = r.dispositions.discarded;
    outer = r.counts.outer;
    inner = r.counts.inner;
  };
  sky = (r.counts.full + r.counts.partial + r.counts.swallowed) * 4 ^ (12 - d);
}

-- both results, and the choice
abbrev pub trial_by : ScoredSetting → ScoredSetting → Trial
trial_by a b = record { first = a.result; second = b.result; choice = choice_of a.sky b.sky }

pub record Tries (o : ℕ) (l : List ℤ) (s : Setting) (g : Region) (before : List ℕ) (r : ScoredSetting) (after : List ℕ) : Type 0 where
  pub result : r.result ≡ result_by o l g s
  pub sky : r.sky ≡ sky_of s g
  pub lists_left : after ≡ both_listed (budget_of s.budget) (cover_by s g) before

abbrev pub TriesRows : ℕ → List ℤ → Setting → List ℤ → ℕ → List ℕ → ScoredSetting → List ℕ → Type 0
TriesRows o l s rs n before r after = (g : Region) → RowsOf g n rs → Tries o l s g before r after
