-- Settings, results and parts of a trial as numbers, for a host in C. Document 02, F-13.
--   setting_of d b     the setting of the depth d and the budget b
--   choice_in n        the choice that the number n stands for: 1 is the first, any other number the second
--   trial_in ns        the result whose numbers stand at the beginning of ns, in the order of `trial_list` (trial/specs/Answers)
--   answer_in z ns     what a trial answered that gave C the status z and left the numbers ns: the result in ns where z is 0, else the refusal of |z|
--   trial_given r      the answer that a result, or the number of a refusal, stands for
--   numbered r         what a trial answered, with the number of a refusal
--   which_of r         which buffer the part is of: 1 for the first, 2 for the second, 0 after a refusal
--   part_list r first second   that, and how many elements of it are the part (`part_of`, trial/specs/Answers)
use Rattle.std.specs.Prelude.{ℕ, ◌+◌, cond, List, [], ◌∷◌, eqb, length, get_or, ℤ, nat_abs}
use Rattle.std.specs.Prelude.{Result, Ok, Err}
use Rattle.answer.specs.declared.Refusal.{Refusal}
use Rattle.answer.specs.Answer.{Answer, gives, refused}
use Rattle.answer.specs.Calls.{number}
use Rattle.trial.specs.declared.Setting.{Setting}
use Rattle.trial.specs.declared.SettingResult.{SettingResult}
use Rattle.trial.specs.declared.Choice.{Choice}
use Rattle.trial.specs.declared.Choice.TheVariants.{First, Second}
use Rattle.trial.specs.declared.Trial.{Trial}
use Rattle.trial.specs.Answers.{of_choice, part_of}

abbrev pub setting_of : ℕ → ℕ → Setting
setting_of d b = record { depth = d; budget = b }

-- ---- a result

abbrev pub choice_in : ℕ → Choice
choice_in n = cond (eqb n 1) First Second

abbrev pub result_in : List ℕ → ℕ → SettingResult
result_in ns k = record {
  unchecked = get_or ns k 0;
  held = get_or ns (k + 1) 0;
  discarded = get_or ns (k + 2) 0;
  outer = get_or ns (k + 3) 0;
  inner = get_or ns (k + 4) 0;
}

abbrev pub trial_in : List ℕ → Trial
trial_in ns = record { first = result_in ns 0; second = result_in ns 5; choice = choice_in (get_or ns 10 0) }

abbrev pub trial_given : Result Trial ℕ → Answer Trial
trial_given (Ok t) = gives t
trial_given (Err n) = refused n

abbrev pub numbered : Result Trial Refusal → Result Trial ℕ
numbered (Ok t) = Ok t
numbered (Err r) = Err (number r)

abbrev pub answer_in : ℤ → List ℕ → Result Trial ℕ
answer_in z ns = cond (eqb (nat_abs z) 0) (Ok (trial_in ns)) (Err (nat_abs z))

-- ---- a part

abbrev pub which_of : {E : Type 0} → Result Trial E → ℕ
which_of (Ok t) = of_choice t.choice 1 2
which_of (Err e) = 0

abbrev pub part_list : {E : Type 0} → Result Trial E → List ℕ → List ℕ → List ℕ
part_list r first second = which_of r ∷ length (part_of r first second) ∷ []
