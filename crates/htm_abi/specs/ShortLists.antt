-- Calls for C for which a lent list is too short in any case: the refusal that is theirs then, for the code that checks the list first. By the rules number 10
-- comes last (htm/specs/Refusals).
--   file_refusal_or_space f         the file's own refusal, or 10
--   setting_refusal_or_space s t    5 or 6 of the first setting that is none, or 10
--   trial_refusal_or_space o f s t  of a trial: 18, the file's, 5 and 6 of each setting, or 10
use Rattle.std.specs.Prelude.{ℕ, List}
use Rattle.answer.specs.Answer.{Answer, refused, check, then, Space, Owner}
use Rattle.region.specs.Reader.{File, read}
use Rattle.index.specs.Exposures.{is_owner}
use Rattle.trial.specs.declared.Setting.{Setting}
use Rattle.trial.specs.Answers.{check_setting}

abbrev pub file_refusal_or_space : List ℕ → Answer File
file_refusal_or_space f = then (read f) (λ x. refused Space)

abbrev pub setting_refusal_or_space : Setting → Setting → Answer File
setting_refusal_or_space s t = check_setting s (check_setting t (refused Space))

abbrev pub trial_refusal_or_space : ℕ → List ℕ → Setting → Setting → Answer File
trial_refusal_or_space o f s t = check Owner (is_owner o) (then (read f) (λ x. setting_refusal_or_space s t))
