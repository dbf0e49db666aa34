-- `htm_abi::trials::setting_refusal_or_space` asks both settings. Assumes nothing.
use mathlib.Core.Path.{◌≡◌, sym, ap, ◌∙◌}
use Rattle.std.specs.Prelude.{Result, Ok, Err}
use Rattle.std.specs.Option.{unwrap_or}
use Rattle.std.specs.Result.{result_and, result_err}
use Rattle.answer.specs.declared.Refusal.{Refusal}
use Rattle.answer.specs.Calls.{number}
use Rattle.answer.specs.Answer.{refused}
use Rattle.trial.specs.declared.Setting.{Setting}
use Rattle.trial_calls.specs.Tries.{SettingRefusal}
use Rattle.htm_abi.specs.ShortLists.{setting_refusal_or_space}
use Rattle.htm_abi.proofs.trials.setting_refusal_or_space.Goals as goal

first : (s t : Setting) (x y : Result (Unit {0}) Refusal) → SettingRefusal s x → SettingRefusal t y
    → setting_refusal_or_space s t ≡ refused (number (unwrap_or (result_err (result_and x y)) Refusal.Space))
first s t (Err r) y p q = p _
first s t (Ok u) (Err r) p q = p _ ∙ q _
first s t (Ok u) (Ok v) p q = p _ ∙ q _

pub returns : goal.returns
returns c =
    let e = c.unwrap_or.ensures ∙ ap (λ o. unwrap_or o Refusal.Space) (c.err.ensures.value ∙ ap result_err c.and-checked.ensures) in
    first c.args.s c.args.t c.check_setting.result c.check_setting-2.result c.check_setting.ensures c.check_setting-2.ensures ∙ ap (λ r. refused (number r)) (sym e)
