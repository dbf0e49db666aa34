-- `classify_active::find_active` keeps what was found where that is few. Assumes nothing.
use Rattle.std.proofs.Common.{◌≡◌, ◌∙◌, sym, subst₂, false, Result, Ok, Err}
use Rattle.std.specs.Result.{IfOk, is_err}
use mathlib.Core.Bool.{false≢true}
use Rattle.classify_active.specs.declared.NotStored.{NotStored}
use Rattle.classify_active.specs.Active.{ActivePrepared}
use Rattle.classify_active.proofs.find_active.Goals as goal

-- what holds where there is no error
kept : {P : Type 0} (o : Result (Unit {0}) NotStored) → IfOk o (λ _. P) → is_err o ≡ false → P
kept (Ok x) f e = f
kept (Err x) f e = absurd (false≢true (sym e))

pub returns-else-is_err : goal.returns-else-is_err
returns-else-is_err c =
    let f = kept c.active_in_region-found.result c.active_in_region-found.ensures (sym c.is_err.ensures.value ∙ c.if-is_err.false) in
    record {
      active_lists_in = record {
        anchor = c.anchor_of-r.ensures;
        active = λ h. subst₂ (λ xs es. ActivePrepared xs es c.active_in_region-found.new.active c.anchor_of-r.result) c.halfspaces.ensures c.ends.ensures f.1;
      };
      room = f.0;
    }
