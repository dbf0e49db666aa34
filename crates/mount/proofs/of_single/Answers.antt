-- `mount::of_single` is the rule at the width of an f32: that of `component` at its bits, and of a NaN by itself. Assumes nothing.
use mathlib.Core.Path.{sym, ap, subst, ◌∙◌}
use lib.Dec.{T}
use lib.Ieee.{binary32}
use Rattle.mount.specs.Floats.{single, component}
use Rattle.mount.proofs.ValueLaws.{float_by_value}
use Rattle.mount.proofs.NanLaws.{a_nan_refused}
use Rattle.mount.proofs.of_single.Goals as goal

pub returns-then-is_nan : goal.returns-then-is_nan
returns-then-is_nan c = a_nan_refused binary32 c.args.s (sym c.is_nan.ensures.value ∙ c.if-is_nan.true) ∙ float_by_value binary32 c.args.s (subst T (sym c.well_formed.0.1) tt)

pub returns : goal.returns
returns c = c.component.ensures ∙ ap (component single) c.from.ensures ∙ float_by_value binary32 c.args.s (subst T (sym c.well_formed.0.1) tt)
