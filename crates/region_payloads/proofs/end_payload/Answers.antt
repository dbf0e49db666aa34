-- `region_payloads::end_payload` checks 4, and gives the count. Assumes nothing.
use mathlib.Core.Path.{sym, ◌∙◌}
use Rattle.region_payloads.proofs.StepLaws.{end_refused, end_done}
use Rattle.region_payloads.proofs.end_payload.Goals as goal

pub returns-then-not-may_end : goal.returns-then-not-may_end
returns-then-not-may_end c x next left e f = end_refused _ next x left _ e f (sym c.may_end.ensures ∙ c.if-not-may_end.true)

pub returns : goal.returns
returns c x next left e f = end_done _ next x left _ e f (sym c.may_end.ensures ∙ c.if-not-may_end.false)
