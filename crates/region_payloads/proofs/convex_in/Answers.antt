-- `region_payloads::convex_in` checks 4, and then counts the convex. Assumes nothing.
use mathlib.Core.Path.{sym, ◌∙◌}
use Rattle.region_payloads.proofs.StepLaws.{convex_order, convex_more}
use Rattle.region_payloads.proofs.convex_in.Goals as goal

pub returns-then-not-may_begin : goal.returns-then-not-may_begin
returns-then-not-may_begin c x e = convex_order x _ e (sym c.may_begin.ensures ∙ c.if-not-may_begin.true)

pub returns : goal.returns
returns c x e = c.with_convex.ensures ∙ convex_more x _ e (sym c.may_begin.ensures ∙ c.if-not-may_begin.false)
