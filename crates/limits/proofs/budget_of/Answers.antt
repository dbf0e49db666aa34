-- `limits::budget_of` is the budget that is counted with. Assumes nothing.
use native.Mathlib.Omega.{arith}
use mathlib.Core.Path.{sym, ap}
use mathlib.Core.Bool.{cond}
use borrow.Author.Tests.{eq-eqb, ne_eqb}
use Rattle.region.specs.Budgets.{default_budget}
use Rattle.limits.proofs.budget_of.Goals as goal

pub returns-then-written-eq0 : goal.returns-then-written-eq0
returns-then-written-eq0 c = let n = c.args.written in (sym (ap (λ t. cond t default_budget n) (eq-eqb n 0 c.if-written-eq0.true)), omega arith)

pub returns-else-written-eq0 : goal.returns-else-written-eq0
returns-else-written-eq0 c = let n = c.args.written in (sym (ap (λ t. cond t default_budget n) (ne_eqb n 0 c.if-written-eq0.false)), omega arith)
