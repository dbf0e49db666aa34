-- The budget that is counted with is 1 or more: 0 stands for the default, which is 16. Assumes nothing.
use Prim.Native.Nat.{ℕ, ◌≤◌}
use native.Mathlib.Omega.{arith}
use mathlib.Core.Path.{◌≡◌, refl}
use mathlib.Core.Bool.{Bool, true, false, cond}
use lib.Dec.{eqb, lit≤}
use borrow.Author.Tests.{eqb-false}
use Rattle.region.specs.Budgets.{default_budget, budget_of}

either : (b : ℕ) (t : Bool) → eqb b 0 ≡ t → 1 ≤ cond t default_budget b
either b true e = lit≤ tt
either b false e = omega (arith, eqb-false b 0 e)

pub budget_one : (b : ℕ) → 1 ≤ budget_of b
budget_one b = either b (eqb b 0) refl

pub zero_means : budget_of 0 ≡ 16
zero_means = refl
