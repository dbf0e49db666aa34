-- `classify_cap::bisection::bisect` closes in: where an end has moved, f was asked there. Assumes nothing.
use Prim.Native.Nat.{◌-◌, ◌≤◌, ◌<◌}
use mathlib.Core.Path.{◌≡◌}
use mathlib.Core.Bool.{true, false}
use Rattle.classify_cap.proofs.bisection.bisect.Given as goal

abbrev pub invariant-loop-low : goal.invariant-loop-low
invariant-loop-low g l =
    (l.fn.low ≤ l.low) × (l.low < l.high) × (l.high ≤ l.fn.high)
    × ((l.low ≡ l.fn.low → ⊥) → goal.F-post g l.f l.low true)
    × ((l.high ≡ l.fn.high → ⊥) → goal.F-post g l.f l.high false)

abbrev pub decreases-loop-low : goal.decreases-loop-low
decreases-loop-low g l = l.high - l.low
