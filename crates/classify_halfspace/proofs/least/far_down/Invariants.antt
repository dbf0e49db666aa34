-- `classify_halfspace::least::far_down` goes down from K. f is far at `high` throughout; where it is not at the next number, the least number at which it is
-- lies between them and decides; where it is, and the number is reached, so it is at E. Assumes nothing.
use Prim.Native.Nat.{◌-◌, ◌*◌, ◌^◌, ◌≤◌, ◌<◌}
use mathlib.Core.Path.{◌≡◌}
use mathlib.Core.Bool.{true}
use Rattle.vector.specs.Numbers.{Kℕ}
use Rattle.classify_halfspace.specs.LeastFar.{far_by}
use Rattle.classify_halfspace.proofs.least.far_down.Given as goal

abbrev pub invariant-loop-k : goal.invariant-loop-k
invariant-loop-k l =
    (0 < l.high) × (l.high ≤ Kℕ) × (Kℕ - 2 ^ (2 * l.k) < l.high) × (far_by l.h.low l.h.rest l.h.along l.h.square l.high ≡ true)
