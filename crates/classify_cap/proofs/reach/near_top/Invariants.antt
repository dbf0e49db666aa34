-- `classify_cap::reach::near_top` goes down from K by single steps: no number from `high` up to K is reached. Assumes nothing.
use Prim.Native.Nat.{ℕ, ◌+◌, ◌≤◌, ◌<◌}
use mathlib.Core.Path.{◌≡◌}
use mathlib.Core.Bool.{false}
use Rattle.vector.specs.Numbers.{Kℕ}
use Rattle.classify_cap.specs.Reach.{reach_all}
use Rattle.classify_cap.proofs.reach.near_top.Given as goal

abbrev pub invariant-loop-step : goal.invariant-loop-step
invariant-loop-step l =
    (Kℕ < l.high + l.step) × (l.high ≤ Kℕ + 1)
    × ((k : ℕ) → l.high ≤ k → k ≤ Kℕ → reach_all l.p.x0 l.p.x1 l.p.x2 l.p.s.now k ≡ false)
