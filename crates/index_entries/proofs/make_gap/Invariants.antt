-- `index_entries::make_gap` moves entry after entry up, the last one first, while e precedes it. The loop's invariant: with i left, the list is `raised` from
-- there on, and e precedes all that were moved. Assumes nothing.
use Prim.Native.Nat.{ℕ, ◌+◌, ◌*◌, ◌-◌, ◌≤◌, ◌<◌}
use mathlib.Core.Path.{◌≡◌}
use mathlib.Core.Bool.{true}
use lib.ListN.{length}
use Rattle.index.specs.Entries.{precedes, Width, entry_at}
use Rattle.index_entries.specs.Steps.{raised}
use Rattle.index_entries.proofs.make_gap.Given as goal

abbrev pub invariant-loop-i : goal.invariant-loop-i
invariant-loop-i l =
    (l.i ≤ l.n) × (l.index ≡ raised (1 + Width * l.i) l.initial.index (Width * (l.n - l.i))) × (length l.index ≡ length l.initial.index)
    × ((j : ℕ) → l.i ≤ j → j < l.n → precedes l.e (entry_at l.initial.index (1 + Width * j)) ≡ true)
