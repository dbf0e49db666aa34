-- `algebra::shift_down` moves one element after another: after k turns the list is `shifted_down` by k. Assumes nothing.
use mathlib.Core.Path.{◌≡◌}
use lib.ListN.{length}
use Rattle.algebra.specs.Moves.{shifted_down}
use Rattle.algebra.proofs.shift_down.Given as goal

abbrev pub invariant-loop-k : goal.invariant-loop-k
invariant-loop-k g l = (l.list ≡ shifted_down g.row.WIDTH l.at l.initial.list l.k) × (length l.list ≡ length l.initial.list)
