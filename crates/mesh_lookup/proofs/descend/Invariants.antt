-- `mesh_lookup::descend` is the descent. The loop's invariant: what is left of it from here is what it was from the start. Assumes nothing.
use Prim.Native.Nat.{◌^◌, ◌≤◌, ◌<◌}
use Rattle.vector.proofs.Sizes.{Small}
use Rattle.mesh_lookup.proofs.DescentLaws.{Descending}
use Rattle.mesh_lookup.proofs.descend.Given as goal

abbrev pub invariant-loop-level : goal.invariant-loop-level
invariant-loop-level l = Small l.p × (l.n ≤ 11) × (l.initial.at.id < 2 ^ 40) × Descending l.p l.initial.at.corners l.initial.at.id l.at.corners l.at.id l._level
