-- `mesh_jump::jump` gives digits of the rule. The loop's invariant: for whatever p and c the bent levels were passed, what is left of the descent from here is
-- what it was from the start, and the numbers follow p here. Assumes nothing.
use Prim.Native.Nat.{◌^◌, ◌≤◌, ◌<◌}
use mathlib.Core.Path.{◌≡◌}
use Rattle.vector.specs.declared.Vec3.{Vec3}
use Rattle.vector.proofs.Sizes.{Small}
use Rattle.mesh.specs.declared.Corners.{Corners}
use Rattle.mesh_jump.specs.Jumps.{Reached}
use Rattle.mesh_jump.proofs.JumpLoop.{Jumping}
use Rattle.mesh_jump.proofs.jump.Given as goal

abbrev pub invariant-loop-level : goal.invariant-loop-level
invariant-loop-level l =
    (l.n ≤ 9) × (l.id < 2 ^ 40) × (l.sure.count ≡ l._level)
    × ((p : Vec3) (c : Corners) → Small p → Reached p c l.id l.n (record { sure = l.initial.sure; numbers = l.initial.numbers }) → Jumping p c l.n l.id l.sure.id l.sure.count l.numbers)
