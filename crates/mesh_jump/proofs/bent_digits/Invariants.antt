-- `mesh_jump::bent_digits` gives digits of the rule, and numbers that follow p. The loop's invariant: for whatever p and c the first numbers and bends were made,
-- what is left of the descent from here is what it was from the start, and the trixel here is known with its bends. Assumes nothing.
use Prim.Native.Nat.{◌^◌, ◌≤◌, ◌<◌}
use mathlib.Core.Path.{◌≡◌}
use Rattle.vector.specs.declared.Vec3.{Vec3}
use Rattle.vector.proofs.Sizes.{Small}
use Rattle.mesh.specs.declared.Corners.{Corners}
use Rattle.mesh_trixels.specs.Corners.{bare}
use Rattle.mesh_bends.specs.Bends.{bends_of}
use Rattle.mesh_bends.proofs.Known.{Known}
use Rattle.mesh_jump.specs.Jumps.{begin_of, Started, Entry, along, volume_of}
use Rattle.mesh_jump.proofs.JumpLoop.{Jumping}
use Rattle.mesh_jump.proofs.bent_digits.Given as goal

abbrev pub invariant-loop-k : goal.invariant-loop-k
invariant-loop-k l =
    (l.n ≤ 9) × (l.id < 2 ^ 40) × (l.limit ≤ l.n) × (l.limit ≤ 4) × (l.sure.count ≡ l.k)
    × ((p : Vec3) (c : Corners) → Small p → Entry c → l.initial.numbers ≡ begin_of p c → Started p l.initial.numbers → l.initial.bends ≡ bends_of c
    → Jumping p c l.n l.id l.sure.id l.sure.count l.numbers × Known l.sure.count l.bends (volume_of c) (along l.sure.count l.sure.id (bare c)))
