-- `mesh_table::rotation` is the rotation of a root: its four tests, computed at each of the eight. Assumes nothing.
use Prim.Native.Nat.{ℕ, ◌+◌, ◌%◌, ◌<◌}
use mathlib.Core.Path.{◌≡◌, refl}
use lib.Dec.{eqb, leb}
use Rattle.mesh.specs.declared.Rotation.{Rotation}
use Rattle.mesh.specs.Rotations.{rotation}
use Rattle.mesh.proofs.RotationLaws.{by_root}
use Rattle.mesh_table.proofs.rotation.Goals as goal

abbrev tests : ℕ → Rotation
tests r = record { swaps = eqb (r % 2) 1; x = leb 2 ((r + 1) % 4); y = leb 4 ((r + 2) % 8); z = leb 4 r }

computed : (r : ℕ) → r < 8 → tests r ≡ rotation r
unfolding rotation
computed = by_root (λ r. tests r ≡ rotation r) refl refl refl refl refl refl refl refl

pub returns : goal.returns
returns c = computed c.args.root c.requires
