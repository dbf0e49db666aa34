-- `mesh_table::vector_at` is vector k of a row: its three numbers, the same in 64 bits as in 32. Assumes nothing.
use mathlib.Core.Path.{◌≡◌, sym, subst}
use lib.IntN.{ℤ}
use mir.Syntax.{w32, w64}
use mir.Val.{to_z, of_z}
use Rattle.algebra.proofs.Sizes.{Upto}
use Rattle.algebra.proofs.Sized.{same_wider, sfits}
use Rattle.vector.specs.Numbers.{Kℕ}
use Rattle.vector.specs.Vectors.{vec}
use Rattle.vector.proofs.Sizes.{Small}
use Rattle.mesh_table.proofs.Numbers.{small_numbers}
use Rattle.mesh_table.proofs.vector_at.Goals as goal

wider : {z : ℤ} → Upto Kℕ z → to_z w64 (of_z w64 (to_z w32 (of_z w32 z))) ≡ z
wider u = same_wider (sfits w32 u tt)

three : {a b c x y z : ℤ} → a ≡ x → b ≡ y → c ≡ z → vec a b c ≡ vec x y z
three p q r = λ j. vec (p j) (q j) (r j)

pub returns : goal.returns
returns c =
    let s = small_numbers c.requires.row c.args.k c.requires.k_bound in
    let e = three (wider s.x) (wider s.y) (wider s.z) in
    (e, subst Small (sym e) s)
