-- `mesh_trixels::cut` is the cutting: each midpoint is Unit of a sum, each normal Scale of a product of midpoints. Assumes nothing.
use mathlib.Core.Path.{◌≡◌, ◌∙◌}
use Rattle.vector.specs.declared.Vec3.{Vec3}
use Rattle.vector.specs.Vectors.{cross, scale}
use Rattle.mesh.specs.Trixels.{cut}
use Rattle.mesh_trixels.proofs.cut.Goals as goal

-- the normal of a cut by its two midpoints
normal : {a b x y r : Vec3} → r ≡ scale (cross a b) → a ≡ x → b ≡ y → r ≡ scale (cross x y)
normal e f g = e ∙ (λ i. scale (cross (f i) (g i)))

pub returns : goal.returns
unfolding cut
returns c =
    let m = c in
    let w2 = m.midpoint-w2.ensures in
    let w1 = m.midpoint-w1.ensures in
    let w0 = m.midpoint-w0.ensures in
    let c0 = c.normal.ensures in
    let c1 = c.normal-2.ensures in
    let c2 = c.normal-3.ensures in (
      λ i. record {
        w0 = w0.0 i;
        w1 = w1.0 i;
        w2 = w2.0 i;
        c0 = normal c0.0 w2.0 w1.0 i;
        c1 = normal c1.0 w0.0 w2.0 i;
        c2 = normal c2.0 w1.0 w0.0 i;
      },
      record { w0 = w0.1; w1 = w1.1; w2 = w2.1; c0 = c0.1; c1 = c1.1; c2 = c2.1 },
    )
