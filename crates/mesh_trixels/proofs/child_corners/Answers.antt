-- `mesh_trixels::child_corners` gives the corners of a child, by the table of children. Assumes nothing.
use native.Mathlib.Omega.{arith}
use mathlib.Core.Path.{◌≡◌, sym, subst, ◌∙◌}
use Rattle.mesh.specs.declared.Corners.{Corners}
use Rattle.mesh_trixels.specs.Corners.{SmallCorners}
use Rattle.mesh_trixels.proofs.CornerLaws.{child_0, child_1, child_2, child_3}
use Rattle.mesh_trixels.proofs.child_corners.Goals as goal

-- three corners that are the child's
done : {r t c : Corners} → r ≡ t → t ≡ c → SmallCorners t → (r ≡ c) × SmallCorners r
done e h small = (e ∙ h, subst SmallCorners (sym e) small)

pub returns-in-0 : goal.returns-in-0
returns-in-0 c =
    let m2 = c.midpoint.ensures in
    let m1 = c.midpoint-in-0.ensures in
    done c.triple.ensures (child_0 c.args.c c.in-0.is m1.0 m2.0) (record { v0 = c.requires.v0; v1 = m2.1; v2 = m1.1 })

pub returns-in-1 : goal.returns-in-1
returns-in-1 c =
    let m0 = c.midpoint-in-1.ensures in
    let m2 = c.midpoint-in-1-2.ensures in
    done c.triple-in-1.ensures (child_1 c.args.c c.in-1.is m0.0 m2.0) (record { v0 = c.requires.v1; v1 = m0.1; v2 = m2.1 })

pub returns-in-2 : goal.returns-in-2
returns-in-2 c =
    let m1 = c.midpoint-in-2.ensures in
    let m0 = c.midpoint-in-2-2.ensures in
    done c.triple-in-2.ensures (child_2 c.args.c c.in-2.is m0.0 m1.0) (record { v0 = c.requires.v2; v1 = m1.1; v2 = m0.1 })

pub returns-in_default : goal.returns-in_default
returns-in_default c =
    let m0 = c.midpoint-in_default.ensures in
    let m1 = c.midpoint-in_default-2.ensures in
    let m2 = c.midpoint-in_default-3.ensures in
    done c.triple-in_default.ensures (child_3 c.args.c (omega arith) m0.0 m1.0 m2.0) (record { v0 = m0.1; v1 = m1.1; v2 = m2.1 })
