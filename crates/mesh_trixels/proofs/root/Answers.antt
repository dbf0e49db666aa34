-- `mesh_trixels::root` has the root's corners as normals too. Assumes nothing.
use mathlib.Core.Path.{sym, subst, ◌∙◌}
use Rattle.mesh.specs.Trixels.{root_of}
use Rattle.mesh_trixels.specs.Corners.{SmallTrixel}
use Rattle.mesh_trixels.proofs.SmallTrixels.{roots_small}
use Rattle.mesh_trixels.proofs.CornerLaws.{root_own}
use Rattle.mesh_trixels.proofs.root.Goals as goal

pub returns : goal.returns
returns c =
    let r = c.root_corners-c.ensures.0 in
    let k = c.args.k in
    let e = (λ i. root_of (r i).v0 (r i).v1 (r i).v2) ∙ root_own k in
    (e, subst SmallTrixel (sym e) (roots_small k))
