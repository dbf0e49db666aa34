-- `mesh_lookup::rest_of` goes on from the corners along the sure digits. Assumes nothing.
use Prim.Native.Nat.{◌-◌}
use mathlib.Core.Path.{◌∙◌}
use Rattle.mesh_trixels.specs.Corners.{bare}
use Rattle.mesh_trixels.proofs.CornerLaws.{descend_corners}
use Rattle.mesh_jump.specs.Jumps.{along}
use Rattle.mesh_lookup.proofs.rest_of.Goals as goal

pub returns : goal.returns
returns c =
    let r = c.args.sure in
    c.descend.ensures.is
    ∙ descend_corners c.args.p (c.args.n - r.count) (bare c.corners_along.result) (along r.count r.id (bare c.args.c)) r.id c.corners_along.ensures.0
