-- `mesh_jump::corners_along` gives the corners along the digits: those of a child of the trixel one level above. Assumes nothing.
use Prim.Native.Nat.{◌-◌, ◌/◌, ◌%◌}
use mathlib.Core.Path.{ap, ◌∙◌}
use Rattle.mesh.specs.Trixels.{child}
use Rattle.mesh.specs.Identifiers.{corners_of}
use Rattle.mesh_trixels.specs.Corners.{bare}
use Rattle.mesh_trixels.proofs.CornerLaws.{child_corners}
use Rattle.mesh_jump.specs.Jumps.{along}
use Rattle.mesh_jump.proofs.JumpLoop.{along_none, along_child}
use Rattle.mesh_jump.proofs.+corners_along.Goals as goal

pub returns-then-n-eq0 : goal.returns-then-n-eq0
returns-then-n-eq0 t c = (ap corners_of (along_none c.args.n c.args.id (bare c.args.c) c.if-n-eq0.true), c.requires)

pub returns : goal.returns
returns t c =
    let n = c.args.n in
    let i = c.args.id in
    let x = bare c.args.c in (
      c.child_corners.ensures.0
          ∙ ap (λ d. corners_of (child (i % 4) (bare d))) c.corners_along.ensures.0
          ∙ child_corners (i % 4) (along (n - 1) (i / 4) x)
          ∙ ap corners_of (along_child n i x c.if-n-eq0.false),
      c.child_corners.ensures.1,
    )
