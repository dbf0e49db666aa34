-- `mesh_trixels::corners_below` gives the corners of a trixel: those of its root, or of the child of the trixel above it. Assumes nothing.
use Prim.Native.Nat.{◌-◌, ◌/◌, ◌%◌}
use native.Mathlib.Omega.{arith}
use mathlib.Core.Path.{ap, ◌∙◌}
use Rattle.mesh.specs.Trixels.{child}
use Rattle.mesh.specs.Identifiers.{corners_of, trixel}
use Rattle.mesh_trixels.specs.Corners.{bare}
use Rattle.mesh_trixels.proofs.CornerLaws.{child_corners, at_root, one_up, trixel_root, trixel_child}
use Rattle.mesh_trixels.proofs.+corners_below.Goals as goal

pub overflow_sub-id : goal.overflow_sub-id
overflow_sub-id t c = (at_root c.args.n c.args.id c.requires.n_bound c.requires.id_bound c.if-n-eq0.true).0

pub root_corners-requires : goal.root_corners-requires
root_corners-requires t c = (at_root c.args.n c.args.id c.requires.n_bound c.requires.id_bound c.if-n-eq0.true).1

pub returns-then-n-eq0 : goal.returns-then-n-eq0
returns-then-n-eq0 t c = (c.root_corners.ensures.0 ∙ ap corners_of (trixel_root c.args.n c.args.id c.if-n-eq0.true), c.root_corners.ensures.1)

pub corners_below-requires : goal.corners_below-requires
corners_below-requires t c =
    let up = one_up c.args.n c.args.id c.requires.n_bound c.requires.id_bound c.if-n-eq0.false in
    (omega (arith, c.decreases), up)

pub returns : goal.returns
returns t c =
    let n = c.args.n in
    let i = c.args.id in (
      c.child_corners.ensures.0
          ∙ ap (λ d. corners_of (child (i % 4) (bare d))) c.corners_below.ensures.0
          ∙ child_corners (i % 4) (trixel (n - 1) (i / 4))
          ∙ ap corners_of (trixel_child n i c.if-n-eq0.false),
      c.child_corners.ensures.1,
    )
