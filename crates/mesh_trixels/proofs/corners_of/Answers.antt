-- `mesh_trixels::corners_of` answers by the depth: none and too deep are refused, and the others have the corners of their level. Assumes nothing.
use Prim.Native.Nat.{◌≤◌}
use mathlib.Core.Path.{◌≡◌, sym, ◌∙◌}
use mathlib.Core.Bool.{true}
use Rattle.vector.specs.Numbers.{is_depth}
use Rattle.vector.proofs.DepthLaws.{depth_range}
use Rattle.mesh_trixels.proofs.CornerLaws.{corners_none, corners_given_law, level_range}
use Rattle.mesh_trixels.proofs.corners_of.Goals as goal

depth : (c : goal.Else-not-is_depth) → is_depth c.depth_of-depth.result ≡ true
depth c = sym c.is_depth.ensures ∙ c.if-not-is_depth.false

least : (c : goal.Else-not-is_depth) → 1 ≤ c.depth_of-depth.result
least c = (depth_range c.depth_of-depth.result (depth c)).0

pub returns-then-not-is_depth : goal.returns-then-not-is_depth
returns-then-not-is_depth c =
    let d = c in
    corners_none d.args.id _ d.depth_of-depth.ensures.value (sym c.is_depth.ensures ∙ c.if-not-is_depth.true)

pub corners_below-requires : goal.corners_below-requires
corners_below-requires c = let d = c in let both = level_range d.args.id _ d.depth_of-depth.ensures.value (least c) in record {
  n_bound = both.0;
  id_bound = both.1;
}

pub returns : goal.returns
returns c =
    let e = c.before in
    let d = e in
    corners_given_law d.args.id _ d.depth_of-depth.ensures.value _ (depth e) c.corners_below.ensures.0
