-- `mesh_bends::at_corner` gives the bends of the child at the first corner. Assumes nothing.
use mathlib.Core.Path.{ap, ◌∙◌}
use mathlib.Core.Bool.{cond}
use Rattle.algebra.proofs.Sized.{held, is_add, stored_same}
use Rattle.mesh_bends.specs.Bends.{bends, first_cut, first_half, later_cut, later_half}
use Rattle.mesh_bends.proofs.CutLaws.{edge_by_edge}
use Rattle.mesh_bends.proofs.at_corner.Goals as goal

pub returns : goal.returns
returns c =
    let first = c.args.first in
    let w = c.requires in
    let a0 = (held w.a0 tt).eq in
    let sum = (is_add (is_add (held w.a0 tt) (held w.a1 tt) tt) (held w.a2 tt) tt).eq in
    let x = stored_same _ c.cut.type_inv ∙ c.cut.ensures ∙ (λ i. cond first (first_cut (a0 i) (sum i)) (later_cut (a0 i))) in
    let y = stored_same _ c.half.type_inv ∙ c.half.ensures ∙ ap (λ a. cond first (first_half a) (later_half a)) (held w.a1 tt).eq in
    let z = stored_same _ c.half-2.type_inv ∙ c.half-2.ensures ∙ ap (λ a. cond first (first_half a) (later_half a)) (held w.a2 tt).eq in
    (λ i. bends (x i) (y i) (z i)) ∙ edge_by_edge first _ _ _ _ _ _
