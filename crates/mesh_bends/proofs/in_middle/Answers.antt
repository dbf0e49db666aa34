-- `mesh_bends::in_middle` gives the bends of the child in the middle. Assumes nothing.
use mathlib.Core.Path.{◌∙◌}
use mathlib.Core.Bool.{cond}
use Rattle.algebra.proofs.Sized.{held, is_add, stored_same}
use Rattle.mesh_bends.specs.Bends.{bends, first_cut, later_cut}
use Rattle.mesh_bends.proofs.CutLaws.{edge_by_edge}
use Rattle.mesh_bends.proofs.in_middle.Goals as goal

pub returns : goal.returns
returns c =
    let first = c.args.first in
    let w = c.requires in
    let a0 = (held w.a0 tt).eq in
    let a1 = (held w.a1 tt).eq in
    let a2 = (held w.a2 tt).eq in
    let sum = (is_add (is_add (held w.a0 tt) (held w.a1 tt) tt) (held w.a2 tt) tt).eq in
    let x = stored_same _ c.cut.type_inv ∙ c.cut.ensures ∙ (λ i. cond first (first_cut (a0 i) (sum i)) (later_cut (a0 i))) in
    let y = stored_same _ c.cut-2.type_inv ∙ c.cut-2.ensures ∙ (λ i. cond first (first_cut (a1 i) (sum i)) (later_cut (a1 i))) in
    let z = stored_same _ c.cut-3.type_inv ∙ c.cut-3.ensures ∙ (λ i. cond first (first_cut (a2 i) (sum i)) (later_cut (a2 i))) in
    (λ i. bends (x i) (y i) (z i)) ∙ edge_by_edge first _ _ _ _ _ _
