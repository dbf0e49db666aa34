-- `mesh_table::turned_back` undoes a rotation: what it gives is turned to the vector that it was given. Assumes nothing.
use mathlib.Core.Path.{ap, ◌∙◌}
use Rattle.mesh.specs.Rotations.{turned_by}
use Rattle.mesh_table.proofs.TurnLaws.{swapped_by, turned_there}
use Rattle.mesh_table.proofs.turned_back.Goals as goal

pub returns : goal.returns
returns c =
    let k = c.args.k in
    let e = c.swapped_if.ensures.0 ∙ ap (swapped_by k.swaps) c.signed.ensures.0 in
    (ap (turned_by k) e ∙ turned_there k c.args.p, c.swapped_if.ensures.1)
