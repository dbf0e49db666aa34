-- `mesh_lookup::root_number` is the root by the signs of the components. Assumes nothing.
use mathlib.Core.Path.{◌∙◌}
use mathlib.Core.Bool.{cond}
use Rattle.algebra.proofs.Sized.{held}
use Rattle.mesh.specs.Lookup.{not_negative, north_root, south_root, root_number}
use Rattle.mesh_lookup.proofs.root_number.Goals as goal

pub returns : goal.returns
unfolding root_number
returns c =
    let q = c.requires in
    let x = (held q.x tt).eq in
    let y = (held q.y tt).eq in
    let z = (held q.z tt).eq in
    (c.root_by.ensures.0 ∙ (λ i. cond (not_negative (z i)) (north_root (not_negative (x i)) (not_negative (y i))) (south_root (not_negative (x i)) (not_negative (y i)))), c.root_by.ensures.1)
