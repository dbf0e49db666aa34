-- `mesh_lookup::passes` is the sign of the product with the normal turned round. Assumes nothing.
use mathlib.Core.Path.{ap, ◌∙◌}
use lib.IntN.{pos}
use lib.Signed.{le_z}
use Rattle.algebra.proofs.Sized.{held}
use Rattle.vector.proofs.VectorLaws.{dot_comm}
use Rattle.mesh_lookup.proofs.passes.Goals as goal

pub returns : goal.returns
returns c =
    let p = c.args.p in
    let n = c.args.n in
    ap (λ s. le_z s (pos 0)) ((held c.dot.ensures.upto tt).eq ∙ c.dot.ensures.value ∙ dot_comm p n)
