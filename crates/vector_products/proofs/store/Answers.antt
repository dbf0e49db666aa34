-- `vector_products::store` stores the three numbers one after the other. Assumes nothing.
use Prim.Native.Nat.{◌+◌}
use mathlib.Core.Path.{◌∙◌}
use lib.ListN.{set}
use Rattle.algebra.proofs.Sized.{stored_same}
use Rattle.answer.proofs.PutLaws.{stored_put}
use Rattle.vector.specs.Vectors.{three}
use Rattle.vector_products.proofs.store.Goals as goal

pub returns : goal.returns
returns c =
    let v = c.args in
    let k = v.k in
    (λ i. set (set (set v.xs.now k (stored_same v.v.x c.struct_told-1.given.0.1 i)) (k + 1) (stored_same v.v.y c.struct_told-2-1.given.1.0.1 i)) (k + 2) (stored_same v.v.z c.struct_told-3-1.given.1.1.0.1 i))
    ∙ stored_put k (three v.v) v.xs.now c.requires
