-- `vector_products::sum` is the rule's sum: each component is at most 2²¹ + 2²¹ in size, so that none leaves the 64 bits. Assumes nothing.
use Prim.Native.Nat.{◌^◌}
use mathlib.Core.Path.{◌≡◌, sym, subst}
use Rattle.algebra.proofs.Sized.{held, is_add}
use Rattle.vector.specs.Vectors.{plus}
use Rattle.vector.proofs.Sizes.{AtMost}
use Rattle.vector.proofs.SizeLaws.{at_most_plus}
use Rattle.vector_products.proofs.sum.Goals as goal

pub returns : goal.returns
returns c =
    let s = c in
    let p = s.requires in
    let x = (is_add (held p.at_most.x tt) (held p.at_most_2.x tt) tt).eq in
    let y = (is_add (held p.at_most.y tt) (held p.at_most_2.y tt) tt).eq in
    let z = (is_add (held p.at_most.z tt) (held p.at_most_2.z tt) tt).eq in
    let e : _ ≡ plus s.args.a s.args.b = λ i. record { x = x i; y = y i; z = z i } in
    record {
      value = e;
      at_most_3 = subst (AtMost (2 ^ 22)) (sym e) (at_most_plus p.at_most p.at_most_2);
    }
