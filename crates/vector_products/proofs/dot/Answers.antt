-- `vector_products::dot` is the rule's scalar product: each of its three terms is at most 2²⁰ · 2⁴¹ in size, so that their sum stays below 2⁶³. Assumes nothing.
use Prim.Native.Nat.{◌*◌, ◌^◌}
use mathlib.Core.Path.{sym, subst}
use Rattle.algebra.proofs.Sizes.{Upto}
use Rattle.algebra.proofs.Sized.{held, is_mul, is_add, fits_mul, fits_add}
use Rattle.vector.proofs.SizeLaws.{dot_upto}
use Rattle.vector_products.proofs.dot.Goals as goal

pub overflow_mul-result : goal.overflow_mul-result
overflow_mul-result c = let p = c.requires in fits_mul (held p.small.x tt) (held p.at_most.x tt) tt

pub overflow_mul-result-2 : goal.overflow_mul-result-2
overflow_mul-result-2 c = let p = c.requires in fits_mul (held p.small.y tt) (held p.at_most.y tt) tt

pub overflow_add-result : goal.overflow_add-result
overflow_add-result c = let p = c.requires in fits_add (is_mul (held p.small.x tt) (held p.at_most.x tt) tt) (is_mul (held p.small.y tt) (held p.at_most.y tt) tt) tt

pub overflow_mul-result-3 : goal.overflow_mul-result-3
overflow_mul-result-3 c = let p = c.requires in fits_mul (held p.small.z tt) (held p.at_most.z tt) tt

pub overflow_add-result-2 : goal.overflow_add-result-2
overflow_add-result-2 c = let p = c.requires in fits_add (is_add (is_mul (held p.small.x tt) (held p.at_most.x tt) tt) (is_mul (held p.small.y tt) (held p.at_most.y tt) tt) tt) (is_mul (held p.small.z tt) (held p.at_most.z tt) tt) tt

pub returns : goal.returns
returns c =
    let p = c.requires in
    let e = (is_add (is_add (is_mul (held p.small.x tt) (held p.at_most.x tt) tt) (is_mul (held p.small.y tt) (held p.at_most.y tt) tt) tt) (is_mul (held p.small.z tt) (held p.at_most.z tt) tt) tt).eq in
    record {
      value = e;
      upto = subst (Upto (3 * 2 ^ 61)) (sym e) (dot_upto p.small p.at_most);
    }
