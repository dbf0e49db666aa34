-- `vector_products::cross` is the rule's vector product: each component is a difference of two products within ±2⁴⁰. Assumes nothing.
use Prim.Native.Nat.{◌^◌}
use mathlib.Core.Path.{◌≡◌, sym, subst}
use Rattle.algebra.proofs.Sized.{held, is_mul, is_sub, fits_mul, fits_sub}
use Rattle.vector.specs.Vectors.{cross}
use Rattle.vector.proofs.Sizes.{AtMost}
use Rattle.vector.proofs.SizeLaws.{at_most_cross}
use Rattle.vector_products.proofs.cross.Goals as goal

pub overflow_mul-result : goal.overflow_mul-result
overflow_mul-result c = let p = c.requires in fits_mul (held p.small.y tt) (held p.small_2.z tt) tt

pub overflow_mul-result-2 : goal.overflow_mul-result-2
overflow_mul-result-2 c = let p = c.requires in fits_mul (held p.small.z tt) (held p.small_2.y tt) tt

pub overflow_sub-result : goal.overflow_sub-result
overflow_sub-result c = let p = c.requires in fits_sub (is_mul (held p.small.y tt) (held p.small_2.z tt) tt) (is_mul (held p.small.z tt) (held p.small_2.y tt) tt) tt

pub overflow_mul-result-3 : goal.overflow_mul-result-3
overflow_mul-result-3 c = let p = c.requires in fits_mul (held p.small.z tt) (held p.small_2.x tt) tt

pub overflow_mul-result-4 : goal.overflow_mul-result-4
overflow_mul-result-4 c = let p = c.requires in fits_mul (held p.small.x tt) (held p.small_2.z tt) tt

pub overflow_sub-result-2 : goal.overflow_sub-result-2
overflow_sub-result-2 c = let p = c.requires in fits_sub (is_mul (held p.small.z tt) (held p.small_2.x tt) tt) (is_mul (held p.small.x tt) (held p.small_2.z tt) tt) tt

pub overflow_mul-result-5 : goal.overflow_mul-result-5
overflow_mul-result-5 c = let p = c.requires in fits_mul (held p.small.x tt) (held p.small_2.y tt) tt

pub overflow_mul-result-6 : goal.overflow_mul-result-6
overflow_mul-result-6 c = let p = c.requires in fits_mul (held p.small.y tt) (held p.small_2.x tt) tt

pub overflow_sub-result-3 : goal.overflow_sub-result-3
overflow_sub-result-3 c = let p = c.requires in fits_sub (is_mul (held p.small.x tt) (held p.small_2.y tt) tt) (is_mul (held p.small.y tt) (held p.small_2.x tt) tt) tt

pub returns : goal.returns
returns c =
    let s = c in
    let p = s.requires in
    let x = (is_sub (is_mul (held p.small.y tt) (held p.small_2.z tt) tt) (is_mul (held p.small.z tt) (held p.small_2.y tt) tt) tt).eq in
    let y = (is_sub (is_mul (held p.small.z tt) (held p.small_2.x tt) tt) (is_mul (held p.small.x tt) (held p.small_2.z tt) tt) tt).eq in
    let z = (is_sub (is_mul (held p.small.x tt) (held p.small_2.y tt) tt) (is_mul (held p.small.y tt) (held p.small_2.x tt) tt) tt).eq in
    let e : _ ≡ cross s.args.a s.args.b = λ i. record { x = x i; y = y i; z = z i } in
    record {
      value = e;
      at_most = subst (AtMost (2 ^ 41)) (sym e) (at_most_cross p.small p.small_2);
    }
