-- `vector_products::square_length` is the size of s·s: a sum of three squares within 2⁴⁴, which has no sign to lose in the cast. Assumes nothing.
use Prim.Native.Nat.{◌≤◌, ◌*◌, ◌^◌}
use mathlib.Core.Path.{sym, ap, subst}
use lib.IntN.{nat_abs}
use Rattle.algebra.proofs.Sized.{held, is_mul, is_add, fits_add, fits_cast}
use Rattle.vector.proofs.SizeLaws.{dot_upto, dot_self_nonnegative}
use Rattle.vector_products.proofs.square_length.Goals as goal

pub overflow_add-result : goal.overflow_add-result
overflow_add-result c = let p = c.requires in fits_add (is_mul (held p.x tt) (held p.x tt) tt) (is_mul (held p.y tt) (held p.y tt) tt) tt

pub overflow_add-result-2 : goal.overflow_add-result-2
overflow_add-result-2 c = let p = c.requires in fits_add (is_add (is_mul (held p.x tt) (held p.x tt) tt) (is_mul (held p.y tt) (held p.y tt) tt) tt) (is_mul (held p.z tt) (held p.z tt) tt) tt

pub overflow_cast-result : goal.overflow_cast-result
overflow_cast-result c =
    let p = c.requires in
    fits_cast (is_add (is_add (is_mul (held p.x tt) (held p.x tt) tt) (is_mul (held p.y tt) (held p.y tt) tt) tt) (is_mul (held p.z tt) (held p.z tt) tt) tt) (dot_self_nonnegative c.args.s) tt

pub returns : goal.returns
returns c =
    let p = c.requires in
    let e = ap nat_abs (is_add (is_add (is_mul (held p.x tt) (held p.x tt) tt) (is_mul (held p.y tt) (held p.y tt) tt) tt) (is_mul (held p.z tt) (held p.z tt) tt) tt).eq in
    record {
      value = e;
      upper_bound = subst (λ n. n ≤ 3 * 2 ^ 44) (sym e) (dot_upto p p).le;
    }
