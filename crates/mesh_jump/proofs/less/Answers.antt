-- `mesh_jump::less` takes from d the part a of 2²⁴ of it, by the quotient of d rounded down; d has no sign and is at most 3 · 2⁶¹. Assumes nothing.
use Prim.Native.Nat.{◌+◌, ◌*◌, ◌/◌, ◌^◌, ◌≤◌}
use native.Mathlib.Omega.{arith}
use mathlib.Core.Path.{sym, subst}
use lib.IntN.{ℤ, pos, nat_abs}
use mir.Syntax.{w64}
use mir.Val.{to_z, of_z}
use Rattle.algebra.proofs.Sizes.{Upto}
use Rattle.algebra.proofs.Sized.{Is, held, nat, is_mul, is_sub, fits_sub}
use Rattle.mesh_jump.proofs.less.Goals as goal

below : (d : ℤ) → Upto (3 * 2 ^ 61) d → nat_abs d / 16777216 ≤ 2 ^ 39
below d u = let h : nat_abs d ≤ 3 * 2 ^ 61 = u.le in omega arith

quotient : (d : ℤ) → Upto (3 * 2 ^ 61) d → Is (nat_abs (to_z w64 (of_z w64 d)) / 16777216) (pos (nat_abs d / 16777216)) (2 ^ 39)
quotient d u = subst (λ z. Is (nat_abs z / 16777216) (pos (nat_abs d / 16777216)) (2 ^ 39)) (sym (held u tt).eq) (nat (below d u) tt)

pub overflow_sub-result : goal.overflow_sub-result
overflow_sub-result g c =
    let d = c.requires.pos_bound.1 in
    fits_sub (held d tt) (is_mul (quotient c.args.d d) (held c.requires.upto tt) tt) tt

pub returns-then-this-ne0 : goal.returns-then-this-ne0
returns-then-this-ne0 g c =
    let d = c.requires.pos_bound.1 in
    let r = is_sub (held d tt) (is_mul (quotient c.args.d d) (held c.requires.upto tt) tt) tt in
    (r.eq, subst (Upto (3 * 2 ^ 61 + 2 ^ 59)) (sym r.eq) r.size)
