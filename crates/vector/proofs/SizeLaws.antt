-- How large numbers get: Unit and Scale give components within ±K, whatever they are given. n is at least every component, since its square
-- is the greatest square up to the sum of their squares; and so is m. Assumes nothing.
use Prim.Native.Nat.{ℕ, suc, ◌+◌, ◌*◌, ◌/◌, ◌≤◌}
use native.Mathlib.Nat.{div-le_of_le-mul, mul-le-mul_right}
use native.Mathlib.Omega.{arith}
use mathlib.Core.Path.{◌≡◌, refl, sym, ap, ◌∙◌, subst}
use mathlib.Core.Bool.{Bool, true, false, cond, ◌&&◌}
use borrow.Author.Tests.{leb-true}
use lib.Dec.{T, leb, leb→le, eqb}
use lib.IntN.{ℤ, pos, negsuc, neg_ℤ, nat_abs, ◌+ℤ◌, ◌*ℤ◌}
use lib.Signed.{non_neg}
use Rattle.algebra.proofs.Sizes.{Upto}
use Rattle.algebra.proofs.Tests.{and_left, and_right}
use Rattle.algebra.proofs.Sized.{nat_abs_neg, upto_mono, upto_neg, upto_add, upto_sub, upto_mul}
use Rattle.vector.specs.declared.Vec3.{Vec3}
use Rattle.vector.specs.Numbers.{Kℕ, K, quot, between, root}
use Rattle.vector.specs.Vectors.{vec, plus, minus, dot, cross, divided_by, unit, largest, scale}
use Rattle.vector.proofs.Sizes.{AtMost, Small}
use Rattle.vector.proofs.RootLaws.{root_greatest}

pub at_most_mono : {m n : ℕ} {v : Vec3} → m ≤ n → AtMost m v → AtMost n v
at_most_mono l h = record { x = upto_mono l h.x; y = upto_mono l h.y; z = upto_mono l h.z }

pub at_most_minus : {n : ℕ} {v : Vec3} → AtMost n v → AtMost n (minus v)
at_most_minus h = record { x = upto_neg h.x; y = upto_neg h.y; z = upto_neg h.z }

pub at_most_plus : {m n : ℕ} {a b : Vec3} → AtMost m a → AtMost n b → AtMost (m + n) (plus a b)
at_most_plus p q = record { x = upto_add p.x q.x; y = upto_add p.y q.y; z = upto_add p.z q.z }

pub at_most_cross : {m n : ℕ} {a b : Vec3} → AtMost m a → AtMost n b → AtMost (m * n + m * n) (cross a b)
at_most_cross p q = record {
  x = upto_sub (upto_mul p.y q.z) (upto_mul p.z q.y);
  y = upto_sub (upto_mul p.z q.x) (upto_mul p.x q.z);
  z = upto_sub (upto_mul p.x q.y) (upto_mul p.y q.x);
}

pub dot_upto : {m n : ℕ} {a b : Vec3} → AtMost m a → AtMost n b → Upto (m * n + m * n + m * n) (dot a b)
dot_upto p q = upto_add (upto_add (upto_mul p.x q.x) (upto_mul p.y q.y)) (upto_mul p.z q.z)

-- by three tests: for numbers that are written, `small_test v tt tt tt`
pub small_test : (v : Vec3) → T (leb (nat_abs v.x) Kℕ) → T (leb (nat_abs v.y) Kℕ) → T (leb (nat_abs v.z) Kℕ) → Small v
small_test v a b c = record { x = record { le = leb→le _ _ a }; y = record { le = leb→le _ _ b }; z = record { le = leb→le _ _ c } }

-- by the tests of the vector rule
pub between_upto : (z : ℤ) → between (neg_ℤ K) K z ≡ true → Upto Kℕ z
between_upto (pos n) e = record { le = leb-true n 1048576 e }
between_upto (negsuc n) e = record { le = omega (arith, leb-true n 1048575 (and_left (leb n 1048575) true e)) }

pub small_tested : (v : Vec3) → between (neg_ℤ K) K v.x && between (neg_ℤ K) K v.y && between (neg_ℤ K) K v.z ≡ true → Small v
small_tested v e =
    let xy = and_left (between (neg_ℤ K) K v.x && between (neg_ℤ K) K v.y) _ e in
    record {
      x = between_upto v.x (and_left (between (neg_ℤ K) K v.x) _ xy);
      y = between_upto v.y (and_right (between (neg_ℤ K) K v.x) _ xy);
      z = between_upto v.z (and_right (between (neg_ℤ K) K v.x && between (neg_ℤ K) K v.y) _ e);
    }

-- ---- K times a, divided by n

nat_abs_quot : (z : ℤ) (n : ℕ) → nat_abs (quot z (pos n)) ≡ nat_abs z / n
nat_abs_quot (pos a) n = refl
nat_abs_quot (negsuc a) n = nat_abs_neg (pos (suc a / n))

quot_size : (a : ℤ) (n : ℕ) → nat_abs (quot (K *ℤ a) (pos n)) ≡ 1048576 * nat_abs a / n
quot_size (pos a) n = refl
quot_size (negsuc a) n = nat_abs_quot (K *ℤ negsuc a) n ∙ ap (λ m. m / n) (nat_abs_neg (pos (1048576 * suc a)))

part_small : {a : ℤ} (n : ℕ) → Upto n a → Upto Kℕ (quot (K *ℤ a) (pos n))
part_small {a} n h = record { le = subst (λ m. m ≤ 1048576) (sym (quot_size a n)) (div-le_of_le-mul n (omega (arith, mul-le-mul_right 1048576 h.le))) }

divided_small' : (v : Vec3) (n : ℕ) (t : Bool) → AtMost n v → Small (cond t (vec (pos 0) (pos 0) (pos 0)) (vec (quot (K *ℤ v.x) (pos n)) (quot (K *ℤ v.y) (pos n)) (quot (K *ℤ v.z) (pos n))))
divided_small' v n true h = small_test (vec (pos 0) (pos 0) (pos 0)) tt tt tt
divided_small' v n false h = record { x = part_small n h.x; y = part_small n h.y; z = part_small n h.z }

divided_small : (v : Vec3) (n : ℕ) → AtMost n v → Small (divided_by n v)
divided_small v n h = divided_small' v n (eqb n 0) h

-- ---- the square length

sq : (z : ℤ) → z *ℤ z ≡ pos (nat_abs z * nat_abs z)
sq (pos n) = refl
sq (negsuc n) = refl

pub dot_self : (v : Vec3) → dot v v ≡ pos (nat_abs v.x * nat_abs v.x + nat_abs v.y * nat_abs v.y + nat_abs v.z * nat_abs v.z)
dot_self v = λ i. sq v.x i +ℤ sq v.y i +ℤ sq v.z i

pub dot_self_nonnegative : (v : Vec3) → T (non_neg (dot v v))
dot_self_nonnegative v = subst (λ z. T (non_neg z)) (sym (dot_self v)) tt

root_at_most : (v : Vec3) → AtMost (root (nat_abs (dot v v))) v
root_at_most v =
    let e = ap nat_abs (dot_self v) in
    record {
      x = record { le = root_greatest (nat_abs (dot v v)) (nat_abs v.x) (omega arith) };
      y = record { le = root_greatest (nat_abs (dot v v)) (nat_abs v.y) (omega arith) };
      z = record { le = root_greatest (nat_abs (dot v v)) (nat_abs v.z) (omega arith) };
    }

pub unit_small : (v : Vec3) → Small (unit v)
unfolding unit
unit_small v = divided_small v (root (nat_abs (dot v v))) (root_at_most v)

-- v divided by the root of its square length is Unit
pub unit_by : (v : Vec3) {n : ℕ} → n ≡ root (nat_abs (dot v v)) → {r : Vec3} → r ≡ divided_by n v → (r ≡ unit v) × Small r
unfolding unit
unit_by v e d = let u = d ∙ ap (λ n. divided_by n v) e in (u, subst Small (sym u) (unit_small v))

pub largest_at_most : (v : Vec3) → AtMost (largest v) v
largest_at_most v = record { x = record { le = omega arith }; y = record { le = omega arith }; z = record { le = omega arith } }

pub largest_bound : {n : ℕ} {v : Vec3} → AtMost n v → largest v ≤ n
largest_bound h = omega (arith, h.x.le, h.y.le, h.z.le)

pub scale_small : (v : Vec3) → Small (scale v)
unfolding scale
scale_small v = divided_small v (largest v) (largest_at_most v)
