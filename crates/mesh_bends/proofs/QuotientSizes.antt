-- A quotient by a written number is smaller than what is divided, by that number: with it products of quotients fit 64 bits. Assumes nothing.
use Prim.Native.Nat.{ℕ, suc, ◌/◌, ◌^◌, ◌≤◌, ◌<◌}
use native.Mathlib.Nat.{le_trans, le-div_iff_mul-le, div-mul-le_self}
use mathlib.Core.Path.{◌≡◌, refl}
use lib.Dec.{T, ltb}
use lib.IntN.{ℤ, pos, negsuc, nat_abs}
use lib.Signed.{quot_z}
use mir.Syntax.{w64}
use mir.Val.{to_z, of_z}
use Rattle.algebra.proofs.Sizes.{Upto}
use Rattle.algebra.proofs.Sized.{Is, nat_abs_neg, lit, is_div}

quotient_size : (z : ℤ) (n : ℕ) → nat_abs (quot_z z (pos n)) ≡ nat_abs z / n
quotient_size (pos a) n = refl
quotient_size (negsuc a) n = nat_abs_neg (pos (suc a / n))

quotient_mono : (n : ℕ) {a b : ℕ} → 0 < n → a ≤ b → a / n ≤ b / n
quotient_mono n {a} h l = (le-div_iff_mul-le h).1 (le_trans (div-mul-le_self a n) l)

upto_quotient : {m : ℕ} {z : ℤ} (n : ℕ) → 0 < n → Upto m z → Upto (m / n) (quot_z z (pos n))
upto_quotient {m} {z} n h p = record { le = rw (quotient_size z n) (quotient_mono n h p.le) }

pub is_quotient : {b m : ℕ} {z : ℤ} (n : ℕ) → 0 < n → T (ltb n (2 ^ 63)) → Is b z m → T (ltb m (2 ^ 63)) → Is (of_z w64 (quot_z (to_z w64 b) (to_z w64 n))) (quot_z z (pos n)) (m / n)
is_quotient n h u p t = record { eq = (is_div p (lit n u) t).eq; size = upto_quotient n h p.size }
