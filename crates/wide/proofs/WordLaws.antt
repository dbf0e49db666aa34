-- The product of two words by its halves: the columns of the product, added up. Assumes nothing.
use mathlib.Core.Path.{◌≡◌, refl, sym, ◌∙◌}
use Prim.Native.Nat.{ℕ, ◌+◌, ◌*◌, ◌/◌, ◌%◌, ◌^◌}
use native.Mathlib.Nat.{add_assoc, add_comm, add_left_comm, mul_assoc, mul_comm, mul_left_comm, mul-add, add-mul}
use native.Mathlib.Omega.{arith}

columns : (P a b c d : ℕ) → (a * P + b) * (c * P + d) ≡ a * c * (P * P) + a * d * P + b * c * P + b * d
columns P a b c d = simp (mul-add, add-mul, mul_assoc, mul_comm, mul_left_comm, add_assoc, add_comm, add_left_comm) refl

halves : (u : ℕ) → u ≡ u / 2 ^ 32 * 2 ^ 32 + u % 2 ^ 32
halves u = omega arith

four : (u v : ℕ) → u * v ≡ u / 2 ^ 32 * (v / 2 ^ 32) * 2 ^ 64 + u / 2 ^ 32 * (v % 2 ^ 32) * 2 ^ 32 + u % 2 ^ 32 * (v / 2 ^ 32) * 2 ^ 32 + u % 2 ^ 32 * (v % 2 ^ 32)
four u v = (λ i. halves u i * halves v i) ∙ columns (2 ^ 32) (u / 2 ^ 32) (u % 2 ^ 32) (v / 2 ^ 32) (v % 2 ^ 32)

-- the columns added up
columns_sum : (q0 r0 q r q1 r1 p00 p10 p01 p11 : ℕ) → p00 ≡ q0 * 2 ^ 32 + r0 → p10 + q0 ≡ q * 2 ^ 32 + r → r + p01 ≡ q1 * 2 ^ 32 + r1 → (p11 + q + q1) * 2 ^ 64 + (r1 * 2 ^ 32 + r0) ≡ p11 * 2 ^ 64 + p10 * 2 ^ 32 + p01 * 2 ^ 32 + p00
columns_sum q0 r0 q r q1 r1 p00 p10 p01 p11 e f g = omega arith

abbrev mid : (p00 p10 : ℕ) → ℕ
mid p00 p10 = p10 + p00 / 2 ^ 32

abbrev next : (p00 p10 p01 : ℕ) → ℕ
next p00 p10 p01 = mid p00 p10 % 2 ^ 32 + p01

-- the two words of the product, as the program adds them up
assembled : (p00 p10 p01 p11 : ℕ) → (p11 + mid p00 p10 / 2 ^ 32 + next p00 p10 p01 / 2 ^ 32) * 2 ^ 64 + (next p00 p10 p01 % 2 ^ 32 * 2 ^ 32 + p00 % 2 ^ 32) ≡ p11 * 2 ^ 64 + p10 * 2 ^ 32 + p01 * 2 ^ 32 + p00
assembled p00 p10 p01 p11 = columns_sum (p00 / 2 ^ 32) (p00 % 2 ^ 32) (mid p00 p10 / 2 ^ 32) (mid p00 p10 % 2 ^ 32) (next p00 p10 p01 / 2 ^ 32) (next p00 p10 p01 % 2 ^ 32) p00 p10 p01 p11 (halves p00) (halves (mid p00 p10)) (halves (next p00 p10 p01))

pub whole : (u v p00 p10 p01 p11 : ℕ) → p00 ≡ u % 2 ^ 32 * (v % 2 ^ 32) → p10 ≡ u / 2 ^ 32 * (v % 2 ^ 32) → p01 ≡ u % 2 ^ 32 * (v / 2 ^ 32) → p11 ≡ u / 2 ^ 32 * (v / 2 ^ 32) → (p11 + mid p00 p10 / 2 ^ 32 + next p00 p10 p01 / 2 ^ 32) * 2 ^ 64 + (next p00 p10 p01 % 2 ^ 32 * 2 ^ 32 + p00 % 2 ^ 32) ≡ u * v
whole u v p00 p10 p01 p11 a b c d = assembled p00 p10 p01 p11 ∙ (λ i. d i * 2 ^ 64 + b i * 2 ^ 32 + c i * 2 ^ 32 + a i) ∙ sym (four u v)
