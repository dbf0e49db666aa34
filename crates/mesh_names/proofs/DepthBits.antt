-- An identifier of depth d has 2·d + 2 bits: its highest set bit is bit 2·d + 1. So the count of a number's bits gives its depth. Assumes nothing.
use Prim.Native.Nat.{ℕ, suc, ◌+◌, ◌-◌, ◌*◌, ◌/◌, ◌%◌, ◌^◌, ◌≤◌, ◌<◌}
use native.Mathlib.Nat.{pow-suc, pow-le-pow_right, lt_of_not-le, not-le_of_lt}
use native.Mathlib.Omega.{arith}
use mathlib.Core.Path.{◌≡◌, sym, ap, ◌∙◌, subst}
use mathlib.Core.Bool.{true}
use lib.Dec.{ltb, lit<}
use lib.Count.{count_leading_zeros, leading_length}
use borrow.Author.Tests.{ltb-false, le-leb, lt-ltb}
use Rattle.algebra.proofs.Tests.{split, and_both}
use Rattle.mesh.specs.Identifiers.{identifier_at, depth_of}
use Rattle.mesh.proofs.NameLaws.{at_low, at_high, depth_is, depth_low, depth_found}

-- i has b bits: b of them hold it, and no fewer
pub record Bits (b i : ℕ) : Type 0 where
  pub enough : i < 2 ^ b
  pub least : 2 ^ b ≤ 2 * i + 1

pub bits_of_word : (i : ℕ) → i < 2 ^ 64 → Bits (64 - count_leading_zeros 64 i) i
bits_of_word i h =
    let m = leading_length 64 i h in
    let e : m.0 ≡ 64 - count_leading_zeros 64 i = omega (arith, m.1) in
    subst (λ b. Bits b i) e (record { enough = m.2; least = m.3 })

smaller_exponent : (a b : ℕ) → 2 ^ a < 2 ^ b → a < b
smaller_exponent a b h = lt_of_not-le (λ g. not-le_of_lt h (pow-le-pow_right (lit< tt) g))

bits_of_identifier : (d b i : ℕ) → Bits b i → identifier_at d i ≡ true → b ≡ 2 * d + 2
bits_of_identifier d b i h e =
    let l = smaller_exponent (2 * d + 1) b (omega (arith, at_low d i e)) in
    let u = smaller_exponent b (suc (2 * d + 2)) (omega (arith, pow-suc 2 (2 * d + 2), at_high d i e)) in
    omega arith

-- an even count of bits, 4 to 64
pub depth_of_bits : (b i : ℕ) → Bits b i → 4 ≤ b → b ≤ 64 → b % 2 ≡ 0 → depth_of i ≡ b / 2 - 1
depth_of_bits b i h l u z =
    let d = b / 2 - 1 in
    let e : 2 * d + 2 ≡ b = omega arith in
    let p : 2 ^ (2 * d + 2) ≡ 2 ^ b = ap (λ x. 2 ^ x) e in
    let s : suc (2 * d + 1) ≡ b = omega arith in
    let q : 2 ^ b ≡ 2 ^ (2 * d + 1) * 2 = ap (λ x. 2 ^ x) (sym s) ∙ pow-suc 2 (2 * d + 1) in
    depth_is d i (omega arith) (and_both (le-leb (2 ^ (2 * d + 1)) i (omega arith)) (lt-ltb i (2 ^ (2 * d + 2)) (omega arith)))

-- any other count of bits
pub no_depth_of_bits : (b i : ℕ) → Bits b i → ((d : ℕ) → 1 ≤ d → b ≡ 2 * d + 2 → ⊥) → depth_of i ≡ 0
no_depth_of_bits b i h n = split (ltb 0 (depth_of i))
    (λ e. absurd (n (depth_of i) (depth_low i e) (bits_of_identifier (depth_of i) b i h (depth_found i e))))
    (λ e. omega (arith, ltb-false 0 (depth_of i) e))
