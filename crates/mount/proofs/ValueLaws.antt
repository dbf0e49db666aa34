-- What the rule on bits means: it is the rule on the number that the float is, for every value of both formats. The bits' fields are read as the
-- quotient numerator / denominator, and the language's own account of a float's bits gives the same quotient. Assumes nothing.
use Prim.Native.Nat.{ℕ, zero, suc, ◌+◌, ◌-◌, ◌*◌, ◌/◌, ◌%◌, ◌^◌, ◌≤◌, ◌<◌, max}
use native.Mathlib.Nat.{le_trans, le_of_eq, lt_of_lt_of_le, lt_of_le_of_lt, mul_comm, mul_assoc, mul_right_comm, mul-le-mul_right, mul-lt-mul_of_pos_right, mul-one, le_of_mul-le-mul_right, lt_of_mul-lt-mul_right, mul-pos, pow-suc, max-eq_right}
use native.Mathlib.Omega.{arith}
use mathlib.Core.Path.{◌≡◌, refl, sym, ap, ◌∙◌}
use mathlib.Core.Bool.{Bool, true, false, cond, not, ◌&&◌}
use lib.Dec.{T, leb, eqb, eqb-suc-zero}
use lib.IntN.{ℤ}
use lib.Pow as pow
use lib.Pow.{pow_pos}
use lib.Ieee.{Float, nan, inf, fin, Format, binary32, binary64, prec, low, hid, ones, top, up, down, odd, fits, of_fields, of_bits, to_bits}
use lib.Ieee.Bits.{of_bits-to_bits}
use lib.Ieee.Exact.{HasValue, odd_sign}
use lib.Ieee.Fits.{down_pos}
use lib.Ieee.Nearest.{div_same}
use borrow.Author.Tests.{le-leb, lt-leb, leb-true, leb-false}
use Rattle.answer.specs.Answer as answer
use Rattle.answer.specs.Answer.{Answer, gives, check}
use Rattle.vector.specs.Numbers.{signed}
use Rattle.mount.specs.Floats.{width_of, negative, fraction, denominator, usable, component, component_of}
use Rattle.mount.specs.Values as values
use Rattle.mount.proofs.WidthLaws.{component_is}

-- ---- a float of the size a / c

module _ (n d a c : ℕ) (D : 0 < d) (C : 0 < c) (v : n * c ≡ a * d) where
  same_test : leb n d ≡ leb a c
  same_test = go (leb n d) refl
    where
      within : n ≤ d → a ≤ c
      within h = le_of_mul-le-mul_right (le_trans (le_of_eq (sym v)) (le_trans (mul-le-mul_right c h) (le_of_eq (mul_comm d c)))) D

      beyond : d < n → c < a
      beyond h = lt_of_mul-lt-mul_right d (lt_of_le_of_lt (le_of_eq (mul_comm c d)) (lt_of_lt_of_le (mul-lt-mul_of_pos_right h C) (le_of_eq v)))

      go : (t : Bool) → leb n d ≡ t → leb n d ≡ leb a c
      go true e = e ∙ sym (le-leb a c (within (leb-true n d e)))
      go false e = e ∙ sym (lt-leb a c (beyond (leb-false n d e)))

  same_cut : n * 2 ^ 20 / d ≡ a * 2 ^ 20 / c
  same_cut = div_same (n * 2 ^ 20) d (a * 2 ^ 20) c D C (mul_right_comm n (2 ^ 20) c ∙ ap (λ k. k * 2 ^ 20) v ∙ mul_right_comm a d (2 ^ 20))

valued : (x : Float) (s : Bool) (a c : ℕ) → 0 < c → HasValue x s a c → values.component_of x ≡ check answer.Float (leb a c) (gives (signed s (a * 2 ^ 20 / c)))
valued nan s a c C h = absurd h
valued (inf t) s a c C h = absurd h
valued (fin t m e) s a c C h =
    (λ i. check answer.Float (same_test (m * up e) (down e) a c (down_pos e) C h.1 i) (gives (signed (h.0 i) (same_cut (m * up e) (down e) a c (down_pos e) C h.1 i))))

-- ---- a float by its fields x and t: in halves of the smallest value, so that a field of 0, which counts as 1, is no exception

doubled : (v : Float) (s : Bool) (a c : ℕ) → HasValue v s a c → HasValue v s (a * 2) (c * 2)
doubled nan s a c h = h
doubled (inf t) s a c h = h
doubled (fin t m e) s a c h = (h.0, sym (mul_assoc (m * up e) c 2) ∙ ap (λ k. k * 2) h.1 ∙ mul_right_comm a (down e) 2)

-- the answer at these fields; p and o are the weight of the field and a field of all ones
abbrev answer_at : ℕ → ℕ → ℕ → Bool → ℕ → ℕ → Answer ℤ
answer_at p o c s x t =
    let n = cond (eqb x 0) t (p + t) * 2 ^ max 1 x in
    check answer.Float (not (eqb x o) && leb n c) (gives (signed s (n * 2 ^ 20 / c)))

one_le : (k : ℕ) → 1 ≤ suc k
one_le k = omega arith

module _ (f : Format) (s : Bool) (t : ℕ) where
  abbrev c : ℕ
  c = 2 ^ low f * 2

  some : 0 < c
  some = mul-pos (pow_pos (low f)) (omega arith)

  read : (x : ℕ) → eqb 0 (ones f) ≡ false → values.component_of (of_fields f s x t) ≡ answer_at (hid f) (ones f) c s x t
  unfolding of_fields
  read zero o =
      valued (odd (prec f) s t 0 (low f)) s (t * 2 ^ 0 * 2) c some (doubled (odd (prec f) s t 0 (low f)) s (t * 2 ^ 0) (2 ^ low f) (odd_sign (prec f) s t 0 (low f)))
      ∙ ap (λ k. check answer.Float (leb (k * 2) c) (gives (signed s (k * 2 * 2 ^ 20 / c)))) (mul-one t)
      ∙ sym (ap (λ k. check answer.Float (not k && leb (t * 2) c) (gives (signed s (t * 2 * 2 ^ 20 / c)))) o)
  read (suc k) o = go (eqb (suc k) (ones f)) (eqb t 0)
    where
      q : ℕ
      q = hid f + t

      v : Float
      v = odd (prec f) s q k (low f)

      n : ℕ
      n = cond (eqb (suc k) 0) t q * 2 ^ max 1 (suc k)

      lead : q * 2 ^ k * 2 ≡ n
      lead = rw (eqb-suc-zero k, max-eq_right (one_le k), pow-suc 2 k) (mul_assoc q (2 ^ k) 2)

      go : (a b : Bool) → values.component_of (cond a (cond b (inf s) nan) v) ≡ check answer.Float (not a && leb n c) (gives (signed s (n * 2 ^ 20 / c)))
      go true true = refl
      go true false = refl
      go false b =
          valued v s (q * 2 ^ k * 2) c some (doubled v s (q * 2 ^ k) (2 ^ low f) (odd_sign (prec f) s q k (low f)))
          ∙ ap (λ m. check answer.Float (leb m c) (gives (signed s (m * 2 ^ 20 / c)))) lead

-- ---- both formats

ones_some : (f : Format) → eqb 0 (ones f) ≡ false
ones_some binary32 = refl
ones_some binary64 = refl

-- the weights that the two accounts name
same_answer : (f : Format) (s : Bool) (x t : ℕ) → answer_at (hid f) (ones f) (2 ^ low f * 2) s x t ≡ answer_at (2 ^ (width_of f).fraction) (2 ^ (width_of f).exponent - 1) (denominator (width_of f)) s x t
same_answer binary32 s x t = refl
same_answer binary64 s x t = refl

top_is : (f : Format) → top f ≡ 2 ^ ((width_of f).exponent + (width_of f).fraction)
top_is binary32 = refl
top_is binary64 = refl

hid_is : (f : Format) → hid f ≡ 2 ^ (width_of f).fraction
hid_is binary32 = refl
hid_is binary64 = refl

-- every pattern of bits, also a NaN's
pub bits_by_value : (f : Format) (b : ℕ) → component (width_of f) b ≡ values.component_of (of_bits f b)
unfolding usable of_bits
bits_by_value f b =
    let w = width_of f in
    component_is w b
    ∙ sym
    (read f (leb (top f) b) (b % hid f) (b % top f / hid f) (ones_some f)
    ∙ same_answer f (leb (top f) b) (b % top f / hid f) (b % hid f)
    ∙ (λ i. answer_at (2 ^ w.fraction) (2 ^ w.exponent - 1) (denominator w) (leb (top_is f i) b) (b % top_is f i / hid_is f i) (b % hid_is f i))
    ∙ ap (λ x. answer_at (2 ^ w.fraction) (2 ^ w.exponent - 1) (denominator w) (negative w b) x (fraction w b)) (pow.field b w.exponent w.fraction))

-- every float of a format
pub float_by_value : (f : Format) (v : Float) → T (fits f v) → component_of f v ≡ values.component_of v
float_by_value f v h = bits_by_value f (to_bits f v) ∙ ap values.component_of (of_bits-to_bits f v h)
