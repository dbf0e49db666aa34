-- The rule of a component at every usual width, by one comparison and one shift (`by_one_shift`). The bits without the sign are
-- field * 2^f + fraction, so they grow with the float, and are at most bias * 2^f, the bits of 1, where the float is usable. Then the truncated
-- product is 0 for a field under bias - 20, since the numerator is below 2^(f + 1 + field); from there on it is the significand without its last
-- bias + f - 20 - field digits. Assumes nothing.
use Prim.Native.Nat.{ℕ, zero, suc, ◌+◌, ◌-◌, ◌*◌, ◌/◌, ◌%◌, ◌^◌, ◌≤◌, ◌<◌, max}
use native.Mathlib.Nat.{le_trans, le_of_eq, le_of_lt, lt_of_lt_of_le, eq-or-lt_of_le, le-add_right, add-sub_of_le, le_of_suc-le-suc, add-zero, suc-mul, mul_comm, mul_assoc, mul-le-mul_right, mul-lt-mul_of_pos_right, mul-lt-mul_of_pos_left, max-eq_right, mod-lt, div-eq_of_lt, div-le_of_le-mul, le_of_mul-le-mul_right, lt_of_mul-lt-mul_right}
use native.Mathlib.Omega.{arith}
use mathlib.Core.Path.{◌≡◌, refl, sym, ap, subst, ◌∙◌}
use mathlib.Core.Logic.{inl, inr}
use mathlib.Core.Bool.{Bool, true, false, cond, ◌&&◌}
use lib.Dec.{leb, eqb}
use lib.IntN.{ℤ, pos, ◌*ℤ◌}
use lib.Pow as pow
use lib.Pow.{pow-add, pow_pos, pow_mono, pow-lt, shl_lt, shl-shr, shr-shr, mod-pow-add, mod-mod-pow}
use borrow.Author.Tests.{le-leb, lt-leb, leb-true, leb-false, ne_eqb}
use Rattle.algebra.proofs.RingLaws.{*ℤ-neg-l}
use Rattle.answer.specs.Answer.{Answer, refused, gives, check, Float}
use Rattle.vector.specs.Numbers.{signed, quot}
use Rattle.vector.proofs.QuotLaws.{quot_neg}
use Rattle.mount.specs.declared.Width.{Width}
use Rattle.mount.specs.Floats.{negative, field, fraction, bias, numerator, denominator, usable, scaled, component}
use Rattle.mount.specs.Widths.{Usual}

-- ---- a numerator by the field x and the fraction t, which is below p = 2^f

abbrev numerator_at : ℕ → ℕ → ℕ → ℕ
numerator_at f x t = cond (eqb x 0) t (2 ^ f + t) * 2 ^ max 1 x

lead : (f t x : ℕ) → 1 ≤ x → numerator_at f x t ≡ (2 ^ f + t) * 2 ^ x
lead f t x h = rw (ne_eqb x 0 (λ e. omega arith), max-eq_right h)

module _ (f t : ℕ) (small : t < 2 ^ f) where
  with_lead : 2 ^ f + t < 2 ^ (f + 1)
  with_lead = omega (arith, pow-add 2 f 1)

  below : (x : ℕ) → numerator_at f x t < 2 ^ (f + 1 + x)
  below zero = let h : t * 2 < 2 ^ (f + 1) = omega (arith, pow-add 2 f 1) in subst (λ k. t * 2 < 2 ^ k) (sym (add-zero (f + 1))) h
  below (suc x) = rw (lead f t (suc x) (omega arith)) (shl_lt (f + 1) (suc x) with_lead)

  -- up to the bits of 1
  module _ (B x : ℕ) (some : 1 ≤ B) where
    field_low : x * 2 ^ f + t ≤ B * 2 ^ f → x ≤ B
    field_low h = le_of_mul-le-mul_right (le_trans (le-add_right (x * 2 ^ f) t) h) (pow_pos f)

    within : x * 2 ^ f + t ≤ B * 2 ^ f → numerator_at f x t ≤ 2 ^ (B + f)
    within h = elim (eq-or-lt_of_le (field_low h)) [ inl e ↦ at_one e | inr l ↦ le_of_lt (lt_of_lt_of_le (below x) (pow_mono (omega arith))) ]
      where
        no_fraction : x ≡ B → t ≡ 0
        no_fraction e = let g : x * 2 ^ f ≡ B * 2 ^ f = ap (λ k. k * 2 ^ f) e in omega arith

        at_one : x ≡ B → numerator_at f x t ≤ 2 ^ (B + f)
        at_one e =
            le_of_eq
            (lead f t x (omega arith)
            ∙ ap (λ k. (2 ^ f + k) * 2 ^ x) (no_fraction e)
            ∙ ap (λ k. (2 ^ f + 0) * 2 ^ k) e
            ∙ ap (λ k. k * 2 ^ B) (add-zero (2 ^ f))
            ∙ mul_comm (2 ^ f) (2 ^ B)
            ∙ sym (pow-add 2 B f))

    beyond : B * 2 ^ f < x * 2 ^ f + t → 2 ^ (B + f) < numerator_at f x t
    beyond h = rw (lead f t x (le_trans some high), pow-add 2 B f, mul_comm (2 ^ B) (2 ^ f)) (elim (eq-or-lt_of_le high) [ inl e ↦ at_one e | inr l ↦ above l ])
      where
        high : B ≤ x
        high =
            let g : B * 2 ^ f < suc x * 2 ^ f = omega (arith, suc-mul x (2 ^ f)) in
            le_of_suc-le-suc (lt_of_mul-lt-mul_right (2 ^ f) g)

        at_one : B ≡ x → 2 ^ f * 2 ^ B < (2 ^ f + t) * 2 ^ x
        at_one e =
            let g : B * 2 ^ f ≡ x * 2 ^ f = ap (λ k. k * 2 ^ f) e in
            let more : 2 ^ f < 2 ^ f + t = omega arith in
            subst (λ k. 2 ^ f * 2 ^ B < (2 ^ f + t) * 2 ^ k) e (mul-lt-mul_of_pos_right more (pow_pos B))

        above : B < x → 2 ^ f * 2 ^ B < (2 ^ f + t) * 2 ^ x
        above l = lt_of_lt_of_le (mul-lt-mul_of_pos_left (pow-lt l) (pow_pos f)) (mul-le-mul_right (2 ^ x) (le-add_right (2 ^ f) t))

-- the digits that the quotient leaves
cut_digits : (q j n : ℕ) → j ≤ n → q * 2 ^ j / 2 ^ n ≡ q / 2 ^ (n - j)
cut_digits q j n h =
    ap (λ k. q * 2 ^ j / 2 ^ k) (sym (add-sub_of_le h))
    ∙ sym (shr-shr (q * 2 ^ j) j (n - j))
    ∙ ap (λ k. k / 2 ^ (n - j)) (shl-shr q j)

-- ---- the rule at the bits b of a width

-- truncated toward zero, the sign stays
signed_quot : (s : Bool) (n m d : ℕ) → quot (signed s n *ℤ pos m) (pos d) ≡ signed s (n * m / d)
signed_quot false n m d = refl
signed_quot true n m d = ap (λ z. quot z (pos d)) (*ℤ-neg-l (pos n) (pos m)) ∙ quot_neg (pos n *ℤ pos m) d

pub component_is : (w : Width) (b : ℕ) → component w b ≡ check Float (usable w b) (gives (signed (negative w b) (numerator w b * 2 ^ 20 / denominator w)))
unfolding component scaled
component_is w b = ap (λ z. check Float (usable w b) (gives z)) (signed_quot (negative w b) (numerator w b) (2 ^ 20) (denominator w))

and_false : (a : Bool) → (a && false) ≡ false
and_false true = refl
and_false false = refl

-- the bits without the sign
abbrev size : Width → ℕ → ℕ
size w b = b % 2 ^ (w.exponent + w.fraction)

module _ (w : Width) (u : Usual w) where
  bias_low : 31 ≤ bias w
  bias_low = let h : 2 ^ 5 ≤ 2 ^ (w.exponent - 1) = pow_mono {i = 5} {j = w.exponent - 1} (omega (arith, u.low)) in omega arith

  bias_high : bias w ≤ 1023
  bias_high = let h : 2 ^ (w.exponent - 1) ≤ 2 ^ 10 = pow_mono {i = w.exponent - 1} {j = 10} (omega (arith, u.high)) in omega arith

  -- a field of all ones is above the bias
  not_ones : bias w < 2 ^ w.exponent - 1
  not_ones = let h : 2 ^ (w.exponent - 1) < 2 ^ w.exponent = pow-lt {i = w.exponent - 1} {j = w.exponent} (omega (arith, u.low)) in omega (arith, bias_low)

  module _ (b : ℕ) where
    fields : size w b ≡ field w b * 2 ^ w.fraction + fraction w b
    fields = mod-pow-add b w.exponent w.fraction

    fraction_low : fraction w b < 2 ^ w.fraction
    fraction_low = mod-lt b (pow_pos w.fraction)

    pub too_large : bias w * 2 ^ w.fraction < size w b → refused Float ≡ component w b
    unfolding component usable
    too_large h =
        let over : denominator w < numerator w b = beyond w.fraction (fraction w b) fraction_low (bias w) (field w b) (omega (arith, bias_low)) (subst (λ k. bias w * 2 ^ w.fraction < k) fields h) in
        rw (lt-leb (numerator w b) (denominator w) over, and_false)

    module _ (h : size w b ≤ bias w * 2 ^ w.fraction) where
      one : field w b * 2 ^ w.fraction + fraction w b ≤ bias w * 2 ^ w.fraction
      one = subst (λ k. k ≤ bias w * 2 ^ w.fraction) fields h

      field_high : field w b ≤ bias w
      field_high = field_low w.fraction (fraction w b) fraction_low (bias w) (field w b) (omega (arith, bias_low)) one

      at_most : numerator w b ≤ denominator w
      at_most = within w.fraction (fraction w b) fraction_low (bias w) (field w b) (omega (arith, bias_low)) one

      accepted : usable w b ≡ true
      unfolding usable
      accepted = rw (ne_eqb (field w b) (2 ^ w.exponent - 1) (λ e. omega (arith, field_high, not_ones)), le-leb (numerator w b) (denominator w) at_most)

      pub answered : (n : ℕ) → n ≡ numerator w b * 2 ^ 20 / denominator w → gives (signed (negative w b) n) ≡ component w b
      answered n e = sym (component_is w b ∙ ap (λ t. check Float t (gives (signed (negative w b) (numerator w b * 2 ^ 20 / denominator w)))) accepted ∙ ap (λ k. gives (signed (negative w b) k)) (sym e))

      small : numerator w b * 2 ^ 20 / denominator w ≤ 2 ^ 20
      small = div-le_of_le-mul (denominator w) (mul-le-mul_right (2 ^ 20) at_most)

      nothing_left : field w b + 20 < bias w → 0 ≡ numerator w b * 2 ^ 20 / denominator w
      nothing_left l =
          let f = w.fraction in
          let x = field w b in
          let less : f + 1 + x + 20 ≤ bias w + f = omega arith in
          sym (div-eq_of_lt (lt_of_lt_of_le (shl_lt (f + 1 + x) 20 (below f (fraction w b) fraction_low x)) (pow_mono less)))

      digits_left : bias w ≤ field w b + 20 → (2 ^ w.fraction + fraction w b) / 2 ^ (bias w + w.fraction - 20 - field w b) ≡ numerator w b * 2 ^ 20 / denominator w
      digits_left l =
          let f = w.fraction in
          let x = field w b in
          let q = 2 ^ f + fraction w b in
          let first : 1 ≤ x = omega (arith, bias_low) in
          let fits : x + 20 ≤ bias w + f = omega (arith, field_high, u.fine) in
          let same : bias w + f - 20 - x ≡ bias w + f - (x + 20) = omega arith in
          ap (λ k. q / 2 ^ k) same
          ∙ sym (cut_digits q (x + 20) (bias w + f) fits)
          ∙ ap (λ k. k / denominator w) (ap (λ k. q * k) (pow-add 2 x 20) ∙ sym (mul_assoc q (2 ^ x) (2 ^ 20)) ∙ ap (λ k. k * 2 ^ 20) (sym (lead f (fraction w b) x first)))

-- ---- the law over the width: one comparison and one shift

abbrev pub one_shift : Width → ℕ → Answer ℤ
one_shift w b =
    check Float (leb (size w b) (bias w * 2 ^ w.fraction))
    (gives (signed (negative w b) (cond (leb (bias w) (field w b + 20)) ((2 ^ w.fraction + fraction w b) / 2 ^ (bias w + w.fraction - 20 - field w b)) 0)))

pub by_one_shift : (w : Width) → Usual w → (b : ℕ) → component w b ≡ one_shift w b
by_one_shift w u b = compared (leb (size w b) (bias w * 2 ^ w.fraction)) refl
  where
    left : Bool → ℕ
    left t = cond t ((2 ^ w.fraction + fraction w b) / 2 ^ (bias w + w.fraction - 20 - field w b)) 0

    shifted : size w b ≤ bias w * 2 ^ w.fraction → (t : Bool) → leb (bias w) (field w b + 20) ≡ t → left t ≡ numerator w b * 2 ^ 20 / denominator w
    shifted h true e = digits_left w u b h (leb-true (bias w) (field w b + 20) e)
    shifted h false e = nothing_left w u b h (leb-false (bias w) (field w b + 20) e)

    compared : (t : Bool) → leb (size w b) (bias w * 2 ^ w.fraction) ≡ t
        → component w b ≡ check Float t (gives (signed (negative w b) (left (leb (bias w) (field w b + 20)))))
    compared true e =
        let h = leb-true (size w b) (bias w * 2 ^ w.fraction) e in
        sym (answered w u b h (left (leb (bias w) (field w b + 20))) (shifted h (leb (bias w) (field w b + 20)) refl))
    compared false e = sym (too_large w u b (leb-false (size w b) (bias w * 2 ^ w.fraction) e))

-- ---- the same in the numbers that the code has: unit, half and sign are powers of two

pub record WidthPowers (w : Width) (unit half sign : ℕ) : Type 0 where
  pub usual : Usual w
  pub unit_is : unit ≡ 2 ^ w.fraction
  pub half_is : half ≡ 2 ^ (w.exponent - 1)
  pub sign_is : sign ≡ 2 ^ (w.exponent + w.fraction)

signed_zero : (s : Bool) → signed s 0 ≡ pos 0
signed_zero true = refl
signed_zero false = refl

module _ {w : Width} {unit half sign : ℕ} (k : WidthPowers w unit half sign) where
  pub unit_high : unit ≤ 2 ^ 52
  unit_high = rw k.unit_is (pow_mono k.usual.short)

  pub half_high : half ≤ 1024
  half_high = rw k.half_is (omega (arith, bias_high w k.usual))

  pub one_fits : (half - 1) * unit < 2 ^ 64
  one_fits =
      let less : half - 1 ≤ 1023 = omega (arith, half_high) in
      omega (arith, unit_high, mul-le-mul_right unit less)

  module _ (b : ℕ) where
    pub refused_large : (half - 1) * unit < b % sign → refused Float ≡ component w b
    refused_large h = too_large w k.usual b (rw (k.unit_is, k.half_is, k.sign_is) at h)

    module _ (h : b % sign ≤ (half - 1) * unit) where
      at_most_one : b % 2 ^ (w.exponent + w.fraction) ≤ bias w * 2 ^ w.fraction
      at_most_one = rw (k.unit_is, k.half_is, k.sign_is) at h

      field_is : b % sign / unit ≡ field w b
      field_is = rw (k.unit_is, k.sign_is) (pow.field b w.exponent w.fraction)

      pub answered_zero : b % sign / unit + 20 < half - 1 → gives (pos 0) ≡ component w b
      answered_zero l =
          ap gives (sym (signed_zero (negative w b)))
          ∙ answered w k.usual b at_most_one 0 (nothing_left w k.usual b at_most_one (rw (field_is, k.half_is) at l))

      module _ (l : half - 1 ≤ b % sign / unit + 20) where
        abbrev cut : ℕ
        cut = (unit + b % sign % unit) / 2 ^ (half - 1 + w.fraction - 20 - b % sign / unit)

        cut_is : cut ≡ numerator w b * 2 ^ 20 / denominator w
        cut_is =
            rw (field_is, k.half_is, k.sign_is, k.unit_is, mod-mod-pow b w.exponent w.fraction)
            (digits_left w k.usual b at_most_one (rw (field_is, k.half_is) at l))

        pub cut_small : cut ≤ 2 ^ 20
        cut_small = rw cut_is (small w k.usual b at_most_one)

        pub answered_cut : gives (signed (leb sign b) cut) ≡ component w b
        answered_cut = ap (λ n. gives (signed (leb n b) cut)) k.sign_is ∙ answered w k.usual b at_most_one cut cut_is
