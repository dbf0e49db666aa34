-- The rule as float operations have it: where -1 ≤ v ≤ 1, the product with 2^20 is exact at both formats, and cut to a whole number it is the component.
-- Exact, since m * 2^e with a significand m of the format stays one with the larger exponent, and is far from the largest. Assumes nothing.
use Prim.Native.Nat.{ℕ, zero, suc, ◌+◌, ◌-◌, ◌*◌, ◌/◌, ◌%◌, ◌^◌, ◌≤◌, ◌<◌, min}
use native.Mathlib.Nat.{le_trans, le_of_eq, le_of_lt, lt_of_le_of_lt, lt_irrefl, eq-or-lt_of_le, mul_comm, mul_assoc, mul-le-mul_right, mul-one, one-mul, le_of_mul-le-mul_right, div-le_of_le-mul}
use native.Mathlib.Omega.{arith}
use mathlib.Core.Path.{◌≡◌, refl, sym, ap, ◌∙◌}
use mathlib.Core.Logic.{inl, inr}
use mathlib.Core.Bool.{Bool, true, false, cond, ◌&&◌, ◌||◌}
use lib.Dec.{T, leb, ltb, eqb, ltb→lt, leb→le, eqb→eq, lit<}
use lib.IntN.{ℤ, pos, negsuc, neg_ℤ}
use lib.Pow.{pow-add, pow_pos, pow-lt}
use lib.Ieee as Ieee
use lib.Ieee.{Float, nan, inf, fin, Format, binary32, binary64, prec, emax, low, up, down, round, mul, fits, to_signed}
use lib.Ieee.Exact.{HasValue, round_exact}
use lib.Ieee.Fits.{and_l, and_r, up_pos, down_pos}
use lib.Ieee.Nearest.{div_same}
use borrow.Author.Tests.{lt-ltb, le-ltb, eq-eqb, ne_eqb, leb-true, leb-false}
use Rattle.answer.specs.Answer as answer
use Rattle.answer.specs.Answer.{Answer, gives, check}
use Rattle.vector.specs.Numbers.{signed}
use Rattle.mount.specs.Floats.{component_of}
use Rattle.mount.proofs.ValueLaws.{float_by_value}
use Rattle.mount.specs.Values as values

-- the rule by float operations: v * 2^20, cut to a whole number, where -1 ≤ v ≤ 1
abbrev pub by_product : Format → Float → Answer ℤ
by_product f v = check answer.Float (Ieee.le (fin true 1 (pos 0)) v && Ieee.le v (fin false 1 (pos 0))) (gives (to_signed 63 (mul f v (fin false 1 (pos 20)))))

-- ---- what a format holds: a significand of its digits, and no digit below its smallest value

module _ (f : Format) (s : Bool) where
  parts : (m : ℕ) (e : ℤ) → T (fits f (fin s (suc m) e)) → T (ltb (suc m) (2 ^ prec f)) × T (leb (down e) (2 ^ low f))
  unfolding fits
  parts m e t =
      let odd = eqb (suc m % 2) 1 in
      let short = ltb (suc m) (2 ^ prec f) in
      let close = leb (down e) (2 ^ low f) in
      let both = and_l (odd && short && close) (ltb (suc m * up e) (2 ^ suc (emax f) * down e)) t in
      (and_r odd short (and_l (odd && short) close both), and_r (odd && short) close both)

  digits : (m : ℕ) (e : ℤ) → T (fits f (fin s m e)) → m < 2 ^ prec f
  digits zero e t = pow_pos (prec f)
  digits (suc m) e t = ltb→lt (suc m) (2 ^ prec f) (parts m e t).0

  fine : (m : ℕ) (e : ℤ) → T (fits f (fin s m e)) → down e ≤ 2 ^ low f
  unfolding fits
  fine zero e t =
      let one : up e * down e ≡ 1 = eqb→eq (up e * down e) 1 t in
      le_trans (le_of_eq (sym (one-mul (down e)))) (le_trans (mul-le-mul_right (down e) (up_pos e)) (le_trans (le_of_eq one) (pow_pos (low f))))
  fine (suc m) e t = leb→le (down e) (2 ^ low f) (parts m e t).1

-- ---- the product

pow_le_back : (i j : ℕ) → 2 ^ i ≤ 2 ^ j → i ≤ j
pow_le_back i j h = go (leb i j) refl
  where
    go : (t : Bool) → leb i j ≡ t → i ≤ j
    go true e = leb-true i j e
    go false e = absurd (lt_irrefl (2 ^ i) (lt_of_le_of_lt h (pow-lt (leb-false i j e))))

-- 2^20 times 2^e, in units of 2^-l: a power of two
raised : (e : ℤ) (l : ℕ) → down e ≤ 2 ^ l → (j : ℕ) × (up e * 2 ^ 20 * 2 ^ l ≡ 2 ^ j * (down e * 1))
raised (pos k) l h = (k + 20 + l, ap (λ n. n * 2 ^ l) (sym (pow-add 2 k 20)) ∙ sym (pow-add 2 (k + 20) l) ∙ sym (mul-one (2 ^ (k + 20 + l))))
raised (negsuc k) l h =
    let less : suc k ≤ l = pow_le_back (suc k) l h in
    let sum : 20 + l ≡ 20 + (l - suc k) + suc k = omega arith in
    (20 + (l - suc k), sym (pow-add 2 20 l) ∙ ap (λ n. 2 ^ n) sum ∙ pow-add 2 (20 + (l - suc k)) (suc k) ∙ ap (λ n. 2 ^ (20 + (l - suc k)) * n) (sym (mul-one (2 ^ suc k))))

scale_fits : (f : Format) → 2 ^ 20 * 2 ^ low f < 2 ^ (low f + suc (emax f))
scale_fits binary32 = lit< tt
scale_fits binary64 = lit< tt

-- the product with 2^20 is exact
exact : (f : Format) (s : Bool) (m : ℕ) (e : ℤ) → T (fits f (fin s m e)) → m * up e ≤ down e → HasValue (round f s (m * up e * 2 ^ 20) (down e * 1)) s (m * up e * 2 ^ 20) (down e * 1)
exact f s m e t h =
    let r = raised e (low f) (fine f s m e t) in
    let j = r.0 in
    let den : 0 < down e * 1 = rw mul-one (down_pos e) in
    let same : m * up e * 2 ^ 20 * 2 ^ low f ≡ m * 2 ^ j * (down e * 1) =
    ap (λ n. n * 2 ^ low f) (mul_assoc m (up e) (2 ^ 20)) ∙ mul_assoc m (up e * 2 ^ 20) (2 ^ low f) ∙ ap (λ n. m * n) r.1 ∙ sym (mul_assoc m (2 ^ j) (down e * 1)) in
    let small : m * 2 ^ j ≤ 2 ^ 20 * 2 ^ low f =
    le_of_mul-le-mul_right
    (le_trans (le_of_eq (sym same))
    (le_trans (mul-le-mul_right (2 ^ low f) (mul-le-mul_right (2 ^ 20) h))
    (le_of_eq (mul_assoc (down e) (2 ^ 20) (2 ^ low f) ∙ mul_comm (down e) (2 ^ 20 * 2 ^ low f) ∙ ap (λ n. 2 ^ 20 * 2 ^ low f * n) (sym (mul-one (down e)))))))
    den in
    round_exact f s (m * up e * 2 ^ 20) (down e * 1) m j den (digits f s m e t) (lt_of_le_of_lt small (scale_fits f)) same

-- what a value of the size n / d, at most 2^20, is as an i64
cut : (x : Float) (s : Bool) (n d : ℕ) → 0 < d → n / d ≤ 2 ^ 20 → HasValue x s n d → to_signed 63 x ≡ signed s (n / d)
unfolding to_signed
cut nan s n d D h v = absurd v
cut (inf t) s n d D h v = absurd v
cut (fin t m e) s n d D h v =
    let q = m * up e / down e in
    let is : q ≡ n / d = div_same (m * up e) (down e) n d (down_pos e) D v.1 in
    let low-enough : min q (2 ^ 63) ≡ n / d = omega arith in
    let lower : min q (2 ^ 63 - 1) ≡ n / d = omega arith in
    (λ i. cond (v.0 i) (neg_ℤ (pos (low-enough i))) (pos (lower i)))

product : (f : Format) (s : Bool) (m : ℕ) (e : ℤ) → T (fits f (fin s m e)) → m * up e ≤ down e → to_signed 63 (mul f (fin s m e) (fin false 1 (pos 20))) ≡ signed s (m * up e * 2 ^ 20 / down e)
unfolding mul
product f s m e t h = same_sign s t
  where
    small : m * up e * 2 ^ 20 / (down e * 1) ≤ 2 ^ 20
    small = rw mul-one (div-le_of_le-mul (down e) (mul-le-mul_right (2 ^ 20) h))

    den : 0 < down e * 1
    den = rw mul-one (down_pos e)

    at : (r : Bool) → T (fits f (fin r m e)) → to_signed 63 (round f r (m * up e * 2 ^ 20) (down e * 1)) ≡ signed r (m * up e * 2 ^ 20 / down e)
    at r u =
        cut (round f r (m * up e * 2 ^ 20) (down e * 1)) r (m * up e * 2 ^ 20) (down e * 1) den small (exact f r m e u h)
        ∙ ap (λ n. signed r (m * up e * 2 ^ 20 / n)) (mul-one (down e))

    same_sign : (r : Bool) → T (fits f (fin r m e)) → to_signed 63 (round f (Ieee.unlike r false) (m * up e * 2 ^ 20) (down e * 1)) ≡ signed r (m * up e * 2 ^ 20 / down e)
    same_sign true u = at true u
    same_sign false u = at false u

-- ---- the test

and_true : (a : Bool) → (a && true) ≡ a
and_true true = refl
and_true false = refl

or_le : (a b : ℕ) (t : Bool) → (a ≡ b → t ≡ true) → (b < a → t ≡ false) → (ltb a b || (t && true)) ≡ leb a b
or_le a b t same above = go (leb a b) refl
  where
    go : (u : Bool) → leb a b ≡ u → (ltb a b || (t && true)) ≡ leb a b
    go false e = let l : b < a = leb-false a b e in rw (le-ltb a b (le_of_lt l), above l, e)
    go true e =
        elim (eq-or-lt_of_le (leb-true a b e)) [
          | inl q ↦ rw (le-ltb a b (le_of_eq (sym q)), same q, e)
          | inr l ↦ rw (lt-ltb a b l, e)
        ]

inside : (s : Bool) (m : ℕ) (e : ℤ) → (Ieee.le (fin true 1 (pos 0)) (fin s m e) && Ieee.le (fin s m e) (fin false 1 (pos 0))) ≡ leb (m * up e) (down e)
unfolding Ieee.le Ieee.lt Ieee.eq
inside false m e =
    let a = m * up e * 1 in
    let b = 1 * down e in
    let some : 0 < b + a = omega (arith, down_pos e) in
    rw (lt-ltb 0 (b + a) some)
    (or_le a b (eqb a b) (eq-eqb a b) (λ l. ne_eqb a b (λ q. omega arith)) ∙ (λ i. leb (mul-one (m * up e) i) (one-mul (down e) i)))
inside true m e =
    let a = m * up e * 1 in
    let b = 1 * down e in
    let some : 0 < a + b = omega (arith, down_pos e) in
    rw (lt-ltb 0 (a + b) some)
    (and_true (ltb a b || (eqb b a && true))
    ∙ or_le a b (eqb b a) (λ q. eq-eqb b a (sym q)) (λ l. ne_eqb b a (λ q. omega arith))
    ∙ (λ i. leb (mul-one (m * up e) i) (one-mul (down e) i)))

product_by_value : (f : Format) (v : Float) → T (fits f v) → by_product f v ≡ values.component_of v
unfolding Ieee.le Ieee.lt Ieee.eq
product_by_value f nan t = refl
product_by_value f (inf true) t = refl
product_by_value f (inf false) t = refl
product_by_value f (fin s m e) t =
    ap (λ u. check answer.Float u (gives (to_signed 63 (mul f (fin s m e) (fin false 1 (pos 20)))))) (inside s m e) ∙ go (leb (m * up e) (down e)) refl
  where
    go : (u : Bool) → leb (m * up e) (down e) ≡ u → check answer.Float (leb (m * up e) (down e)) (gives (to_signed 63 (mul f (fin s m e) (fin false 1 (pos 20))))) ≡ values.component_of (fin s m e)
    go true q = ap (λ z. check answer.Float (leb (m * up e) (down e)) (gives z)) (product f s m e t (leb-true (m * up e) (down e) q))
    go false q = rw q

pub float_by_product : (f : Format) (v : Float) → T (fits f v) → component_of f v ≡ by_product f v
float_by_product f v t = float_by_value f v t ∙ sym (product_by_value f v t)
