-- Bounds on numbers with a sign, and the way to `SFits`, which a signed operation requires: the size of a sum, a difference, a product and a
-- quotient, and one law for each operation on the bits of a signed 64-bit number. Closed bounds are answered by `tt`. Assumes nothing.
use Prim.Native.Nat.{ℕ, zero, suc, ◌+◌, ◌-◌, ◌*◌, ◌^◌, ◌≤◌, ◌<◌}
use native.Mathlib.Nat.{le_refl, le_trans, lt_of_le_of_lt, mul-le-mul, add-le-add, div-le_self, lt_trans}
use native.Mathlib.Omega.{arith}
use mathlib.Core.Path.{◌≡◌, refl, sym, ap, subst, ◌∙◌}
use mathlib.Core.Bool.{Bool, true, false, cond, not, true≢false}
use borrow.Author.Tests.{ltb-true}
use lib.Dec.{T, leb, ltb, ltb→lt, le→leb, leb-suc-zero, lit<}
use lib.IntN.{ℤ, pos, negsuc, nat_abs, neg_ℤ, ◌+ℤ◌, ◌-ℤ◌, ◌*ℤ◌}
use lib.Signed.{mag, quot_z, lt_z, le_z, ◌≤ℤ◌, le_z_yes, non_neg}
use mir.Syntax.{Width, w32, w64}
use mir.Val.{SFits, to_z, of_z, hbits, Fits}
use mir.Facts.{to_z-of_z, Fits-le}
use Rattle.algebra.proofs.Sizes.{Upto}
use Rattle.algebra.proofs.Order.{nn_pos}

-- ---- sizes

pub nat_abs_neg : (z : ℤ) → nat_abs (neg_ℤ z) ≡ nat_abs z
nat_abs_neg (pos zero) = refl
nat_abs_neg (pos (suc n)) = refl
nat_abs_neg (negsuc n) = refl

difference_size : (a b : ℕ) (t : Bool) → ltb a b ≡ t → nat_abs (cond t (negsuc (b - suc a)) (pos (a - b))) ≤ a + b
difference_size a b true e = omega (arith, ltb-true a b e)
difference_size a b false e = omega arith

nat_abs_add : (a b : ℤ) → nat_abs (a +ℤ b) ≤ nat_abs a + nat_abs b
nat_abs_add (pos a) (pos b) = le_refl _
nat_abs_add (pos a) (negsuc b) = difference_size a (suc b) _ refl
nat_abs_add (negsuc a) (pos b) = omega (arith, difference_size b (suc a) _ refl)
nat_abs_add (negsuc a) (negsuc b) = omega arith

pub nat_abs_mul : (a b : ℤ) → nat_abs (a *ℤ b) ≡ nat_abs a * nat_abs b
nat_abs_mul (pos a) (pos b) = refl
nat_abs_mul (pos a) (negsuc b) = nat_abs_neg (pos (a * suc b))
nat_abs_mul (negsuc a) (pos b) = nat_abs_neg (pos (suc a * b))
nat_abs_mul (negsuc a) (negsuc b) = refl

nat_abs_quot : (a b : ℤ) → nat_abs (quot_z a b) ≤ nat_abs a
nat_abs_quot (pos a) (pos b) = div-le_self a b
nat_abs_quot (pos a) (negsuc b) = rw nat_abs_neg (div-le_self a (suc b))
nat_abs_quot (negsuc a) (pos b) = rw nat_abs_neg (div-le_self (suc a) b)
nat_abs_quot (negsuc a) (negsuc b) = div-le_self (suc a) (suc b)

-- a² b ≤ c², by sizes
pub squares_by_size : (a b c : ℤ) → T (non_neg b) → leb (nat_abs a * nat_abs a * nat_abs b) (nat_abs c * nat_abs c) ≡ le_z (a *ℤ a *ℤ b) (c *ℤ c)
squares_by_size (pos a) (pos b) (pos c) t = refl
squares_by_size (pos a) (pos b) (negsuc c) t = refl
squares_by_size (negsuc a) (pos b) (pos c) t = refl
squares_by_size (negsuc a) (pos b) (negsuc c) t = refl
squares_by_size (pos a) (negsuc b) c t = absurd t
squares_by_size (negsuc a) (negsuc b) c t = absurd t

pub upto_mono : {m n : ℕ} {z : ℤ} → m ≤ n → Upto m z → Upto n z
upto_mono h p = record { le = le_trans p.le h }

pub upto_neg : {n : ℕ} {z : ℤ} → Upto n z → Upto n (neg_ℤ z)
upto_neg p = record { le = rw nat_abs_neg p.le }

pub upto_add : {m n : ℕ} {y z : ℤ} → Upto m y → Upto n z → Upto (m + n) (y +ℤ z)
upto_add {y = y} {z = z} p q = record { le = le_trans (nat_abs_add y z) (add-le-add p.le q.le) }

pub upto_sub : {m n : ℕ} {y z : ℤ} → Upto m y → Upto n z → Upto (m + n) (y -ℤ z)
upto_sub p q = upto_add p (upto_neg q)

pub upto_mul : {m n : ℕ} {y z : ℤ} → Upto m y → Upto n z → Upto (m * n) (y *ℤ z)
upto_mul p q = record { le = rw nat_abs_mul (mul-le-mul p.le q.le) }

pub upto_quot : {m : ℕ} {y : ℤ} (z : ℤ) → Upto m y → Upto m (quot_z y z)
upto_quot {y = y} z p = record { le = le_trans (nat_abs_quot y z) p.le }

-- the two sides of a size
upto_low' : (z : ℤ) (n : ℕ) → nat_abs z ≤ n → neg_ℤ (pos n) ≤ℤ z
upto_low' (pos a) zero h = nn_pos a
upto_low' (pos a) (suc n) h = le_z_yes tt
upto_low' (negsuc a) zero h = absurd (omega arith)
upto_low' (negsuc a) (suc n) h = le_z_yes (le→leb a n (omega arith))

upto_high' : (z : ℤ) (n : ℕ) → nat_abs z ≤ n → z ≤ℤ pos n
upto_high' (pos a) n h = le_z_yes (le→leb a n h)
upto_high' (negsuc a) n h = le_z_yes tt

pub upto_low : {n : ℕ} {z : ℤ} → Upto n z → neg_ℤ (pos n) ≤ℤ z
upto_low {n} {z} p = upto_low' z n p.le

pub upto_high : {n : ℕ} {z : ℤ} → Upto n z → z ≤ℤ pos n
upto_high {n} {z} p = upto_high' z n p.le

-- ---- what fits a width

mag≤natAbs : (z : ℤ) → mag z ≤ nat_abs z
mag≤natAbs (pos n) = le_refl _
mag≤natAbs (negsuc n) = omega arith

pub sfits : (w : Width) {n : ℕ} {z : ℤ} → Upto n z → T (ltb n (2 ^ hbits w)) → SFits w z
sfits w {n} {z} h t = record { sfits = lt_of_le_of_lt (mag≤natAbs z) (lt_of_le_of_lt h.le (ltb→lt n (2 ^ hbits w) t)) }

-- ---- the bits of a signed 64-bit number

-- the bits b stand for z, whose size is at most n
pub record Is (b : ℕ) (z : ℤ) (n : ℕ) : Type 0 where
  pub eq : to_z w64 b ≡ z
  pub size : Upto n z

pub held : {n : ℕ} {z : ℤ} → Upto n z → T (ltb n (2 ^ 63)) → Is (of_z w64 z) z n
held h t = record { eq = to_z-of_z (sfits w64 h t); size = h }

-- a number that fits, stored by its bits
pub stored_same : (z : ℤ) → mag z < 2 ^ 63 → to_z w64 (of_z w64 z) ≡ z
stored_same z h = to_z-of_z {w = w64} {z = z} (record { sfits = h })

-- a number that is handed on by its bits
pub upto_held : {n : ℕ} {z : ℤ} → Upto n z → T (ltb n (2 ^ 63)) → Upto n (to_z w64 (of_z w64 z))
upto_held {n} h t = subst (Upto n) (sym (held h t).eq) h

-- a number without a sign, which is its own bits; and one that is written
pub nat : {m n : ℕ} → m ≤ n → T (ltb n (2 ^ 63)) → Is m (pos m) n
nat {m} h t = held {z = pos m} (record { le = h }) t

pub lit : (n : ℕ) → T (ltb n (2 ^ 63)) → Is n (pos n) n
lit n t = nat (le_refl n) t

-- a number z that is tested against 0: z is not negative, or 0 − z is not
pub no_sign : (z : ℤ) → lt_z z (pos 0) ≡ false → T (non_neg z)
no_sign (pos n) e = tt
no_sign (negsuc n) e = absurd (true≢false e)

-- the sign of a number that is tested by its bits
sign_tested : (z : ℤ) → non_neg z ≡ not (lt_z z (pos 0))
sign_tested (pos n) = rw (leb-suc-zero n)
sign_tested (negsuc n) = refl

pub sign_held : {z : ℤ} {t : Bool} → SFits w64 z → lt_z (to_z w64 (of_z w64 z)) (pos 0) ≡ t → non_neg z ≡ not t
sign_held {z} h e = sign_tested z ∙ ap not (sym (ap (λ v. lt_z v (pos 0)) (to_z-of_z h)) ∙ e)

-- what a cast to a number without a sign requires
pub fits_cast : {b n : ℕ} {z : ℤ} → Is b z n → T (non_neg z) → T (ltb n (2 ^ 63)) → T (non_neg (to_z w64 b)) × Fits w64 (nat_abs (to_z w64 b))
fits_cast {n = n} p h t = subst (λ v. T (non_neg v) × Fits w64 (nat_abs v)) (sym p.eq) (h, Fits-le p.size.le (record { fits = lt_trans (ltb→lt n (2 ^ 63) t) (lit< tt) }))

-- a signed 32-bit number that is cast to 64 bits: it fits, and is the same number
pub fits_wider : {z : ℤ} → SFits w32 z → SFits w64 (to_z w32 (of_z w32 z))
fits_wider h = subst (SFits w64) (sym (to_z-of_z h)) (record { sfits = lt_trans h.sfits (lit< tt) })

pub same_wider : {z : ℤ} → SFits w32 z → to_z w64 (of_z w64 (to_z w32 (of_z w32 z))) ≡ z
same_wider h = to_z-of_z (fits_wider h) ∙ to_z-of_z h

-- a signed 64-bit number that is cast to 32 bits and fits: it is the same number
pub fits_narrower : {n : ℕ} {z : ℤ} → Upto n z → T (ltb n (2 ^ 31)) → SFits w32 (to_z w64 (of_z w64 z))
fits_narrower {z = z} h t = let f = sfits w32 h t in subst (SFits w32) (sym (stored_same z (lt_trans f.sfits (lit< tt)))) f

pub same_narrower : {n : ℕ} {z : ℤ} → Upto n z → T (ltb n (2 ^ 31)) → to_z w32 (of_z w32 (to_z w64 (of_z w64 z))) ≡ z
same_narrower {z = z} h t = to_z-of_z (fits_narrower h t) ∙ stored_same z (lt_trans (sfits w32 h t).sfits (lit< tt))

-- an operation whose result on the bits is y, and on the numbers is z
kept : {y z : ℤ} {n : ℕ} → y ≡ z → Upto n z → T (ltb n (2 ^ 63)) → Is (of_z w64 y) z n
kept {z} {n} e h t = subst (λ v. Is (of_z w64 v) z n) (sym e) (held h t)

fits : {y z : ℤ} {n : ℕ} → y ≡ z → Upto n z → T (ltb n (2 ^ 63)) → SFits w64 y
fits e h t = subst (λ v. SFits w64 v) (sym e) (sfits w64 h t)

module _ {b c : ℕ} {y z : ℤ} {m n : ℕ} (p : Is b y m) (q : Is c z n) where
  add_eq : to_z w64 b +ℤ to_z w64 c ≡ y +ℤ z
  add_eq i = p.eq i +ℤ q.eq i

  sub_eq : to_z w64 b -ℤ to_z w64 c ≡ y -ℤ z
  sub_eq i = p.eq i -ℤ q.eq i

  mul_eq : to_z w64 b *ℤ to_z w64 c ≡ y *ℤ z
  mul_eq i = p.eq i *ℤ q.eq i

  div_eq : quot_z (to_z w64 b) (to_z w64 c) ≡ quot_z y z
  div_eq i = quot_z (p.eq i) (q.eq i)

  pub is_add : T (ltb (m + n) (2 ^ 63)) → Is (of_z w64 (to_z w64 b +ℤ to_z w64 c)) (y +ℤ z) (m + n)
  is_add t = kept add_eq (upto_add p.size q.size) t

  pub is_sub : T (ltb (m + n) (2 ^ 63)) → Is (of_z w64 (to_z w64 b -ℤ to_z w64 c)) (y -ℤ z) (m + n)
  is_sub t = kept sub_eq (upto_sub p.size q.size) t

  pub is_mul : T (ltb (m * n) (2 ^ 63)) → Is (of_z w64 (to_z w64 b *ℤ to_z w64 c)) (y *ℤ z) (m * n)
  is_mul t = kept mul_eq (upto_mul p.size q.size) t

  pub is_div : T (ltb m (2 ^ 63)) → Is (of_z w64 (quot_z (to_z w64 b) (to_z w64 c))) (quot_z y z) m
  is_div t = kept div_eq (upto_quot z p.size) t

  pub fits_add : T (ltb (m + n) (2 ^ 63)) → SFits w64 (to_z w64 b +ℤ to_z w64 c)
  fits_add t = fits add_eq (upto_add p.size q.size) t

  pub fits_sub : T (ltb (m + n) (2 ^ 63)) → SFits w64 (to_z w64 b -ℤ to_z w64 c)
  fits_sub t = fits sub_eq (upto_sub p.size q.size) t

  pub fits_mul : T (ltb (m * n) (2 ^ 63)) → SFits w64 (to_z w64 b *ℤ to_z w64 c)
  fits_mul t = fits mul_eq (upto_mul p.size q.size) t

  pub fits_div : zero < c → T (ltb m (2 ^ 63)) → (zero < c) × SFits w64 (quot_z (to_z w64 b) (to_z w64 c))
  fits_div h t = (h, fits div_eq (upto_quot z p.size) t)

  pub same_lt : lt_z (to_z w64 b) (to_z w64 c) ≡ lt_z y z
  same_lt i = lt_z (p.eq i) (q.eq i)

  pub same_le : le_z (to_z w64 b) (to_z w64 c) ≡ le_z y z
  same_le i = le_z (p.eq i) (q.eq i)
