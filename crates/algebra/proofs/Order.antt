-- Order facts over ℤ: sums, products, squares, cancellation. `a ≤ℤ b` is read as b = a + n for a natural n. Assumes nothing.
use mathlib.Core.Path.{◌≡◌, refl, sym, ◌∙◌, ap, subst}
use mathlib.Core.Bool.{Bool, true, false, not}
use mathlib.Core.List.{[], ◌∷◌}
use Prim.Native.Nat.{ℕ, zero, suc, ◌+◌, ◌-◌, ◌*◌, ◌≤◌}
use native.Mathlib.Omega.{arith}
use lib.Dec.{T, leb→le, leb-zero, leb-suc-zero, leb-suc-suc}
use lib.IntN.{ℤ, pos, negsuc, suc_ℤ, neg_ℤ, ◌+ℤ◌, ◌-ℤ◌, ◌*ℤ◌, +ℤ_idl, +ℤ_assoc, +ℤ_invl, +ℤ_one, neg_ℤ-+ℤ, -ℤ-+ℤ_cancel}
use lib.Signed.{le_z, lt_z, ◌≤ℤ◌, ◌<ℤ◌, le_z_yes, lt_z_yes, lt_z_no, ≤ℤ_refl, <ℤ-≤ℤ_trans, clash_ℤ}
use Rattle.algebra.proofs.Ring.{var, con, ◌:+◌, ◌:-◌, solve}

-- ---- the order and the sum

-- b = a + n
pub record Gap (a b : ℤ) : Type 0 where
  pub size : ℕ
  pub is : b ≡ a +ℤ pos size

gap' : (a b : ℤ) → T (le_z a b) → Gap a b
gap' (pos a) (pos b) t = record { size = b - a; is = ap pos (e (leb→le a b t)) }
  where
    e : a ≤ b → b ≡ a + (b - a)
    e h = omega arith
gap' (pos a) (negsuc b) t = absurd t
gap' (negsuc a) (pos b) t = record { size = suc a + b; is = sym (sym (+ℤ_assoc (negsuc a) (pos (suc a)) (pos b)) ∙ ap (λ z. z +ℤ pos b) (+ℤ_invl (pos (suc a))) ∙ +ℤ_idl (pos b)) }
gap' (negsuc a) (negsuc b) t = record { size = a - b; is = sym (ap (λ z. neg_ℤ z +ℤ pos (a - b)) (e (leb→le b a t)) ∙ ap (λ z. z +ℤ pos (a - b)) (neg_ℤ-+ℤ (pos (suc b)) (pos (a - b))) ∙ -ℤ-+ℤ_cancel (negsuc b) (pos (a - b))) }
  where
    n : b ≤ a → suc a ≡ suc b + (a - b)
    n h = omega arith

    e : b ≤ a → pos (suc a) ≡ pos (suc b) +ℤ pos (a - b)
    e h = ap pos (n h)

pub gap : {a b : ℤ} → a ≤ℤ b → Gap a b
gap {a} {b} h = gap' a b h.le

-- ---- two numbers, in one order or the other
bool_split : (b : Bool) {X : Type 0} → (T b → X) → (T (not b) → X) → X
bool_split true f g = f tt
bool_split false f g = g tt

pub by_order : (a b : ℤ) {X : Type 0} → (a <ℤ b → X) → (b ≤ℤ a → X) → X
by_order a b f g = bool_split (lt_z a b) (λ t. f (lt_z_yes t)) (λ t. g (lt_z_no t))

pub ≤ℤ-trans : {a b c : ℤ} → a ≤ℤ b → b ≤ℤ c → a ≤ℤ c
≤ℤ-trans {a} {b} {c} h k = by_order c a (λ l. clash_ℤ (<ℤ-≤ℤ_trans l h) k) (λ g. g)

pub ≡→≤ℤ : {a b : ℤ} → a ≡ b → a ≤ℤ b
≡→≤ℤ {a} {b} e = subst (λ z. a ≤ℤ z) e (≤ℤ_refl a)

-- ---- `a < b` is `a + 1 ≤ b`
suc_le' : (a b : ℤ) → T (lt_z a b) → T (le_z (suc_ℤ a) b)
suc_le' (pos a) (pos b) t = t
suc_le' (pos a) (negsuc b) t = t
suc_le' (negsuc zero) (pos b) t = subst T (sym (leb-zero b)) tt
suc_le' (negsuc (suc a)) (pos b) t = t
suc_le' (negsuc zero) (negsuc b) t = subst T (leb-suc-zero b) t
suc_le' (negsuc (suc a)) (negsuc b) t = subst T (leb-suc-suc b a) t

lt_of_suc_le' : (a b : ℤ) → T (le_z (suc_ℤ a) b) → T (lt_z a b)
lt_of_suc_le' (pos a) (pos b) t = t
lt_of_suc_le' (pos a) (negsuc b) t = t
lt_of_suc_le' (negsuc zero) (pos b) t = tt
lt_of_suc_le' (negsuc (suc a)) (pos b) t = tt
lt_of_suc_le' (negsuc zero) (negsuc b) t = absurd t
lt_of_suc_le' (negsuc (suc a)) (negsuc b) t = subst T (sym (leb-suc-suc b a)) t

pub suc_le : {a b : ℤ} → a <ℤ b → (a +ℤ pos 1) ≤ℤ b
suc_le {a} {b} h = subst (λ z. z ≤ℤ b) (sym (+ℤ_one a)) (le_z_yes (suc_le' a b h.lt))

pub lt_of_suc_le : {a b : ℤ} → (a +ℤ pos 1) ≤ℤ b → a <ℤ b
lt_of_suc_le {a} {b} h = lt_z_yes (lt_of_suc_le' a b (subst (λ z. z ≤ℤ b) (+ℤ_one a) h).le)

-- ---- not negative
pub nn_pos : (n : ℕ) → pos 0 ≤ℤ pos n
nn_pos n = le_z_yes (subst T (sym (leb-zero n)) tt)

pub nn_mul : {a b : ℤ} → pos 0 ≤ℤ a → pos 0 ≤ℤ b → pos 0 ≤ℤ (a *ℤ b)
nn_mul {a = pos n} {b = pos m} h k = nn_pos (n * m)
nn_mul {a = pos n} {b = negsuc m} h k = absurd k.le
nn_mul {a = negsuc n} {b} h k = absurd h.le

pub nn_add : {a b : ℤ} → pos 0 ≤ℤ a → pos 0 ≤ℤ b → pos 0 ≤ℤ (a +ℤ b)
nn_add {a = pos n} {b = pos m} h k = nn_pos (n + m)
nn_add {a = pos n} {b = negsuc m} h k = absurd k.le
nn_add {a = negsuc n} {b} h k = absurd h.le

pub nn_sq : (a : ℤ) → pos 0 ≤ℤ (a *ℤ a)
nn_sq (pos n) = nn_pos (n * n)
nn_sq (negsuc n) = nn_pos (suc n * suc n)

pub gap_nn : {a b : ℤ} → a ≤ℤ b → pos 0 ≤ℤ (b -ℤ a)
gap_nn {a} {b} h =
    let g : Gap a b = gap h in
    subst (λ z. pos 0 ≤ℤ z) (sym (ap (λ z. z -ℤ a) g.is ∙ solve (var 0 :+ var 1 :- var 0) (var 1) refl (a ∷ pos g.size ∷ []))) (nn_pos g.size)

pub gap_le : {a b : ℤ} → pos 0 ≤ℤ (b -ℤ a) → a ≤ℤ b
gap_le {a} {b} h = by_order b a
    (λ l. absurd (subst (λ z. pos 0 ≤ℤ z) (solve (var 1 :- var 0 :+ (var 0 :- (var 1 :+ con (pos 1)))) (con (negsuc 0)) refl (a ∷ b ∷ [])) (nn_add h (gap_nn (suc_le l)))).le)
    (λ g. g)
