-- The clearance of a middle: what is beyond it passes the tests of squares and of edges for every halfspace. With r² ≥ S, r ≤ E and M ≥ 2²¹ r:
-- p S < 2⁴² S ≤ M² for p up to 3·2⁴⁰, and S G ≤ 2²¹ r² ≤ M E for G up to 2²¹. Assumes nothing.
use Prim.Native.Nat.{ℕ, zero, suc, ◌*◌, ◌^◌, ◌≤◌, ◌<◌}
use native.Mathlib.Nat.{le_refl, le_of_lt, lt_of_lt_of_le}
use native.Mathlib.Omega.{arith}
use borrow.Author.Tests.{ltb-true, ltb-false}
use lib.Dec.{T, ltb, leb→le, le→leb, lt→ltb, lit<}
use lib.IntN.{ℤ, pos, negsuc, nat_abs, ◌*ℤ◌}
use lib.Signed.{non_neg, le_z, ◌≤ℤ◌, ◌<ℤ◌, le_z_yes, lt_z_yes}
use Rattle.algebra.proofs.Sizes.{Upto}
use Rattle.algebra.proofs.Order.{nn_pos}
use Rattle.algebra.proofs.Beyond.{beyond_square, beyond_edges, beyond_front}
use Rattle.algebra.proofs.Sized.{upto_high}
use Rattle.algebra.proofs.Tests.{split, no_le}
use Rattle.classify_prepared.specs.Measures.{Rest}
use Rattle.classify_cap.specs.Middle.{first_above, root_above, clearance_of}

-- ---- a number whose square is not below

-- r after n steps
abbrev pub doubled : ℕ → ℕ → ℕ
doubled zero r = r
doubled (suc n) r = doubled n (2 * r)

pub doubled_least : (n r : ℕ) → r ≤ doubled n r
doubled_least zero r = le_refl r
doubled_least (suc n) r = omega (arith, doubled_least n (2 * r))

first_above_law : (n r s : ℕ) → s ≤ doubled n r * doubled n r → s ≤ first_above n r s * first_above n r s
unfolding first_above
first_above_law zero r s h = h
first_above_law (suc n) r s h = split (ltb s (r * r)) (λ a. rw a (le_of_lt (ltb-true s (r * r) a))) (λ a. rw a (first_above_law n (2 * r) s h))

first_most : (n r s : ℕ) → first_above n r s ≤ doubled n r
unfolding first_above
first_most zero r s = le_refl r
first_most (suc n) r s = split (ltb s (r * r)) (λ a. rw a (doubled_least (suc n) r)) (λ a. rw a (first_most n (2 * r) s))

first_least : (n r s : ℕ) → r ≤ first_above n r s
unfolding first_above
first_least zero r s = le_refl r
first_least (suc n) r s = split (ltb s (r * r)) (λ a. rw a (le_refl r)) (λ a. rw a (omega (arith, first_least n (2 * r) s)))

root_above_law : (s : ℕ) → s ≤ 2 ^ 42 → s ≤ root_above s * root_above s
unfolding root_above
root_above_law s h = first_above_law _ _ s h

pub root_most : (s : ℕ) → root_above s ≤ 2 ^ 21
unfolding root_above
root_most s = first_most _ _ s

root_some : (s : ℕ) → 0 < root_above s
unfolding root_above
root_some s = lt_of_lt_of_le (lit< tt) (first_least _ _ s)

pub clearance_upto : (S : ℤ) (e : ℕ) → Upto (2 ^ 62) (clearance_of S e)
unfolding clearance_of
clearance_upto S e =
    let h = root_most (nat_abs S) in
    split (le_z S (pos 0)) (λ a. rw a (record { le = omega arith }))
    (λ a. rw a (split (ltb e (root_above (nat_abs S))) (λ b. rw b (record { le = omega arith })) (λ b. rw b (record { le = omega arith }))))

pub clearance_sign : (S : ℤ) (e : ℕ) → T (non_neg (clearance_of S e))
unfolding clearance_of
clearance_sign S e = split (le_z S (pos 0)) (λ a. rw a tt) (λ a. rw a (split (ltb e (root_above (nat_abs S))) (λ b. rw b tt) (λ b. rw b tt)))

-- ---- the clearance

never : (M : ℤ) → pos (2 ^ 62) ≤ℤ M → Upto (2 ^ 43) M → ⊥
never (pos m) h u = omega (arith, leb→le _ m h.le, u.le)
never (negsuc m) h u = h.le

-- what is beyond the clearance of S and E
pub record Beyond (S E M : ℤ) : Type 0 where
  pub rest : pos 0 <ℤ S
  pub front : pos 0 <ℤ M
  pub square : (p : ℤ) → Rest p → (p *ℤ S) <ℤ (M *ℤ M)
  pub edges : (G : ℤ) → Upto (2 ^ 21) G → (S *ℤ G) ≤ℤ (M *ℤ E)

by_root : (S M : ℤ) (e r : ℕ) → pos 0 <ℤ S → S ≤ℤ (pos r *ℤ pos r) → 0 < r → r ≤ e → pos (2097152 * r) ≤ℤ M → Beyond S (pos e) M
by_root S M e r s h n l k = record {
  rest = s;
  front = beyond_front M S (pos r) k h s (lt_z_yes (lt→ltb 0 r n));
  square = λ p q. beyond_square M S (pos r) p k h (upto_high q.size) s (nn_pos r);
  edges = λ G u. beyond_edges M S (pos r) (pos e) G k h (le_z_yes (le→leb r e l)) (upto_high u) s (nn_pos r);
}

pub beyond_clearance : (S M : ℤ) (e : ℕ) → Rest S → clearance_of S e ≤ℤ M → Upto (2 ^ 43) M → Beyond S (pos e) M
unfolding clearance_of
beyond_clearance S M e r h u =
    split (le_z S (pos 0)) (λ a. absurd (never M (rw a at h) u))
    (λ a.
    let s : pos 0 <ℤ S = no_le {a = S} {b = pos 0} a in
    split (ltb e (root_above (nat_abs S))) (λ b. absurd (never M (rw (a, b) at h) u))
    (λ b. by_root S M e (root_above (nat_abs S)) s (below S r.sign r.size) (root_some (nat_abs S)) (ltb-false e (root_above (nat_abs S)) b) (rw (a, b) at h)))
  where
    below : (S : ℤ) → T (non_neg S) → Upto (3 * 2 ^ 40) S → S ≤ℤ (pos (root_above (nat_abs S)) *ℤ pos (root_above (nat_abs S)))
    below (pos n) t v = le_z_yes (le→leb n (root_above n * root_above n) (root_above_law n (omega (arith, v.le))))
    below (negsuc n) t v = absurd t
