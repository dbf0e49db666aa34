-- The square root is the greatest whole number whose square is at most s, and the only number r with r² ≤ s < (r + 1)².
-- Of a fourth of s the root q has q² ≤ s / 4 < (q + 1)², so (2 q)² ≤ s < (2 q + 2)²: the root of s is 2 q or 2 q + 1. Assumes nothing.
--   IsRoot s r     r² ≤ s < (r + 1)²: true of `root s` (`root_is`) and of no other number (`root_unique`)
use Prim.Native.Nat.{ℕ, zero, suc, ◌+◌, ◌-◌, ◌*◌, ◌/◌, ◌^◌, ◌<◌, ◌≤◌}
use mathlib.Core.Path.{◌≡◌, refl, ap}
use mathlib.Core.Bool.{Bool, true, false, cond, ◌&&◌}
use native.Mathlib.Nat.{mul-le-mul}
use native.Mathlib.Omega.{arith}
use borrow.Author.Tests.{leb-true, leb-false, ltb-true, ltb-false, eqb-true}
use lib.Dec.{leb, ltb, eqb}
use lib.IntN.{pos, nat_abs}
use Rattle.algebra.proofs.Ring.{con, ◌:+◌, ◌:*◌}
use Rattle.algebra.proofs.Claim.{◌:≡◌, ring}
use Rattle.algebra.proofs.Tests.{and_left, and_right, split}
use Rattle.algebra.proofs.Inequalities.{`1}
use Rattle.vector.specs.Numbers.{root, root_in, or_next, RootGreatest}

pub record IsRoot (s r : ℕ) : Type 0 where
  pub low : r * r ≤ s
  pub high : s < (r + 1) * (r + 1)

doubled : (k : ℕ) → 2 * k * (2 * k) ≡ 4 * (k * k)
doubled k = ap nat_abs (ring 1 (λ k. con (pos 2) :* k :* (con (pos 2) :* k) :≡ con (pos 4) :* (k :* k)) refl (pos k))

two_more : (k : ℕ) → (2 * k + 1 + 1) * (2 * k + 1 + 1) ≡ 4 * ((k + 1) * (k + 1))
two_more k = ap nat_abs (ring 1 (λ k. (con (pos 2) :* k :+ `1 :+ `1) :* (con (pos 2) :* k :+ `1 :+ `1) :≡ con (pos 4) :* ((k :+ `1) :* (k :+ `1))) refl (pos k))

next : (s r : ℕ) (b : Bool) → leb ((r + 1) * (r + 1)) s ≡ b → r * r ≤ s → s < (r + 1 + 1) * (r + 1 + 1) → IsRoot s (cond b (r + 1) r)
next s r true e l h = record { low = leb-true ((r + 1) * (r + 1)) s e; high = h }
next s r false e l h = record { low = l; high = leb-false ((r + 1) * (r + 1)) s e }

step : (s q : ℕ) → IsRoot (s / 4) q → IsRoot s (or_next s (2 * q))
step s q h =
    let d = doubled q in
    let e = two_more q in
    next s (2 * q) _ refl (omega (arith, h.low)) (omega (arith, h.high))

zero_root : {s : ℕ} → s ≡ 0 → IsRoot s 0
zero_root {s} e = record { low = omega arith; high = omega arith }

by_zero : (s r : ℕ) (b : Bool) → eqb s 0 ≡ b → IsRoot s r → IsRoot s (elim b [ true ↦ 0 | false ↦ r ])
by_zero s r true e h = zero_root (eqb-true s 0 e)
by_zero s r false e h = h

is_root_in : (n s : ℕ) → s ≤ n → IsRoot s (root_in n s)
unfolding root_in
is_root_in zero s h = zero_root (omega arith)
is_root_in (suc n) s h = by_zero s (or_next s (2 * root_in n (s / 4))) (eqb s 0) refl (step s (root_in n (s / 4)) (is_root_in n (s / 4) (omega arith)))

pub root_is : (s : ℕ) → IsRoot s (root s)
unfolding root
root_is s = is_root_in s s (omega arith)

-- of a number below 2⁴⁶ it is below 2²³
pub root_below : {s r : ℕ} → r ≡ root s → s < 2 ^ 46 → r < 2 ^ 23
root_below {s} {r} e h = split (ltb r (2 ^ 23)) (λ t. ltb-true r (2 ^ 23) t)
    (λ t.
    let l : 2 ^ 23 ≤ root s = omega (arith, ltb-false r (2 ^ 23) t) in
    absurd (omega (arith, mul-le-mul l l, (root_is s).low)))

-- a number whose square is at most s is at most the root: the root is the greatest
pub root_greatest : (s n : ℕ) → n * n ≤ s → n ≤ root s
root_greatest s n h = by (leb n (root s)) refl
  where
    by : (b : Bool) → leb n (root s) ≡ b → n ≤ root s
    by true e = leb-true n (root s) e
    by false e = let l : root s + 1 ≤ n = omega (arith, leb-false n (root s) e) in omega (arith, mul-le-mul l l, (root_is s).high)

pub greatest_root : RootGreatest
greatest_root s = ((root_is s).low, root_greatest s)

pub root_unique : {s r : ℕ} → IsRoot s r → r ≡ root s
root_unique {s} {r} h = by (leb (root s) r) refl
  where
    by : (b : Bool) → leb (root s) r ≡ b → r ≡ root s
    by true e = omega (arith, leb-true (root s) r e, root_greatest s r h.low)
    by false e = let l : r + 1 ≤ root s = omega (arith, leb-false (root s) r e) in omega (arith, mul-le-mul l l, (root_is s).low, h.high)

-- the second test by what is left of s
next_square : (k : ℕ) → (k + 1) * (k + 1) ≡ k * k + 2 * k + 1
next_square k = ap nat_abs (ring 1 (λ k. (k :+ `1) :* (k :+ `1) :≡ k :* k :+ con (pos 2) :* k :+ `1) refl (pos k))

-- what passes the two tests is the root
pub root_tested : (s r : ℕ) → leb (r * r) s && ltb s ((r + 1) * (r + 1)) ≡ true → r ≡ root s
root_tested s r e = root_unique (record { low = leb-true (r * r) s (and_left (leb (r * r) s) _ e); high = ltb-true s ((r + 1) * (r + 1)) (and_right (leb (r * r) s) _ e) })
