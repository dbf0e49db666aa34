use Prim.Native.Nat.{ℕ, suc, ◌-◌, ◌+◌, ◌*◌, ◌%◌, ◌^◌, ◌≤◌, ◌<◌}
use native.Mathlib.Nat.{mul-le-mul, lt_of_le_of_lt, pow-succ'}
use native.Mathlib.Omega.{arith}
use mathlib.Core.Path.{◌≡◌, refl, sym, ap, subst, ◌∙◌}
use borrow.Author.Tests.{lt-ltb, le-ltb}
use lib.Dec.{lit<}
use Rattle.std.proofs.Math.Pow.{pow_mono}
use Rattle.classify_cap.specs.Middle.{first_above, root_above}
use Rattle.classify_cap.proofs.root_above.Invariants.{end}
use Rattle.classify_cap.proofs.root_above.Goals as goal

-- 2 to the k, as a shift has it
module _ (k : ℕ) (h : k < end) where
  most : 1 * 2 ^ k % 2 ^ 64 ≤ 2 ^ 20
  most = let m : 2 ^ k ≤ 2 ^ 20 = pow_mono {i = k} {j = 20} (omega arith) in omega arith

  power : 1 * 2 ^ k % 2 ^ 64 ≡ 2 ^ k
  power = let m : 2 ^ k ≤ 2 ^ 20 = pow_mono {i = k} {j = 20} (omega arith) in omega arith

-- the next number that is tried, with n steps left behind it
module _ (s r n : ℕ) where
  found : s < r * r → r ≡ first_above (suc n) r s
  unfolding first_above
  found h = rw (lt-ltb s (r * r) h)

  passed : r * r ≤ s → first_above n (2 * r) s ≡ first_above (suc n) r s
  unfolding first_above
  passed h = rw (le-ltb s (r * r) h)

-- none is left
last : (s r : ℕ) → r ≡ first_above 0 r s
unfolding first_above
last s r = refl

pub overflow_mul-r : goal.overflow_mul-r
overflow_mul-r c = let m = most c.loop-k.k c.loop-k-test.true in record { fits = lt_of_le_of_lt (mul-le-mul m m) (lit< tt) }

pub loop-k-init : goal.loop-k-init
unfolding root_above
loop-k-init c = refl

pub returns-then-s-r : goal.returns-then-s-r
returns-then-s-r c =
    let k = c.loop-k.k in
    let r = power k c.loop-k-test.true in
    let n : end - k ≡ suc (end - 1 - k) = omega arith in
    r ∙ found c.args.s (2 ^ k) (end - 1 - k) (subst (λ r. c.args.s < r * r) r c.if-s-r.true) ∙ ap (λ n. first_above n (2 ^ k) c.args.s) (sym n) ∙ c.loop-k.invariant

pub loop-k-preserved : goal.loop-k-preserved
loop-k-preserved c =
    let k = c.loop-k.k in
    let r = power k c.loop-k-test.true in
    let n : end - k ≡ suc (end - 1 - k) = omega arith in
    let m : end - (k + 1) ≡ end - 1 - k = omega arith in
    let one : k + 1 ≡ suc k = omega arith in
    let twice : 2 ^ (k + 1) ≡ 2 * 2 ^ k = ap (λ j. 2 ^ j) one ∙ pow-succ' 2 k in
    (λ i. first_above (m i) (twice i) c.args.s)
    ∙ passed c.args.s (2 ^ k) (end - 1 - k) (subst (λ r. r * r ≤ c.args.s) r c.if-s-r.false) ∙ ap (λ n. first_above n (2 ^ k) c.args.s) (sym n) ∙ c.loop-k.invariant

pub returns : goal.returns
returns c =
    let k : c.loop-k.k ≡ end = omega arith in
    last c.args.s (2 ^ end) ∙ subst (λ k. first_above (end - k) (2 ^ k) c.args.s ≡ root_above c.args.s) k c.loop-k.invariant
