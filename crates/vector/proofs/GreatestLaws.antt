-- What `greatest` finds: a number that passes its test, and the only one above which none passes. Assumes nothing.
use Prim.Native.Nat.{ℕ, zero, suc, ◌≤◌, ◌<◌}
use native.Mathlib.Omega.{arith}
use mathlib.Core.Path.{◌≡◌, sym, subst, ◌∙◌}
use mathlib.Core.Bool.{Bool, true, false, true≢false}
use lib.Dec.{leb}
use borrow.Author.Tests.{leb-true, leb-false}
use Rattle.algebra.proofs.Tests.{split}
use Rattle.vector.specs.Numbers.{greatest}

-- what passes at 0 passes at the greatest
pub greatest_passes : (f : ℕ → Bool) (n : ℕ) → f 0 ≡ true → f (greatest f n) ≡ true
unfolding greatest
greatest_passes f zero e = e
greatest_passes f (suc n) e = split (f (suc n)) (λ t. rw (t, greatest) t) (λ t. rw (t, greatest) (greatest_passes f n e))

-- the greatest is at most n
pub greatest_most : (f : ℕ → Bool) (n : ℕ) → greatest f n ≤ n
unfolding greatest
greatest_most f zero = omega arith
greatest_most f (suc n) = split (f (suc n)) (λ t. rw (t, greatest) (omega arith)) (λ t. rw (t, greatest) (omega (arith, greatest_most f n)))

-- what passes is at most the greatest
pub greatest_above : (f : ℕ → Bool) (n k : ℕ) → k ≤ n → f k ≡ true → k ≤ greatest f n
unfolding greatest
greatest_above f zero k h e = h
greatest_above f (suc n) k h e = split (f (suc n)) (λ t. rw (t, greatest) h)
    (λ t. rw (t, greatest) (split (leb k n) (λ l. greatest_above f n k (leb-true k n l) e)
    (λ l.
    let s : k ≡ suc n = omega (arith, leb-false k n l) in
    absurd (true≢false (sym (subst (λ x. f x ≡ true) s e) ∙ t)))))

-- the greatest passes if it is not 0
pub greatest_found : (f : ℕ → Bool) (n : ℕ) → 0 < greatest f n → f (greatest f n) ≡ true
unfolding greatest
greatest_found f zero h = absurd (omega arith)
greatest_found f (suc n) h = split (f (suc n)) (λ t. rw (t, greatest) t) (λ t. rw (t, greatest) (greatest_found f n (rw (t, greatest) at h)))

-- a number that passes, with none above it up to n that does, is the greatest
pub greatest_is : (f : ℕ → Bool) (n m : ℕ) → m ≤ n → f m ≡ true → ((k : ℕ) → m < k → k ≤ n → f k ≡ false) → greatest f n ≡ m
unfolding greatest
greatest_is f zero m h t none = omega arith
greatest_is f (suc n) m h t none = split (leb m n)
    (λ e.
    let l : m ≤ n = leb-true m n e in
    rw (none (suc n) (omega arith) (omega arith), greatest) (greatest_is f n m l t (λ k a b. none k a (omega arith))))
    (λ e.
    let s : m ≡ suc n = omega (arith, leb-false m n e) in
    rw (subst (λ x. f x ≡ true) s t, greatest) (sym s))
