-- Tests and what follows from them: Booleans, the order tests of ℕ and of ℤ, tests over lists. Assumes nothing.
use Prim.Native.Nat.{ℕ, ◌≤◌}
use mathlib.Core.Path.{◌≡◌, refl, sym, ap, subst, ◌∙◌}
use mathlib.Core.Bool.{Bool, true, false, not, ◌&&◌, ◌||◌, true≢false, false≢true}
use mathlib.Core.List.{List, [], ◌∷◌}
use borrow.Author.Tests.{ltb-true, ltb-false, le-leb, lt-leb}
use lib.Dec.{T, leb, ltb}
use lib.IntN.{ℤ}
use lib.Signed.{le_z, lt_z, ◌≤ℤ◌, ◌<ℤ◌, le_z_yes, lt_z_yes, clash_ℤ}
use Rattle.algebra.proofs.Order.{by_order}
use Rattle.algebra.specs.Lists.{every, some}

-- ---- Booleans

pub holds_T : {b : Bool} → T b → b ≡ true
holds_T {b = true} t = refl
holds_T {b = false} t = absurd t

pub T-holds : {b : Bool} → b ≡ true → T b
T-holds e = subst T (sym e) tt

pub and_left : (a b : Bool) → a && b ≡ true → a ≡ true
and_left true b e = refl
and_left false b e = e

pub and_right : (a b : Bool) → a && b ≡ true → b ≡ true
and_right true b e = e
and_right false b e = absurd (false≢true e)

pub and_both : {a b : Bool} → a ≡ true → b ≡ true → a && b ≡ true
and_both {a} {b} e f = rw e f

-- a && b where a is known: as a program tests b only where a holds
pub and_then : {a : Bool} (b : Bool) → a ≡ true → b ≡ a && b
and_then b e = rw e

pub and_else : {a : Bool} (b : Bool) → a ≡ false → a ≡ a && b
and_else b e = rw e

pub or_cases {ℓ} : (a b : Bool) {X : Type ℓ} → a || b ≡ true → (a ≡ true → X) → (b ≡ true → X) → X
or_cases true b e f g = f refl
or_cases false b e f g = g e

pub or_left : (b : Bool) {a : Bool} → a ≡ true → a || b ≡ true
or_left b e = rw e

pub or_right : (a : Bool) {b : Bool} → b ≡ true → a || b ≡ true
or_right true e = refl
or_right false e = e

pub or_neither : {a b : Bool} → a ≡ false → b ≡ false → a || b ≡ false
or_neither {a} {b} e f = rw e f

pub or_none : (a b : Bool) → a || b ≡ false → (a ≡ false) × (b ≡ false)
or_none true b e = absurd (true≢false e)
or_none false b e = (refl, e)

pub and_no_left : (b : Bool) {a : Bool} → a ≡ false → a && b ≡ false
and_no_left b e = rw e

pub and_no_right : (a : Bool) {b : Bool} → b ≡ false → a && b ≡ false
and_no_right true e = e
and_no_right false e = refl

-- two tests each of three things: three things by both tests
pub and_pairs : (a b c x y z : Bool) → (a && (b && c)) && (x && (y && z)) ≡ (a && x) && ((b && y) && (c && z))
and_pairs false b c x y z = refl
and_pairs true b c false y z = and_no_right (b && c) refl
and_pairs true false c true y z = refl
and_pairs true true c true false z = and_no_right c refl
and_pairs true true false true true z = refl
and_pairs true true true true true z = refl

pub split {ℓ} : (t : Bool) {X : Type ℓ} → (t ≡ true → X) → (t ≡ false → X) → X
split true f g = f refl
split false f g = g refl

-- ---- the order of ℕ

-- a test that passes below what it passes fails above what it fails
pub fails_above : (f : ℕ → Bool) → ((a b : ℕ) → a ≤ b → f b ≡ true → f a ≡ true) → {m n : ℕ} → m ≤ n → f m ≡ false → f n ≡ false
fails_above f down {m} {n} h e = split (f n) (λ t. absurd (true≢false (sym (down m n h t) ∙ e))) (λ t. t)

-- at most is not greater
pub not_less : (a b : ℕ) → not (ltb b a) ≡ leb a b
not_less a b = split (ltb b a) (λ e. rw e (sym (lt-leb a b (ltb-true b a e)))) (λ e. rw e (sym (le-leb a b (ltb-false b a e))))

-- ---- the order of ℤ

pub le_yes : {a b : ℤ} → le_z a b ≡ true → a ≤ℤ b
le_yes e = le_z_yes (T-holds e)

pub lt_yes : {a b : ℤ} → lt_z a b ≡ true → a <ℤ b
lt_yes e = lt_z_yes (T-holds e)

pub yes_le : {a b : ℤ} → a ≤ℤ b → le_z a b ≡ true
yes_le h = holds_T h.le

pub yes_lt : {a b : ℤ} → a <ℤ b → lt_z a b ≡ true
yes_lt h = holds_T h.lt

pub no_lt : {a b : ℤ} → b ≤ℤ a → lt_z a b ≡ false
no_lt {a} {b} h = split (lt_z a b) (λ e. clash_ℤ (lt_yes e) h) (λ e. e)

pub not_le : {a b : ℤ} → b <ℤ a → le_z a b ≡ false
not_le {a} {b} h = split (le_z a b) (λ e. clash_ℤ h (le_yes e)) (λ e. e)

pub no_le : {a b : ℤ} → le_z a b ≡ false → b <ℤ a
no_le {a} {b} e = by_order b a (λ l. l) (λ g. absurd (true≢false (sym (yes_le g) ∙ e)))

pub le_not_lt : (a b : ℤ) → le_z a b ≡ not (lt_z b a)
le_not_lt a b = by_order b a (λ l. not_le l ∙ sym (ap not (yes_lt l))) (λ g. yes_le g ∙ sym (ap not (no_lt g)))

-- two tests of which each holds where the other does
pub same_lt_tests : {a b c d : ℤ} → (a <ℤ b → c <ℤ d) → (c <ℤ d → a <ℤ b) → lt_z a b ≡ lt_z c d
same_lt_tests {a} {b} {c} {d} f g = by_order a b
    (λ l. yes_lt l ∙ sym (yes_lt (f l)))
    (λ h. no_lt h ∙ sym (by_order c d (λ l. absurd (clash_ℤ (g l) h)) no_lt))

-- ---- tests over lists

module _ {A : Type 0} (f g : A → Bool) where
  pub every_every : ((x : A) → f x ≡ true → g x ≡ true) → (xs : List A) → every f xs ≡ true → every g xs ≡ true
  unfolding every
  every_every h [] e = refl
  every_every h (x ∷ xs) e = and_both (h x (and_left (f x) (every f xs) e)) (every_every h xs (and_right (f x) (every f xs) e))

  pub some_some : ((x : A) → f x ≡ true → g x ≡ true) → (xs : List A) → some f xs ≡ true → some g xs ≡ true
  unfolding some
  some_some h [] e = e
  some_some h (x ∷ xs) e = or_cases (f x) (some f xs) e (λ k. or_left (some g xs) (h x k)) (λ k. or_right (g x) (some_some h xs k))

  pub every_none : ((x : A) → f x ≡ true → g x ≡ false) → (xs : List A) → every f xs ≡ true → some g xs ≡ false
  unfolding every some
  every_none h [] e = refl
  every_none h (x ∷ xs) e = rw (h x (and_left (f x) (every f xs) e)) (every_none h xs (and_right (f x) (every f xs) e))

  pub some_fails : ((x : A) → f x ≡ true → g x ≡ false) → (xs : List A) → some f xs ≡ true → every g xs ≡ false
  unfolding every some
  some_fails h [] e = absurd (false≢true e)
  some_fails h (x ∷ xs) e = or_cases (f x) (some f xs) e (λ k. and_no_left (every g xs) (h x k)) (λ k. and_no_right (g x) (some_fails h xs k))
