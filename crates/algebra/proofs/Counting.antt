-- How many pass a test: of a list, element by element, and of the numbers from a on and below b, part by part. Assumes nothing.
use Prim.Native.Nat.{ℕ, zero, suc, ◌+◌, ◌-◌, ◌≤◌, ◌<◌}
use mathlib.Core.Path.{◌≡◌, refl, ap, ◌∙◌}
use mathlib.Core.Bool.{Bool, true, false, false≢true}
use mathlib.Core.List.{List, [], ◌∷◌}
use native.Mathlib.Omega.{arith}
use lib.ListN.{length}
use Rattle.algebra.specs.Lists.{some, tally, numbers_from}
use Rattle.algebra.proofs.Tests.{split}

-- ---- a list

module _ {A : Type 0} (f : A → Bool) where
  pub tally_pass : (x : A) (xs : List A) → f x ≡ true → tally f (x ∷ xs) ≡ suc (tally f xs)
  unfolding tally
  tally_pass x xs e = rw e

  pub tally_fail : (x : A) (xs : List A) → f x ≡ false → tally f (x ∷ xs) ≡ tally f xs
  unfolding tally
  tally_fail x xs e = rw e

  pub tally_length : (xs : List A) → tally f xs ≤ length xs
  unfolding tally
  tally_length [] = omega arith
  tally_length (x ∷ xs) = split (f x) (λ e. omega (arith, tally_pass x xs e, tally_length xs)) (λ e. omega (arith, tally_fail x xs e, tally_length xs))

  pub tally_some : (xs : List A) → some f xs ≡ true → 1 ≤ tally f xs
  unfolding some
  tally_some [] e = absurd (false≢true e)
  tally_some (x ∷ xs) e = split (f x) (λ t. omega (arith, tally_pass x xs t)) (λ t. omega (arith, tally_fail x xs t, tally_some xs (rw t at e)))

module _ {A : Type 0} (f g : A → Bool) where
  -- an element that passes g if it passes f: where k more passed g than f before it, at least k more do with it
  pub tally_step : (k : ℕ) (x : A) (xs : List A) → (f x ≡ true → g x ≡ true) → tally f xs + k ≤ tally g xs → tally f (x ∷ xs) + k ≤ tally g (x ∷ xs)
  tally_step k x xs h le = split (f x)
      (λ e. omega (arith, tally_pass f x xs e, tally_pass g x xs (h e)))
      (λ e. split (g x) (λ d. omega (arith, tally_fail f x xs e, tally_pass g x xs d)) (λ d. omega (arith, tally_fail f x xs e, tally_fail g x xs d)))

  pub tally_more : ((x : A) → f x ≡ true → g x ≡ true) → (xs : List A) → tally f xs ≤ tally g xs
  unfolding tally
  tally_more h [] = omega arith
  tally_more h (x ∷ xs) = omega (arith, tally_step 0 x xs (h x) (omega (arith, tally_more h xs)))

-- ---- the numbers from a on and below b

abbrev pub count : (ℕ → Bool) → ℕ → ℕ → ℕ
count f a b = tally f (numbers_from a (b - a))

module _ (f : ℕ → Bool) where
  tally_parts : (a m n : ℕ) → tally f (numbers_from a (m + n)) ≡ tally f (numbers_from a m) + tally f (numbers_from (a + m) n)
  unfolding tally numbers_from
  tally_parts a zero n =
      let e : zero + n ≡ n = omega arith in
      let s : a + 0 ≡ a = omega arith in
      rw (e, s) (omega arith)
  tally_parts a (suc m) n =
      let e : suc m + n ≡ suc (m + n) = omega arith in
      let s : a + suc m ≡ suc a + m = omega arith in
      rw (e, s) (split (f a) (λ t. rw t (omega (arith, tally_parts (suc a) m n))) (λ t. rw t (tally_parts (suc a) m n)))

  pub count_parts : (a b c : ℕ) → a ≤ b → b ≤ c → count f a c ≡ count f a b + count f b c
  count_parts a b c h k =
      let d : c - a ≡ b - a + (c - b) = omega arith in
      let s : a + (b - a) ≡ b = omega arith in
      ap (λ n. tally f (numbers_from a n)) d ∙ tally_parts a (b - a) (c - b) ∙ ap (λ x. count f a b + tally f (numbers_from x (c - b))) s

  tally_all : (a n : ℕ) → ((i : ℕ) → a ≤ i → i < a + n → f i ≡ true) → tally f (numbers_from a n) ≡ n
  unfolding tally numbers_from
  tally_all a zero h = refl
  tally_all a (suc n) h = rw (h a (omega arith) (omega arith)) (ap suc (tally_all (suc a) n (λ i l u. h i (omega arith) (omega arith))))

  pub count_all : (a b : ℕ) → ((i : ℕ) → a ≤ i → i < b → f i ≡ true) → count f a b ≡ b - a
  count_all a b h = tally_all a (b - a) (λ i l u. h i l (omega arith))

  tally_none : (a n : ℕ) → ((i : ℕ) → a ≤ i → i < a + n → f i ≡ false) → tally f (numbers_from a n) ≡ 0
  unfolding tally numbers_from
  tally_none a zero h = refl
  tally_none a (suc n) h = rw (h a (omega arith) (omega arith)) (tally_none (suc a) n (λ i l u. h i (omega arith) (omega arith)))

  pub count_none : (a b : ℕ) → ((i : ℕ) → a ≤ i → i < b → f i ≡ false) → count f a b ≡ 0
  count_none a b h = tally_none a (b - a) (λ i l u. h i l (omega arith))

module _ (f g : ℕ → Bool) where
  tally_same : (a n : ℕ) → ((i : ℕ) → a ≤ i → f i ≡ g i) → tally f (numbers_from a n) ≡ tally g (numbers_from a n)
  unfolding tally numbers_from
  tally_same a zero h = refl
  tally_same a (suc n) h = rw (h a (omega arith), tally_same (suc a) n (λ i l. h i (omega arith)))

  -- two tests that say the same from a on
  pub count_same : (a b : ℕ) → ((i : ℕ) → a ≤ i → f i ≡ g i) → count f a b ≡ count g a b
  count_same a b h = tally_same a (b - a) h
