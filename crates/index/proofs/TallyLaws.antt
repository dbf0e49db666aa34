-- How many elements pass a test, where one is inserted, where one is withdrawn, and among those only that pass another. By recursion over the list,
-- test by test. Assumes nothing.
use Prim.Native.Nat.{ℕ, suc, ◌+◌, ◌≤◌}
use mathlib.Core.Path.{◌≡◌, sym, ap, ◌∙◌, refl}
use mathlib.Core.Bool.{Bool, true, false, cond, not, ◌&&◌, ◌||◌, false≢true}
use mathlib.Core.List.{List, [], ◌∷◌}
use native.Mathlib.Omega.{arith}
use borrow.Author.Tests.{lt-ltb}
use lib.Dec.{ltb}
use lib.ListN.{length}
use Rattle.algebra.specs.Lists.{every, some, tally}
use Rattle.index.specs.declared.Entry.{Entry}
use Rattle.index.specs.declared.Key.{Key}
use Rattle.index.specs.Exposures.{only}
use Rattle.index.specs.Entries.{precedes, is_keyed, inserted, withdrawn}

-- ---- of any list

abbrev counting : Bool → ℕ → ℕ
counting t n = cond t (suc n) n

module _ {A : Type 0} where
  pub some_tally : (f : A → Bool) (xs : List A) → some f xs ≡ ltb 0 (tally f xs)
  unfolding some tally
  some_tally f [] = refl
  some_tally f (x ∷ xs) = by_test (f x) (some_tally f xs)
    where
      by_test : (t : Bool) → some f xs ≡ ltb 0 (tally f xs) → (t || some f xs) ≡ ltb 0 (counting t (tally f xs))
      by_test true e = sym (lt-ltb 0 (suc (tally f xs)) (omega arith))
      by_test false e = e

  pub tally_all : (xs : List A) → tally (λ x. true) xs ≡ length xs
  unfolding tally
  tally_all [] = refl
  tally_all (x ∷ xs) = ap suc (tally_all xs)

  pub all_pass : (f : A → Bool) (xs : List A) → tally (λ x. not (f x)) xs ≡ 0 → every f xs ≡ true
  unfolding tally every
  all_pass f [] e = refl
  all_pass f (x ∷ xs) e = by_test (f x) (all_pass f xs) e
    where
      by_test : (t : Bool) → (tally (λ y. not (f y)) xs ≡ 0 → every f xs ≡ true) → counting (not t) (tally (λ y. not (f y)) xs) ≡ 0 → (t && every f xs) ≡ true
      by_test true r h = r h
      by_test false r h = absurd (omega arith)

  -- those that pass f pass g too, or fail it
  pub split_tally : (f g : A → Bool) (xs : List A) → tally f xs ≡ tally (λ x. f x && g x) xs + tally (λ x. f x && not (g x)) xs
  unfolding tally
  split_tally f g [] = refl
  split_tally f g (x ∷ xs) = by_test (f x) (g x) (split_tally f g xs)
    where
      by_test : (t u : Bool) → tally f xs ≡ tally (λ y. f y && g y) xs + tally (λ y. f y && not (g y)) xs
          → counting t (tally f xs) ≡ counting (t && u) (tally (λ y. f y && g y) xs) + counting (t && not u) (tally (λ y. f y && not (g y)) xs)
      by_test true true e = omega arith
      by_test true false e = omega arith
      by_test false u e = e

  -- where each passes one of two tests
  pub either_passes : (f g : A → Bool) (xs : List A) → every (λ x. f x || g x) xs ≡ true → length xs ≤ tally f xs + tally g xs
  unfolding tally every
  either_passes f g [] h = omega arith
  either_passes f g (x ∷ xs) h = by_test (f x) (g x) (either_passes f g xs) h
    where
      by_test : (t u : Bool) → (every (λ y. f y || g y) xs ≡ true → length xs ≤ tally f xs + tally g xs) → ((t || u) && every (λ y. f y || g y) xs) ≡ true
          → suc (length xs) ≤ counting t (tally f xs) + counting u (tally g xs)
      by_test true true r e = omega (arith, r e)
      by_test true false r e = omega (arith, r e)
      by_test false true r e = omega (arith, r e)
      by_test false false r e = absurd (false≢true e)

  -- two tests are passed by no more than the first
  pub both_fewer : (f g : A → Bool) (xs : List A) → tally (λ x. f x && g x) xs ≤ tally f xs
  unfolding tally
  both_fewer f g [] = omega arith
  both_fewer f g (x ∷ xs) = by_test (f x) (g x) (both_fewer f g xs)
    where
      by_test : (t u : Bool) → tally (λ y. f y && g y) xs ≤ tally f xs → counting (t && u) (tally (λ y. f y && g y) xs) ≤ counting t (tally f xs)
      by_test true true h = omega arith
      by_test true false h = omega arith
      by_test false u h = h

  -- where none passes g, all that pass f fail g
  pub none_of : (f g : A → Bool) (xs : List A) → tally g xs ≡ 0 → tally f xs ≡ tally (λ x. f x && not (g x)) xs
  unfolding tally
  none_of f g [] h = refl
  none_of f g (x ∷ xs) h = by_test (f x) (g x) (none_of f g xs) h
    where
      by_test : (t u : Bool) → (tally g xs ≡ 0 → tally f xs ≡ tally (λ y. f y && not (g y)) xs) → counting u (tally g xs) ≡ 0
          → counting t (tally f xs) ≡ counting (t && not u) (tally (λ y. f y && not (g y)) xs)
      by_test t true r e = absurd (omega arith)
      by_test true false r e = ap suc (r e)
      by_test false false r e = r e

  -- those only that pass g
  pub only_tally : (f g : A → Bool) (xs : List A) → tally f (only g xs) ≡ tally (λ x. f x && g x) xs
  unfolding tally only
  only_tally f g [] = refl
  only_tally f g (x ∷ xs) = by_test (g x) (f x) (only_tally f g xs) refl
    where
      by_test : (t u : Bool) → tally f (only g xs) ≡ tally (λ y. f y && g y) xs → f x ≡ u → tally f (cond t (x ∷ only g xs) (only g xs)) ≡ counting (u && t) (tally (λ y. f y && g y) xs)
      by_test true true r e = ap (λ v. counting v (tally f (only g xs))) e ∙ ap suc r
      by_test true false r e = ap (λ v. counting v (tally f (only g xs))) e ∙ r
      by_test false true r e = r
      by_test false false r e = r

-- ---- of the entries

pub inserted_tally : (f : Entry → Bool) (e : Entry) (es : List Entry) → tally f (inserted e es) ≡ tally f (e ∷ es)
unfolding tally inserted
inserted_tally f e [] = refl
inserted_tally f e (x ∷ es) = by_test (every (precedes e) (x ∷ es)) (inserted_tally f e es)
  where
    exchanged : (t u : Bool) (n : ℕ) → counting t (counting u n) ≡ counting u (counting t n)
    exchanged true true n = refl
    exchanged true false n = refl
    exchanged false true n = refl
    exchanged false false n = refl

    by_test : (t : Bool) → tally f (inserted e es) ≡ tally f (e ∷ es) → tally f (cond t (e ∷ x ∷ es) (x ∷ inserted e es)) ≡ tally f (e ∷ x ∷ es)
    by_test true r = refl
    by_test false r = ap (counting (f x)) r ∙ exchanged (f x) (f e) (tally f es)

pub inserted_length : (e : Entry) (es : List Entry) → length (inserted e es) ≡ suc (length es)
unfolding tally
inserted_length e es = sym (tally_all (inserted e es)) ∙ inserted_tally (λ x. true) e es ∙ ap suc (tally_all es)

pub withdrawn_tally : (f : Entry → Bool) (n : Key) (es : List Entry) → tally (is_keyed n) es ≤ 1 → tally f (withdrawn n es) ≡ tally (λ e. f e && not (is_keyed n e)) es
unfolding tally withdrawn
withdrawn_tally f n [] h = refl
withdrawn_tally f n (x ∷ es) h = by_test (is_keyed n x) (f x) (withdrawn_tally f n es) h refl
  where
    by_test : (t u : Bool) → (tally (is_keyed n) es ≤ 1 → tally f (withdrawn n es) ≡ tally (λ e. f e && not (is_keyed n e)) es) → counting t (tally (is_keyed n) es) ≤ 1 → f x ≡ u
        → tally f (cond t es (x ∷ withdrawn n es)) ≡ counting (u && not t) (tally (λ e. f e && not (is_keyed n e)) es)
    by_test true true r k e = none_of f (is_keyed n) es (omega arith)
    by_test true false r k e = none_of f (is_keyed n) es (omega arith)
    by_test false true r k e = ap (λ v. counting v (tally f (withdrawn n es))) e ∙ ap suc (r k)
    by_test false false r k e = ap (λ v. counting v (tally f (withdrawn n es))) e ∙ r k

pub withdrawn_fewer : (n : Key) (es : List Entry) → length (withdrawn n es) ≤ length es
unfolding withdrawn
withdrawn_fewer n [] = omega arith
withdrawn_fewer n (x ∷ es) = by_test (is_keyed n x) (withdrawn_fewer n es)
  where
    by_test : (t : Bool) → length (withdrawn n es) ≤ length es → length (cond t es (x ∷ withdrawn n es)) ≤ suc (length es)
    by_test true h = omega arith
    by_test false h = omega arith
