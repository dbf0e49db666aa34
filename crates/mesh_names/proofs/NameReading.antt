-- A name read from its letter on. The digits are tested one by one; the identifier so far, with the digits that are left after it, is the name's
-- value, and is below 4 to the power of the bytes read. Assumes nothing.
use Prim.Native.Nat.{ℕ, suc, ◌+◌, ◌-◌, ◌*◌, ◌^◌, ◌≤◌, ◌<◌}
use native.Mathlib.Nat.{pow-succ', pow-le-pow_right}
use native.Mathlib.Numerals.{add-one, unary_clauses}
use native.Mathlib.Omega.{arith}
use mathlib.Core.Path.{◌≡◌, refl, sym, ap, ◌∙◌}
use mathlib.Core.Bool.{true, false, cond, ◌&&◌, false≢true}
use mathlib.Core.List.{List, [], ◌∷◌}
use lib.Dec.{leb, eqb, lit<}
use lib.ListN.{length, get_or, drop, take, drop_of_length-le, length-drop}
use Rattle.std.proofs.Common.{get_or-drop}
use lib.Seq.{drop-cons}
use borrow.Author.Tests.{le-leb, lt-leb}
use Rattle.algebra.proofs.Tests.{and_left, and_right, and_no_right}
use Rattle.mesh.specs.Names.{letter_s, digit0, is_digit, are_digits, is_letter, is_name, with_digits, value_of}
use Rattle.mesh.proofs.NamesInverse.{is_name_law, digit_small, letter_value_law}

-- ---- the bytes after the letter

all_taken : (s : List ℕ) → take (length s) s ≡ s
all_taken [] = refl
all_taken (c ∷ cs) = ap (λ t. c ∷ t) (all_taken cs)

pub after_letter : (s : List ℕ) → take (length s - 1) (drop 1 s) ≡ drop 1 s
after_letter [] = refl
after_letter (c ∷ cs) = simp unary_clauses (all_taken cs)

pub after_letter_at : (s : List ℕ) (k : ℕ) → get_or (take (length s - 1) (drop 1 s)) k 0 ≡ get_or s (k + 1) 0
after_letter_at s k = ap (λ t. get_or t k 0) (after_letter s) ∙ get_or-drop 1 s k 0 ∙ ap (λ i. get_or s i 0) (omega arith)

pub after_letter_length : (s : List ℕ) → length (take (length s - 1) (drop 1 s)) ≡ length s - 1
after_letter_length s = ap length (after_letter s) ∙ length-drop 1 s

-- ---- the tests

-- the digits from byte i on
module _ (s : List ℕ) (i : ℕ) where
  digit_left : i < length s → drop i s ≡ get_or s i 0 ∷ drop (i + 1) s
  digit_left h = rw (add-one, drop-cons s i 0)

  digits_at : i < length s → are_digits (drop i s) ≡ is_digit (get_or s i 0) && are_digits (drop (i + 1) s)
  unfolding are_digits
  digits_at h = ap are_digits (digit_left h)

pub too_short : (s : List ℕ) → length s < 2 → is_name s ≡ false
unfolding is_name
too_short [] h = refl
too_short (c ∷ cs) h = simp (lt-leb 1 (length cs) (omega arith), and_no_right (is_letter c) {b = false} refl)

pub too_long : (s : List ℕ) → 32 < length s → is_name s ≡ false
unfolding is_name
too_long [] h = refl
too_long (c ∷ cs) h = simp (lt-leb (length cs) 31 (omega arith), and_no_right (leb 1 (length cs)) {b = false} refl, and_no_right (is_letter c) {b = false} refl)

pub no_letter : (s : List ℕ) → is_letter (get_or s 0 0) ≡ false → is_name s ≡ false
unfolding is_name
no_letter [] e = refl
no_letter (c ∷ cs) e = simp e

pub letter_then_digits : (s : List ℕ) → 2 ≤ length s → length s ≤ 32 → is_letter (get_or s 0 0) ≡ true → is_name s ≡ are_digits (drop 1 s)
unfolding is_name
letter_then_digits [] l h e = absurd (omega arith)
letter_then_digits (c ∷ cs) l h e = simp (e, le-leb 1 (length cs) (omega arith), le-leb (length cs) 31 (omega arith))

-- ---- the value

-- a is the identifier of the first i bytes of the name s
pub record Read (s : List ℕ) (a i : ℕ) : Type 0 where
  pub short : length s ≤ 32
  pub small : a < 4 ^ i
  pub left : are_digits (drop i s) ≡ true
  pub value : with_digits a (drop i s) ≡ value_of s

pub name_length : (s : List ℕ) → is_name s ≡ true → 0 < length s
unfolding is_name
name_length [] e = absurd (false≢true e)
name_length (c ∷ cs) e = omega arith

pub read_letter : (s : List ℕ) → is_name s ≡ true → Read s (cond (eqb (get_or s 0 0) letter_s) 2 3) 1
unfolding is_name value_of
read_letter [] e = absurd (false≢true e)
read_letter (c ∷ cs) e =
    let n = is_name_law c cs e in
    record { short = omega arith; small = (letter_value_law c).1; left = n.rest; value = refl }

module _ (s : List ℕ) (a i : ℕ) (r : Read s a i) where
  pub next_digit : i < length s → (digit0 ≤ get_or s i 0) × (get_or s i 0 - digit0 < 4)
  next_digit h = digit_small (get_or s i 0) (and_left (is_digit (get_or s i 0)) (are_digits (drop (i + 1) s)) (sym (digits_at s i h) ∙ r.left))

  pub next_fits : i < length s → 4 * a + (get_or s i 0 - digit0) < 2 ^ 64
  next_fits h =
      let p : 4 ^ suc i ≤ 4 ^ 32 = pow-le-pow_right {n = 4} (lit< tt) {i = suc i} {j = 32} (omega arith) in
      omega (arith, next_digit h, pow-succ' 4 i)

  pub read_digit : i < length s → Read s (4 * a + (get_or s i 0 - digit0)) (i + 1)
  unfolding with_digits
  read_digit h = record {
    short = r.short;
    small = rw add-one (omega (arith, next_digit h, pow-succ' 4 i));
    left = and_right (is_digit (get_or s i 0)) (are_digits (drop (i + 1) s)) (sym (digits_at s i h) ∙ r.left);
    value = sym (ap (with_digits a) (digit_left s i h)) ∙ r.value;
  }

  pub read_all : length s ≤ i → a ≡ value_of s
  unfolding with_digits
  read_all h = sym (ap (with_digits a) (drop_of_length-le s h)) ∙ r.value
