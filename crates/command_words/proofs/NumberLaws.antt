-- Laws of the numbers in digits: what the next digit does to a number that is being read, and that a number that was read is at most the
-- bound. A number never falls as digits follow it, so one that has passed the bound stays none. Assumes nothing.
use Prim.Native.Nat.{ℕ, suc, ◌+◌, ◌-◌, ◌*◌, ◌≤◌, ◌<◌}
use native.Mathlib.Omega.{arith}
use native.Mathlib.Numerals.{add-one}
use native.Mathlib.Nat.{le_trans, le_refl}
use mathlib.Core.Path.{◌≡◌, refl, sym, ap, ◌∙◌}
use mathlib.Core.Bool.{Bool, true, false, ◌&&◌}
use mathlib.Core.List.{List, [], ◌∷◌}
use borrow.Author.Tests.{leb-true, leb-false, lt-leb, le-leb}
use lib.Dec.{leb}
use lib.ListN.{length, get_or, drop}
use lib.Seq.{drop-cons, drop-length}
use Rattle.std.specs.Prelude.{Option, Some, None}
use Rattle.std.specs.Bool.{then_some}
use Rattle.std.specs.Int.{IsInRange, IsOutOfRange}
use Rattle.std.proofs.lemmas.Bool.Decides.{nat_tests}
use Rattle.command_words.specs.Numbers.{is_digit, digits, value_from, provided, natural_from, UpTo}

-- a number never falls
grows : (n : ℕ) (w : List ℕ) → n ≤ value_from n w
unfolding value_from
grows n [] = le_refl n
grows n (b ∷ w) = le_trans (omega arith) (grows (n * 10 + (b - 48)) w)

pub and_false : (a : Bool) → a && false ≡ false
and_false true = refl
and_false false = refl

-- what is read after a first digit, by what the first digit gave
abbrev after : Option ℕ → (ℕ → Option ℕ) → Option ℕ
after (Some n) f = f n
after None f = None

module _ (m n b : ℕ) (w : List ℕ) where
  step_by : (d t : Bool) → is_digit b ≡ d → leb (n * 10 + (b - 48)) m ≡ t
      → provided ((d && digits w) && leb (value_from (n * 10 + (b - 48)) w) m) (value_from (n * 10 + (b - 48)) w)
      ≡ after (provided ((d && true) && t) (n * 10 + (b - 48))) (λ k. natural_from m k w)
  step_by false t p q = refl
  step_by true true p q = refl
  step_by true false p q =
      let past : m < value_from (n * 10 + (b - 48)) w = omega (arith, leb-false (n * 10 + (b - 48)) m q, grows (n * 10 + (b - 48)) w) in
      simp (lt-leb _ _ past, and_false)

  step : natural_from m n (b ∷ w) ≡ after (natural_from m n (b ∷ [])) (λ k. natural_from m k w)
  unfolding digits value_from
  step = step_by (is_digit b) (leb (n * 10 + (b - 48)) m) refl refl

module _ (m n : ℕ) (w : List ℕ) (i : ℕ) (here : i < length w) where
  at : natural_from m n (drop i w) ≡ after (natural_from m n (get_or w i 0 ∷ [])) (λ k. natural_from m k (drop (i + 1) w))
  at = rw (add-one, drop-cons w i 0) (step m n (get_or w i 0) (drop (suc i) w))

  -- the next digit
  pub goes_on : {k : ℕ} → Some k ≡ natural_from m n (get_or w i 0 ∷ []) → natural_from m n (drop i w) ≡ natural_from m k (drop (i + 1) w)
  goes_on e = at ∙ ap (λ r. after r (λ k. natural_from m k (drop (i + 1) w))) (sym e)

  pub stops : None ≡ natural_from m n (get_or w i 0 ∷ []) → natural_from m n (drop i w) ≡ None
  stops e = at ∙ ap (λ r. after r (λ k. natural_from m k (drop (i + 1) w))) (sym e)

-- no digit is left
pub ends : (m n : ℕ) (w : List ℕ) {i : ℕ} → i ≡ length w → n ≤ m → Some n ≡ natural_from m n (drop i w)
unfolding digits value_from
ends m n w e h = simp (e, drop-length w, le-leb n m h)

some_provided : (t : Bool) (v : ℕ) → then_some t v ≡ provided t v
some_provided true v = refl
some_provided false v = refl

-- one digit more
module _ (m n b : ℕ) where
  pub no_digit : IsOutOfRange 48 57 b → None ≡ natural_from m n (b ∷ [])
  unfolding digits value_from
  no_digit h = grind (arith, nat_tests)

  module _ (digit : IsInRange 48 57 b) where
    pub past : m < n * 10 + (b - 48) → None ≡ natural_from m n (b ∷ [])
    unfolding digits value_from
    past h = simp (lt-leb _ _ h, and_false)

    -- a number with one digit more, where it keeps to the bound
    pub fits : {k : ℕ} → k ≡ n * 10 + (b - 48) → then_some (leb k m) k ≡ natural_from m n (b ∷ [])
    unfolding digits value_from
    fits e =
        let low : 48 ≤ b = omega (arith, digit) in
        let high : b ≤ 57 = omega (arith, digit) in
        ap (λ (v : ℕ). then_some (leb v m) v) e
        ∙ simp (le-leb _ _ low, le-leb _ _ high) (some_provided (leb (n * 10 + (b - 48)) m) (n * 10 + (b - 48)))

-- what was read is at most the bound
provided_most : (m v : ℕ) (a t : Bool) → leb v m ≡ t → UpTo m (provided (a && t) v)
provided_most m v true true p = leb-true v m p
provided_most m v true false p = tt
provided_most m v false t p = tt

pub up_to_from : (m n : ℕ) (w : List ℕ) → UpTo m (natural_from m n w)
up_to_from m n w = provided_most m (value_from n w) (digits w) (leb (value_from n w) m) refl
