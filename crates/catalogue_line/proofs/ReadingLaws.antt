-- A line is read from its beginning, decimal by decimal: each part takes what it needs and hands on the bytes after it. The number of the digits read so
-- far, with those that are left after it, is the number of all of them. Assumes nothing.
use Prim.Native.Nat.{ℕ, zero, suc, ◌+◌, ◌-◌, ◌*◌, ◌/◌, ◌^◌, ◌≤◌, ◌<◌}
use native.Mathlib.Nat.{pow-succ', one-le-pow, mul_assoc, add-mul, add_assoc, le-mul_of_pos_right, le_trans}
use native.Mathlib.Omega.{arith}
use mathlib.Core.Path.{◌≡◌, refl, sym, ap, ◌∙◌, subst}
use mathlib.Core.Bool.{Bool, true, false, true≢false}
use mathlib.Core.List.{List, [], ◌∷◌}
use lib.Dec.{leb, lit<}
use lib.IntN.{ℤ}
use lib.ListN.{length, take, drop, get_or, length-drop}
use borrow.Author.Tests.{leb-true, le-leb, lt-leb, eq-eqb, ne_eqb}
use Rattle.algebra.proofs.Tests.{and_left, and_right, and_no_right}
use Rattle.std.proofs.lemmas.List.{take_all}
use Rattle.answer.specs.Answer as answer
use Rattle.answer.specs.Answer.{Answer, refused, gives, check, then, with_value}
use Rattle.vector.specs.declared.Vec3.{Vec3}
use Rattle.vector.specs.Numbers.{Kℕ, signed}
use Rattle.vector.specs.Vectors.{vec}
use Rattle.catalogue_line.specs.Lines.{digit0, point, minus, blank, number, value, Line, Found, is_digit_to, digits_in, unsigned_in, decimal_in, next_in, is_end, decimals_in, pointing_in}
use Rattle.catalogue_line.proofs.LinesInverse.{no_digits}
use Rattle.catalogue_line.specs.declared.Fraction.{Fraction}
use Rattle.catalogue_line.specs.Reading.{Valued, valued_of, valued, Reads}

-- ---- a byte

pub past : (l : List ℕ) (k : ℕ) → length l ≤ k → get_or l k 0 ≡ 0
past [] k h = refl
past (b ∷ l) zero h = absurd (omega arith)
past (b ∷ l) (suc k) h = past l k (omega arith)

pub digit_bounds : (n b : ℕ) → is_digit_to n b ≡ true → (digit0 ≤ b) × (b ≤ digit0 + n)
digit_bounds n b e = (leb-true digit0 b (and_left (leb digit0 b) (leb b (digit0 + n)) e), leb-true b (digit0 + n) (and_right (leb digit0 b) (leb b (digit0 + n)) e))

pub is_digit_low : (n b : ℕ) → b < digit0 → is_digit_to n b ≡ false
is_digit_low n b h = rw (lt-leb digit0 b h) refl

pub is_digit_high : (n b : ℕ) → digit0 + n < b → is_digit_to n b ≡ false
is_digit_high n b h = rw (le-leb digit0 b (omega arith), lt-leb b (digit0 + n) h) refl

pub is_digit_there : (n b : ℕ) → digit0 ≤ b → b ≤ digit0 + n → is_digit_to n b ≡ true
is_digit_there n b l h = rw (le-leb digit0 b l, le-leb b (digit0 + n) h) refl

-- ---- digits

-- number and power of ten of the digits read so far, the bytes after them, and how many digits may still follow
pub record Reading (w : ℕ) (s : List ℕ) (n p : ℕ) (t : List ℕ) (left : ℕ) : Type 0 where
  pub digits : n * 10 ^ length (digits_in left t) + number (digits_in left t) ≡ w * 10 ^ length (digits_in 7 s) + number (digits_in 7 s)
  pub power : p * 10 ^ length (digits_in left t) ≡ 10 ^ length (digits_in 7 s)
  pub rest : drop (length (digits_in left t)) t ≡ drop (length (digits_in 7 s)) s
  pub most : p * 10 ^ left ≤ 10 ^ 7
  pub some : 1 ≤ p
  pub size : n < 2 * p

module _ (w : ℕ) (s : List ℕ) (n p : ℕ) (t : List ℕ) (left : ℕ) (r : Reading w s n p t left) where
  pub power_small : p ≤ 10 ^ 7
  power_small = le_trans (le-mul_of_pos_right p (one-le-pow left 10 (lit< tt))) r.most

  -- no digit is left
  pub all_read : digits_in left t ≡ [] → (f : Fraction) → f.number ≡ n → f.power ≡ p → f.rest.now ≡ t → Reads w s f
  unfolding number
  all_read e f en ep et = record {
    number = omega (arith, rw e at r.digits, en);
    power = omega (arith, rw e at r.power, ep);
    rest = et ∙ rw e at r.rest;
    small = omega (arith, power_small, r.size, en);
    some = omega (arith, r.some, ep);
  }

pub no_digits_left : (t : List ℕ) (left : ℕ) → left ≤ 0 → digits_in left t ≡ []
unfolding digits_in
no_digits_left t zero h = refl
no_digits_left t (suc left) h = absurd (omega arith)

-- the next digit d goes from the m that is left to the number n
shifted : (n d x m : ℕ) → n * (10 * x) + (d * x + m) ≡ (n * 10 + d) * x + m
shifted n d x m = ap (λ y. y + (d * x + m)) (sym (mul_assoc n 10 x)) ∙ sym (add_assoc (n * 10 * x) (d * x) m) ∙ ap (λ y. y + m) (sym (add-mul (n * 10) d x))

module _ (w : ℕ) (s : List ℕ) (n p b : ℕ) (t : List ℕ) where
  digit_more : (left : ℕ) → Reading w s n p (b ∷ t) (suc left) → is_digit_to 9 b ≡ true → Reading w s (n * 10 + (b - digit0)) (p * 10) t left
  unfolding number digits_in
  digit_more left r e =
      let d = b - digit0 in
      let rest = digits_in left t in
      let x = 10 ^ length rest in
      let u : digits_in (suc left) (b ∷ t) ≡ d ∷ rest = simp e in
      let ten : 10 ^ suc (length rest) ≡ 10 * x = pow-succ' 10 (length rest) in
      let k = digit_bounds 9 b e in
      let v : drop (suc (length rest)) (b ∷ t) ≡ drop (length (digits_in 7 s)) s = ap (λ y. drop (length y) (b ∷ t)) (sym u) ∙ r.rest in
      record {
        digits = sym (shifted n d x (number rest)) ∙ ap (λ y. n * y + (d * x + number rest)) (sym ten) ∙ ap (λ y. n * 10 ^ length y + number y) (sym u) ∙ r.digits;
        power = mul_assoc p 10 x ∙ ap (λ y. p * y) (sym ten) ∙ ap (λ y. p * 10 ^ length y) (sym u) ∙ r.power;
        rest = v;
        most = subst (λ y. y ≤ 10 ^ 7) (ap (λ y. p * y) (pow-succ' 10 left) ∙ sym (mul_assoc p 10 (10 ^ left))) r.most;
        some = omega (arith, r.some);
        size = omega (arith, r.size, k.0, k.1);
      }

-- the first byte is a digit, and the others are left
pub one_more : (w : ℕ) (s : List ℕ) (n p : ℕ) (t : List ℕ) (left rest : ℕ) → left ≡ rest + 1 → Reading w s n p t left → is_digit_to 9 (get_or t 0 0) ≡ true
    → Reading w s (n * 10 + (get_or t 0 0 - digit0)) (p * 10) (take (length t - 1) (drop 1 t)) rest
one_more w s n p [] left rest h r e = absurd (true≢false (sym e))
one_more w s n p (b ∷ t) left rest h r e =
    let m : left ≡ suc rest = omega arith in
    let all : t ≡ take (length (b ∷ t) - 1) t = sym (take_all (length (b ∷ t) - 1) t (omega arith)) in
    subst (λ u. Reading w s (n * 10 + (b - digit0)) (p * 10) u rest) all (digit_more w s n p b t rest (subst (Reading w s n p (b ∷ t)) m r) e)

-- ---- a decimal, by the bytes at its beginning

-- what a pattern leaves after its first k bytes
pub tail_is : (k : ℕ) (s : List ℕ) → take (length s - k) (drop k s) ≡ drop k s
tail_is k s = take_all (length s - k) (drop k s) (omega (arith, length-drop k s))

no_first_digit : (t : List ℕ) → is_digit_to 9 (get_or t 0 0) ≡ false → length (digits_in 7 t) ≡ 0
no_first_digit t e = ap length (no_digits 7 t e)

first_digit : (t : List ℕ) → is_digit_to 9 (get_or t 0 0) ≡ true → 0 < length (digits_in 7 t)
unfolding digits_in
first_digit [] e = absurd (true≢false (sym e))
first_digit (b ∷ t) e = rw e (omega arith)

module _ (g : Bool) where
  not_whole : (s : List ℕ) → is_digit_to 1 (get_or s 0 0) ≡ false → unsigned_in g s ≡ refused answer.Line
  unfolding unsigned_in
  not_whole [] e = refl
  not_whole (b ∷ []) e = refl
  not_whole (b ∷ p ∷ s) e = simp e

  not_point : (s : List ℕ) → (get_or s 1 0 ≡ point → ⊥) → unsigned_in g s ≡ refused answer.Line
  unfolding unsigned_in
  not_point [] n = refl
  not_point (b ∷ []) n = refl
  not_point (b ∷ p ∷ s) n = simp (ne_eqb p point n, and_no_right (is_digit_to 1 b) {b = false} refl)

  -- the decimal with the whole part w and the digits at the beginning of s, if there are some
  abbrev with_digits : ℕ → List ℕ → Answer Found
  with_digits w s =
      let ds = digits_in 7 s in
      check answer.Line (leb 1 (length ds)) (gives (record { decimal = record { negative = g; whole = w; digits = ds }; rest = drop (length ds) s }))

  by_digits : (s : List ℕ) → is_digit_to 1 (get_or s 0 0) ≡ true → get_or s 1 0 ≡ point → unsigned_in g s ≡ with_digits (get_or s 0 0 - digit0) (drop 2 s)
  unfolding unsigned_in
  by_digits [] e q = absurd (omega arith)
  by_digits (b ∷ []) e q = absurd (omega arith)
  by_digits (b ∷ p ∷ s) e q = simp (e, eq-eqb p point q)

  module _ (s : List ℕ) where
    pub no_whole : is_digit_to 1 (get_or s 0 0) ≡ false → refused answer.Line ≡ valued (unsigned_in g s)
    no_whole e = ap valued (sym (not_whole s e))

    pub no_point : (get_or s 1 0 ≡ point → ⊥) → refused answer.Line ≡ valued (unsigned_in g s)
    no_point n = ap valued (sym (not_point s n))

    module _ (bit : is_digit_to 1 (get_or s 0 0) ≡ true) (dot : get_or s 1 0 ≡ point) where
      pub no_digit : is_digit_to 9 (get_or (take (length s - 2) (drop 2 s)) 0 0) ≡ false → refused answer.Line ≡ valued (unsigned_in g s)
      no_digit e =
          let z : length (digits_in 7 (drop 2 s)) ≡ 0 = no_first_digit (drop 2 s) (rw tail_is at e) in
          rw (by_digits s bit dot, z) refl

      pub decimal_there : is_digit_to 9 (get_or (take (length s - 2) (drop 2 s)) 0 0) ≡ true
          → (r : Fraction) → Reads (get_or s 0 0 - digit0) (take (length s - 2) (drop 2 s)) r
          → {v : ℤ} → v ≡ signed g (r.number * Kℕ / r.power)
          → gives (record { value = v; rest = r.rest.now }) ≡ valued (unsigned_in g s)
      unfolding value
      decimal_there e r reads c =
          let h : Reads (get_or s 0 0 - digit0) (drop 2 s) r = subst (λ t. Reads (get_or s 0 0 - digit0) t r) (tail_is 2 s) reads in
          let z : 0 < length (digits_in 7 (drop 2 s)) = first_digit (drop 2 s) (subst (λ t. is_digit_to 9 (get_or t 0 0) ≡ true) (tail_is 2 s) e) in
          rw (by_digits s bit dot, le-leb 1 (length (digits_in 7 (drop 2 s))) z, c, h.rest, h.number, h.power) refl

-- ---- a minus, a blank

pub minus_there : (s : List ℕ) → get_or s 0 0 ≡ minus → unsigned_in true (take (length s - 1) (drop 1 s)) ≡ decimal_in s
unfolding decimal_in
minus_there [] e = absurd (omega arith)
minus_there (b ∷ s) e = ap (unsigned_in true) (tail_is 1 (b ∷ s)) ∙ sym (simp (eq-eqb b minus e))

pub no_minus_there : (s : List ℕ) → (get_or s 0 0 ≡ minus → ⊥) → unsigned_in false s ≡ decimal_in s
unfolding decimal_in unsigned_in
no_minus_there [] n = refl
no_minus_there (b ∷ s) n = sym (simp (ne_eqb b minus n))

pub blank_there : (s : List ℕ) → get_or s 0 0 ≡ blank → decimal_in (take (length s - 1) (drop 1 s)) ≡ next_in s
unfolding next_in
blank_there [] e = absurd (omega arith)
blank_there (b ∷ s) e = ap decimal_in (tail_is 1 (b ∷ s)) ∙ sym (simp (eq-eqb b blank e))

pub no_blank_there : (s : List ℕ) → (get_or s 0 0 ≡ blank → ⊥) → refused answer.Line ≡ next_in s
unfolding next_in
no_blank_there [] n = refl
no_blank_there (b ∷ s) n = sym (simp (ne_eqb b blank n))

-- ---- the line, by the values of its decimals

-- what follows a decimal needs its value only
module _ {B C : Type 0} (h : B → C) where
  step : (a : Answer Found) (f : Found → Answer B) (g : Valued → Answer C) → ((x : Found) → with_value h (f x) ≡ g (valued_of x)) → with_value h (then a f) ≡ then (valued a) g
  step (refused n) f g p = refl
  step (gives x) f g p = p x

  last : (n : ℕ) (t : Bool) (x : B) → with_value h (check n t (gives x)) ≡ check n t (gives (h x))
  last n true x = refl
  last n false x = refl

abbrev pub after_z : ℤ → ℤ → Answer Valued → Answer Vec3
after_z x y r = then r (λ z. check answer.Line (is_end z.rest) (gives (vec x y z.value)))

abbrev pub after_y : ℤ → Answer Valued → Answer Vec3
after_y x r = then r (λ y. after_z x y.value (valued (next_in y.rest)))

abbrev pub after_x : Answer Valued → Answer Vec3
after_x r = then r (λ x. after_y x.value (valued (next_in x.rest)))

pub by_values : (l : List ℕ) → pointing_in l ≡ after_x (valued (decimal_in l))
unfolding pointing_in decimals_in
by_values l =
    let v : Line → Vec3 = λ t. vec (value t.x) (value t.y) (value t.z) in
    step v (decimal_in l) _ _ (λ x. step v (next_in x.rest) _ _ (λ y. step v (next_in y.rest) _ _ (λ z. last v answer.Line (is_end z.rest) _)))

-- by what was read so far
module _ (l : List ℕ) where
  pub refused_x : refused answer.Line ≡ valued (decimal_in l) → refused answer.Line ≡ pointing_in l
  refused_x e = sym (by_values l ∙ ap after_x (sym e))

  module _ {x : Valued} (ex : gives x ≡ valued (decimal_in l)) where
    pub read_x : pointing_in l ≡ after_y x.value (valued (next_in x.rest))
    read_x = by_values l ∙ ap after_x (sym ex)

    pub refused_y : refused answer.Line ≡ valued (next_in x.rest) → refused answer.Line ≡ pointing_in l
    refused_y e = sym (read_x ∙ ap (after_y x.value) (sym e))

    module _ {y : Valued} (ey : gives y ≡ valued (next_in x.rest)) where
      pub read_y : pointing_in l ≡ after_z x.value y.value (valued (next_in y.rest))
      read_y = read_x ∙ ap (after_y x.value) (sym ey)

      pub refused_z : refused answer.Line ≡ valued (next_in y.rest) → refused answer.Line ≡ pointing_in l
      refused_z e = sym (read_y ∙ ap (after_z x.value y.value) (sym e))

      pub read_z : {z : Valued} → gives z ≡ valued (next_in y.rest) → pointing_in l ≡ check answer.Line (is_end z.rest) (gives (vec x.value y.value z.value))
      read_z ez = read_y ∙ ap (after_z x.value y.value) (sym ez)
