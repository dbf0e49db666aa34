-- Names and identifiers are inverse to each other. The identifier of a name with d digits, divided by 4 to the power of d, is the 2 or 3 of
-- its letter: so its depth is d, and its letter and its digits, from the first to the last, come back. The two calls are inverse too: what is written is at the
-- front of the lent list. Assumes nothing.
use Prim.Native.Nat.{ℕ, zero, suc, ◌+◌, ◌-◌, ◌*◌, ◌/◌, ◌%◌, ◌^◌, ◌≤◌, ◌<◌}
use native.Mathlib.Nat.{pow-suc, pow-succ', div-div-eq-div-mul, le-div_iff_mul-le, div-lt_iff_lt-mul, one-le-pow}
use native.Mathlib.Omega.{arith}
use mathlib.Core.Path.{◌≡◌, refl, sym, ap, ◌∙◌, subst}
use mathlib.Core.Bool.{true, cond, ◌&&◌}
use mathlib.Core.List.{List, [], ◌∷◌, ◌++◌}
use lib.Dec.{leb, eqb, lit<}
use lib.ListN.{length, take}
use borrow.Author.Tests.{leb-true, lt-ltb, le-leb, eqb-true}
use Rattle.algebra.proofs.Tests.{split, or_cases, and_left, and_right, and_both}
use Rattle.answer.specs.Answer.{gives, check, with_value, Name}
use Rattle.answer.specs.Lent.{put, stored}
use Rattle.answer.proofs.AnswerLaws.{refused_gives, check_passed, check_gives, same_value, value_gives, given_is}
use Rattle.answer.proofs.LentLaws.{room_gives, has_room, front}
use Rattle.mesh.specs.Identifiers.{identifier_at, depth_of, is_identifier}
use Rattle.mesh.specs.Names.{letter_s, letter_n, digit0, digits, letter, name_at, name_of, is_digit, are_digits, is_letter, is_name, with_digits, value_of, identifier_of}
use Rattle.mesh.specs.Answers.{name_into, name_answer, name_after, NamesOfCalls}
use Rattle.mesh.proofs.NameLaws.{depth_is, is_identifier_law, depth_low, depth_high, depth_found, next_power, last_power, name_back}

-- ---- from an identifier to its name, and back

name_then_identifier : (i : ℕ) (s : List ℕ) → name_of i ≡ gives s → identifier_of s ≡ gives i
unfolding name_of
name_then_identifier i s e =
    let t = check_passed Name (is_identifier i) (gives (name_at (depth_of i) i)) s e in
    let n = same_value (name_at (depth_of i) i) s (check_gives Name (is_identifier i) (gives (name_at (depth_of i) i)) s e) in
    subst (λ x. identifier_of x ≡ gives i) n (name_back (depth_of i) i (depth_low i t) (depth_high i) (depth_found i t))

-- ---- what stands before the digits comes back

-- a digit's value is 0 to 3
pub digit_small : (c : ℕ) → is_digit c ≡ true → (digit0 ≤ c) × (c - digit0 < 4)
digit_small c e =
    let l = leb-true digit0 c (and_left (leb digit0 c) (leb c (digit0 + 3)) e) in
    let h = leb-true c (digit0 + 3) (and_right (leb digit0 c) (leb c (digit0 + 3)) e) in
    (l, omega arith)

quotient_rest : (a k : ℕ) → k < 4 → ((4 * a + k) / 4 ≡ a) × ((4 * a + k) % 4 ≡ k)
quotient_rest a k h = (omega arith, omega arith)

pub before_digits : (a : ℕ) (cs : List ℕ) → are_digits cs ≡ true → with_digits a cs / 4 ^ length cs ≡ a
unfolding with_digits are_digits
before_digits a [] e = omega arith
before_digits a (c ∷ cs) e =
    let i = with_digits (4 * a + (c - digit0)) cs in
    let q : i / 4 ^ suc (length cs) ≡ i / 4 ^ length cs / 4 = ap (λ x. i / x) (pow-suc 4 (length cs)) ∙ sym (div-div-eq-div-mul i (4 ^ length cs) 4) in
    let h = before_digits (4 * a + (c - digit0)) cs (and_right (is_digit c) (are_digits cs) e) in
    q ∙ ap (λ x. x / 4) h ∙ (quotient_rest a (c - digit0) (digit_small c (and_left (is_digit c) (are_digits cs) e)).1).0

-- ---- the digits come back

-- the first of the last n + 1 digits
digits_first : (n i : ℕ) → digits (suc n) i ≡ (digit0 + i / 4 ^ n % 4) ∷ digits n i
unfolding digits
digits_first zero i = ap (λ x. (digit0 + x % 4) ∷ []) (omega arith)
digits_first (suc n) i =
    let q : i / 4 / 4 ^ n ≡ i / 4 ^ suc n = div-div-eq-div-mul i 4 (4 ^ n) ∙ ap (λ x. i / x) (sym (pow-succ' 4 n)) in
    ap (λ l. l ++ (digit0 + i % 4) ∷ []) (digits_first n (i / 4)) ∙ ap (λ x. (digit0 + x % 4) ∷ digits (suc n) i) q

digit_back : (c : ℕ) → digit0 ≤ c → digit0 + (c - digit0) ≡ c
digit_back c h = omega arith

pub digits_back : (a : ℕ) (cs : List ℕ) → are_digits cs ≡ true → digits (length cs) (with_digits a cs) ≡ cs
unfolding with_digits are_digits digits
digits_back a [] e = refl
digits_back a (c ∷ cs) e =
    let k = digit_small c (and_left (is_digit c) (are_digits cs) e) in
    let es = and_right (is_digit c) (are_digits cs) e in
    let i = with_digits (4 * a + (c - digit0)) cs in
    digits_first (length cs) i
    ∙ ap (λ x. (digit0 + x % 4) ∷ digits (length cs) i) (before_digits (4 * a + (c - digit0)) cs es)
    ∙ ap (λ x. (digit0 + x) ∷ digits (length cs) i) (quotient_rest a (c - digit0) k.1).1
    ∙ ap (λ x. x ∷ digits (length cs) i) (digit_back c k.0)
    ∙ ap (λ l. c ∷ l) (digits_back (4 * a + (c - digit0)) cs es)

-- ---- the letter comes back

letter_of_value : (c : ℕ) → is_letter c ≡ true → letter (cond (eqb c letter_s) 2 3) ≡ c
letter_of_value c e = or_cases (eqb c letter_s) (eqb c letter_n) e
    (λ t. subst (λ x. letter (cond (eqb x letter_s) 2 3) ≡ x) (sym (eqb-true c letter_s t)) refl)
    (λ t. subst (λ x. letter (cond (eqb x letter_s) 2 3) ≡ x) (sym (eqb-true c letter_n t)) refl)

pub letter_value_law : (c : ℕ) → (2 ≤ cond (eqb c letter_s) 2 3) × (cond (eqb c letter_s) 2 3 < 4)
letter_value_law c = split (eqb c letter_s) (λ t. rw t (omega arith)) (λ t. rw t (omega arith))

-- ---- the depth, and the name at that depth

pub identifier_at_law : (d i : ℕ) → 2 ≤ i / 4 ^ d → i / 4 ^ d < 4 → identifier_at d i ≡ true
identifier_at_law d i l h =
    let a = (le-div_iff_mul-le {x = 2} {y = i} (one-le-pow d 4 (lit< tt))).0 l in
    let b = (div-lt_iff_lt-mul {x = i} {y = 4} (one-le-pow d 4 (lit< tt))).0 h in
    and_both (le-leb (2 ^ (2 * d + 1)) i (omega (arith, next_power d))) (lt-ltb i (2 ^ (2 * d + 2)) (omega (arith, last_power d)))

pub name_at_law : (d i : ℕ) → 1 ≤ d → d ≤ 31 → identifier_at d i ≡ true → name_of i ≡ gives (name_at d i)
unfolding name_of
name_at_law d i l h e = ap (λ t. check Name t (gives (name_at (depth_of i) i))) (is_identifier_law d i l h e) ∙ ap (λ x. gives (name_at x i)) (depth_is d i h e)

-- ---- from a name to its identifier, and back

-- what a name is
pub record IsName (c : ℕ) (cs : List ℕ) : Type 0 where
  pub first : is_letter c ≡ true
  pub low : 1 ≤ length cs
  pub high : length cs ≤ 31
  pub rest : are_digits cs ≡ true

pub is_name_law : (c : ℕ) (cs : List ℕ) → is_name (c ∷ cs) ≡ true → IsName c cs
unfolding is_name
is_name_law c cs e =
    let b = and_left (is_letter c && (leb 1 (length cs) && leb (length cs) 31)) (are_digits cs) e in
    let n = and_right (is_letter c) (leb 1 (length cs) && leb (length cs) 31) b in
    record {
      first = and_left (is_letter c) (leb 1 (length cs) && leb (length cs) 31) b;
      low = leb-true 1 (length cs) (and_left (leb 1 (length cs)) (leb (length cs) 31) n);
      high = leb-true (length cs) 31 (and_right (leb 1 (length cs)) (leb (length cs) 31) n);
      rest = and_right (is_letter c && (leb 1 (length cs) && leb (length cs) 31)) (are_digits cs) e;
    }

name_of_value : (c : ℕ) (cs : List ℕ) → IsName c cs → name_of (value_of (c ∷ cs)) ≡ gives (c ∷ cs)
unfolding value_of
name_of_value c cs h =
    let a : ℕ = cond (eqb c letter_s) 2 3 in
    let i = with_digits a cs in
    let q : i / 4 ^ length cs ≡ a = before_digits a cs h.rest in
    let v = letter_value_law c in
    name_at_law (length cs) i h.low h.high (identifier_at_law (length cs) i (omega arith) (omega arith))
    ∙ ap (λ x. gives (letter x ∷ digits (length cs) i)) q
    ∙ ap (λ x. gives (x ∷ digits (length cs) i)) (letter_of_value c h.first)
    ∙ ap (λ l. gives (c ∷ l)) (digits_back a cs h.rest)

identifier_then_name : (s : List ℕ) (i : ℕ) → identifier_of s ≡ gives i → name_of i ≡ gives s
unfolding identifier_of is_name
identifier_then_name [] i e = refused_gives Name i e
identifier_then_name (c ∷ cs) i e =
    let t = check_passed Name (is_name (c ∷ cs)) (gives (value_of (c ∷ cs))) i e in
    let v = same_value (value_of (c ∷ cs)) i (check_gives Name (is_name (c ∷ cs)) (gives (value_of (c ∷ cs))) i e) in
    subst (λ x. name_of x ≡ gives (c ∷ cs)) v (name_of_value c cs (is_name_law c cs t))

pub names_inverse : (i : ℕ) (s : List ℕ) → (name_of i ≡ gives s → identifier_of s ≡ gives i) × (identifier_of s ≡ gives i → name_of i ≡ gives s)
names_inverse i s = (name_then_identifier i s, identifier_then_name s i)

-- ---- the calls

pub names_of_calls : NamesOfCalls
unfolding name_answer name_after
names_of_calls = record {
  read_back = λ i n before after e left r k.
      let w = value_gives length (name_into i before) n (sym e) in
      let s : take n after ≡ w.0 = ap (take n) (left ∙ ap (λ a. stored (put 0) a before) w.1) ∙ front before w.0 n w.2 in
      given_is r i (k ∙ ap identifier_of s ∙ (names_inverse i w.0).0 (room_gives before length (name_of i) w.0 w.1));
  written_back = λ i s before after e l r k left.
      let w : name_into i before ≡ gives s = has_room before length (name_of i) s ((names_inverse i s).1 (sym e)) l in
      (given_is r (length s) (k ∙ ap (with_value length) w), left ∙ ap (λ a. stored (put 0) a before) w);
}
