-- An identifier has one depth, by its highest bit, and its name leads back to it. Assumes nothing.
use Prim.Native.Nat.{ℕ, zero, suc, ◌+◌, ◌-◌, ◌*◌, ◌/◌, ◌%◌, ◌^◌, ◌≤◌, ◌<◌}
use native.Mathlib.Nat.{pow-le-pow_right, pow-suc, pow-succ', div-div-eq-div-mul, le-div_iff_mul-le, div-lt_iff_lt-mul, one-le-pow}
use native.Mathlib.Omega.{arith}
use mathlib.Core.Path.{◌≡◌, refl, sym, ap, ◌∙◌, subst}
use mathlib.Core.Bool.{true, false, cond, ◌&&◌}
use mathlib.Core.List.{List, [], ◌∷◌, ◌++◌}
use lib.Dec.{leb, ltb, eqb, lit<}
use native.Mathlib.Numerals.{add-one}
use lib.ListN.{length, length-append}
use borrow.Author.Tests.{leb-true, leb-false, ltb-true, lt-ltb, le-ltb, lt-leb, le-leb, eqb-true, eqb-false}
use Rattle.algebra.specs.Lists.{some, numbers_from}
use Rattle.algebra.proofs.Tests.{split, and_left, and_right, and_both, and_no_left, and_no_right}
use Rattle.vector.proofs.GreatestLaws.{greatest_is, greatest_most, greatest_found}
use Rattle.answer.specs.Answer.{gives, check, Name}
use Rattle.mesh.specs.Identifiers.{identifier_at, identifiers_at, depth_of, is_identifier}
use Rattle.mesh.specs.Names.{letter_s, digit0, digits, letter, name_at, is_digit, are_digits, is_letter, is_name, with_digits, value_of, identifier_of}

-- ---- the depth

pub at_low : (d i : ℕ) → identifier_at d i ≡ true → 2 ^ (2 * d + 1) ≤ i
at_low d i e = leb-true (2 ^ (2 * d + 1)) i (and_left (leb (2 ^ (2 * d + 1)) i) (ltb i (2 ^ (2 * d + 2))) e)

pub at_high : (d i : ℕ) → identifier_at d i ≡ true → i < 2 ^ (2 * d + 2)
at_high d i e = ltb-true i (2 ^ (2 * d + 2)) (and_right (leb (2 ^ (2 * d + 1)) i) (ltb i (2 ^ (2 * d + 2))) e)

-- an identifier has one depth
pub depth_is : (d i : ℕ) → d ≤ 31 → identifier_at d i ≡ true → depth_of i ≡ d
unfolding depth_of
depth_is d i h e = greatest_is (λ k. identifier_at k i) 31 d h e above
  where
    above : (k : ℕ) → d < k → k ≤ 31 → identifier_at k i ≡ false
    above k l u =
        let p : 2 ^ (2 * d + 2) ≤ 2 ^ (2 * k + 1) = pow-le-pow_right {n = 2} (lit< tt) {i = 2 * d + 2} {j = 2 * k + 1} (omega arith) in
        and_no_left (ltb i (2 ^ (2 * k + 2))) (lt-leb (2 ^ (2 * k + 1)) i (omega (arith, at_high d i e)))

pub is_identifier_law : (d i : ℕ) → 1 ≤ d → d ≤ 31 → identifier_at d i ≡ true → is_identifier i ≡ true
is_identifier_law d i l h e = lt-ltb 0 (depth_of i) (omega (arith, depth_is d i h e))

-- the depth of an identifier is 1 to 31, and the identifier is of that depth
pub depth_low : (i : ℕ) → is_identifier i ≡ true → 1 ≤ depth_of i
depth_low i e = ltb-true 0 (depth_of i) e

pub depth_high : (i : ℕ) → depth_of i ≤ 31
unfolding depth_of
depth_high i = greatest_most (λ d. identifier_at d i) 31

pub depth_found : (i : ℕ) → is_identifier i ≡ true → identifier_at (depth_of i) i ≡ true
unfolding depth_of
depth_found i e = greatest_found (λ d. identifier_at d i) 31 (depth_low i e)

-- ---- the digits lead back

last_digit : (a : ℕ) (cs : List ℕ) (c : ℕ) → with_digits a (cs ++ c ∷ []) ≡ 4 * with_digits a cs + (c - digit0)
unfolding with_digits
last_digit a [] c = refl
last_digit a (b ∷ cs) c = last_digit (4 * a + (b - digit0)) cs c

pub digits_lead_back : (n i : ℕ) → with_digits (i / 4 ^ n) (digits n i) ≡ i
unfolding with_digits digits
digits_lead_back zero i = omega arith
digits_lead_back (suc n) i =
    let q : i / 4 ^ suc n ≡ i / 4 / 4 ^ n = ap (λ x. i / x) (pow-succ' 4 n) ∙ sym (div-div-eq-div-mul i 4 (4 ^ n)) in
    let h : with_digits (i / 4 ^ suc n) (digits n (i / 4)) ≡ i / 4 = ap (λ x. with_digits x (digits n (i / 4))) q ∙ digits_lead_back n (i / 4) in
    let s = last_digit (i / 4 ^ suc n) (digits n (i / 4)) (digit0 + i % 4) in
    omega arith

-- ---- a name of an identifier is a name

pub digits_length : (n i : ℕ) → length (digits n i) ≡ n
unfolding digits
digits_length zero i = refl
digits_length (suc n) i = omega (arith, length-append (digits n (i / 4)) ((digit0 + i % 4) ∷ []), digits_length n (i / 4))

are_snoc : (cs : List ℕ) (c : ℕ) → are_digits cs ≡ true → is_digit c ≡ true → are_digits (cs ++ c ∷ []) ≡ true
unfolding are_digits
are_snoc [] c h e = and_both e refl
are_snoc (b ∷ cs) c h e = and_both (and_left (is_digit b) (are_digits cs) h) (are_snoc cs c (and_right (is_digit b) (are_digits cs) h) e)

is_digit_law : (k : ℕ) → is_digit (digit0 + k % 4) ≡ true
is_digit_law k = and_both (le-leb 48 (48 + k % 4) (omega arith)) (le-leb (48 + k % 4) 51 (omega arith))

are_digits_law : (n i : ℕ) → are_digits (digits n i) ≡ true
unfolding are_digits digits
are_digits_law zero i = refl
are_digits_law (suc n) i = are_snoc (digits n (i / 4)) (digit0 + i % 4) (are_digits_law n (i / 4)) (is_digit_law i)

-- ---- the letter

twice : (d : ℕ) → 2 * suc d ≡ suc (suc (2 * d))
twice d = omega arith

four_power : (d : ℕ) → 2 ^ (2 * d) ≡ 4 ^ d
four_power zero = refl
four_power (suc d) =
    let e : 2 ^ (2 * suc d) ≡ 2 ^ (2 * d) * 2 * 2 = ap (λ x. 2 ^ x) (twice d) ∙ pow-suc 2 (suc (2 * d)) ∙ ap (λ x. x * 2) (pow-suc 2 (2 * d)) in
    omega (arith, four_power d, pow-suc 4 d)

pub next_power : (d : ℕ) → 2 ^ (2 * d + 1) ≡ 2 * 4 ^ d
next_power d =
    let e : 2 ^ (2 * d + 1) ≡ 2 ^ (2 * d) * 2 = ap (λ x. 2 ^ x) (add-one (2 * d)) ∙ pow-suc 2 (2 * d) in
    omega (arith, four_power d)

pub last_power : (d : ℕ) → 2 ^ (2 * d + 2) ≡ 4 * 4 ^ d
last_power d =
    let s : 2 * d + 2 ≡ suc (2 * d + 1) = omega arith in
    let e : 2 ^ (2 * d + 2) ≡ 2 ^ (2 * d + 1) * 2 = ap (λ x. 2 ^ x) s ∙ pow-suc 2 (2 * d + 1) in
    omega (arith, next_power d)

-- `identifiers_at d` has the identifiers of depth d, and no other number
in_row : (i a n : ℕ) → some (eqb i) (numbers_from a n) ≡ leb a i && ltb i (a + n)
unfolding some numbers_from
in_row i a zero = split (leb a i)
    (λ t. sym (and_no_right (leb a i) (le-ltb i (a + 0) (omega (arith, leb-true a i t)))))
    (λ t. sym (and_no_left (ltb i (a + 0)) t))
in_row i a (suc n) = split (eqb i a)
    (λ t. let e = eqb-true i a t in rw t (sym (and_both (le-leb a i (omega arith)) (lt-ltb i (a + suc n) (omega arith)))))
    (λ t.
    let s : suc a + n ≡ a + suc n = omega arith in
    let l : leb (suc a) i ≡ leb a i = other (eqb-false i a t) in
    rw t (in_row i (suc a) n ∙ rw (s, l)))
  where
    other : (i ≡ a → ⊥) → leb (suc a) i ≡ leb a i
    other n = split (leb a i)
        (λ t. le-leb (suc a) i (omega (arith, leb-true a i t)) ∙ sym t)
        (λ t. lt-leb (suc a) i (omega (arith, leb-false a i t)) ∙ sym t)

pub identifiers_at_law : (d i : ℕ) → some (eqb i) (identifiers_at d) ≡ identifier_at d i
identifiers_at_law d i =
    let e : 2 ^ (2 * d + 1) + 2 ^ (2 * d + 1) ≡ 2 ^ (2 * d + 2) = omega (arith, next_power d, last_power d) in
    in_row i (2 ^ (2 * d + 1)) (2 ^ (2 * d + 1)) ∙ ap (λ n. leb (2 ^ (2 * d + 1)) i && ltb i n) e

before_low : (d i : ℕ) → identifier_at d i ≡ true → 2 ≤ i / 4 ^ d
before_low d i e = (le-div_iff_mul-le (one-le-pow d 4 (lit< tt))).1 (omega (arith, next_power d, at_low d i e))

before_high : (d i : ℕ) → identifier_at d i ≡ true → i / 4 ^ d < 4
before_high d i e = (div-lt_iff_lt-mul (one-le-pow d 4 (lit< tt))).1 (omega (arith, last_power d, at_high d i e))

letter_back : (a : ℕ) → 2 ≤ a → a < 4 → (is_letter (letter a) ≡ true) × (cond (eqb (letter a) letter_s) 2 3 ≡ a)
letter_back a l h = split (eqb a 2)
    (λ e. let z : a ≡ 2 = eqb-true a 2 e in subst (λ x. (is_letter (letter x) ≡ true) × (cond (eqb (letter x) letter_s) 2 3 ≡ x)) (sym z) (refl, refl))
    (λ e. let z : a ≡ 3 = three a l h (eqb-false a 2 e) in subst (λ x. (is_letter (letter x) ≡ true) × (cond (eqb (letter x) letter_s) 2 3 ≡ x)) (sym z) (refl, refl))
  where
    three : (a : ℕ) → 2 ≤ a → a < 4 → (a ≡ 2 → ⊥) → a ≡ 3
    three a l h n = omega arith

-- ---- the name of an identifier leads back to it

pub name_back : (d i : ℕ) → 1 ≤ d → d ≤ 31 → identifier_at d i ≡ true → identifier_of (name_at d i) ≡ gives i
unfolding identifier_of is_name value_of
name_back d i l h e =
    let b = letter_back (i / 4 ^ d) (before_low d i e) (before_high d i e) in
    let n = digits_length d i in
    let t : is_letter (letter (i / 4 ^ d)) && (leb 1 (length (digits d i)) && leb (length (digits d i)) 31) && are_digits (digits d i) ≡ true =
    and_both (and_both b.0 (and_both (le-leb 1 (length (digits d i)) (omega arith)) (le-leb (length (digits d i)) 31 (omega arith)))) (are_digits_law d i) in
    ap (λ x. check Name x (gives (with_digits (cond (eqb (letter (i / 4 ^ d)) letter_s) 2 3) (digits d i)))) t
    ∙ ap (λ x. gives (with_digits x (digits d i))) b.1
    ∙ ap gives (digits_lead_back d i)
