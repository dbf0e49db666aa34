-- From the laws of Sound to the words of specs/Ranges, and lists of ranges that lie in a stretch from one number to another. Assumes nothing.
use Prim.Native.Nat.{ℕ, zero, suc, ◌+◌, ◌*◌, ◌≤◌, ◌<◌}
use mathlib.Core.Path.{◌≡◌, refl, ap, subst}
use mathlib.Core.Bool.{true, false, false≢true}
use mathlib.Core.List.{List, [], ◌∷◌, ◌++◌}
use native.Mathlib.Omega.{arith}
use native.Mathlib.Nat.{mul-le-mul_right}
use lib.Dec.{leb, ltb}
use lib.ListN.{length}
use borrow.Author.Tests.{leb-true, le-leb, lt-leb, ltb-true, ltb-false}
use Rattle.algebra.specs.Lists.{some, tally}
use Rattle.algebra.proofs.Tests.{split, and_left, and_right, and_both, and_no_left, and_no_right, or_cases, or_left, or_right}
use Rattle.ranges.specs.declared.Range.{Range}
use Rattle.ranges.specs.Ranges.{is_in, in_some, times_in, Ascends, Spaced, Proper}
use Rattle.ranges.proofs.Sound.{SpacedBy, Separate, In, Has, later}

-- ---- a range's test

pub is_in_law : (n : ℕ) (r : Range) → r.low ≤ n → n ≤ r.high → is_in n r ≡ true
is_in_law n r l h = and_both (le-leb r.low n l) (le-leb n r.high h)

pub not_below : (n : ℕ) (r : Range) → r.high < n → is_in n r ≡ false
not_below n r h = and_no_right (leb r.low n) (lt-leb n r.high h)

pub not_above : (n : ℕ) (r : Range) → n < r.low → is_in n r ≡ false
not_above n r h = and_no_left (leb n r.high) (lt-leb r.low n h)

pub in_low : (n : ℕ) (r : Range) → is_in n r ≡ true → r.low ≤ n
in_low n r e = leb-true r.low n (and_left (leb r.low n) (leb n r.high) e)

pub in_high : (n : ℕ) (r : Range) → is_in n r ≡ true → n ≤ r.high
in_high n r e = leb-true n r.high (and_right (leb r.low n) (leb n r.high) e)

-- ---- the words of Sound

first : (r : Range) (rs : List Range) (n : ℕ) → r.low ≤ n → n ≤ r.high → Has (r ∷ rs) n
unfolding In
first r rs n l h = (0, (l, h))

pub some_has : (n : ℕ) (rs : List Range) → in_some n rs ≡ true → Has rs n
unfolding some
some_has n [] e = absurd (false≢true e)
some_has n (r ∷ rs) e = or_cases (is_in n r) (some (is_in n) rs) e (λ t. first r rs n (in_low n r t) (in_high n r t)) (λ t. later r rs n (some_has n rs t))

in_some_law : (n : ℕ) (rs : List Range) (i : ℕ) → In rs i n → in_some n rs ≡ true
unfolding some In
in_some_law n [] i h = absurd h
in_some_law n (r ∷ rs) zero h = or_left (in_some n rs) (is_in_law n r h.0 h.1)
in_some_law n (r ∷ rs) (suc i) h = or_right (is_in n r) (in_some_law n rs i h)

pub has_some : (n : ℕ) (rs : List Range) → Has rs n → in_some n rs ≡ true
has_some n rs h = in_some_law n rs h.0 h.1

-- ---- in exactly one

head_right : (a : Range) (rs : List Range) → Separate (a ∷ rs) → a.low ≤ a.high
unfolding SpacedBy
head_right a [] p = p
head_right a (b ∷ rs) p = p.0

tail_right : (a : Range) (rs : List Range) → Separate (a ∷ rs) → Separate rs
unfolding SpacedBy
tail_right a [] p = tt
tail_right a (b ∷ rs) p = p.2

none_after : (n : ℕ) (a : Range) (rs : List Range) → Separate (a ∷ rs) → n ≤ a.high → times_in n rs ≡ 0
unfolding tally SpacedBy
none_after n a [] p h = refl
none_after n a (b ∷ rs) p h = rw (not_above n b (omega arith)) (none_after n b rs p.2 (omega (arith, head_right b rs p.2)))

past_head : (n : ℕ) (a : Range) (rs : List Range) (i : ℕ) → Separate (a ∷ rs) → In rs i n → a.high < n
unfolding SpacedBy In
past_head n a [] i p h = absurd h
past_head n a (b ∷ rs) zero p h = omega arith
past_head n a (b ∷ rs) (suc i) p h = omega (arith, past_head n b rs i p.2 h, head_right b rs p.2)

pub in_exactly_one : (n : ℕ) (rs : List Range) (i : ℕ) → Separate rs → In rs i n → times_in n rs ≡ 1
unfolding tally In
in_exactly_one n [] i p h = absurd h
in_exactly_one n (a ∷ rs) zero p h = rw (is_in_law n a h.0 h.1) (ap suc (none_after n a rs p h.1))
in_exactly_one n (a ∷ rs) (suc i) p h = rw (not_below n a (past_head n a rs i p h)) (in_exactly_one n rs i (tail_right a rs p) h)

separate_ascends : (rs : List Range) → Separate rs → Ascends rs
unfolding SpacedBy
separate_ascends [] p = tt
separate_ascends (a ∷ []) p = p
separate_ascends (a ∷ b ∷ rs) p = (p.0, omega arith, separate_ascends (b ∷ rs) p.2)

separate_spaced : (rs : List Range) → Separate rs → Spaced rs
unfolding SpacedBy
separate_spaced [] p = tt
separate_spaced (a ∷ []) p = tt
separate_spaced (a ∷ b ∷ rs) p = (p.1, separate_spaced (b ∷ rs) p.2)

pub separate_proper : (b : ℕ) (rs : List Range) → Separate rs → length rs ≤ b → Proper b rs
separate_proper b rs p h = record { ascends = separate_ascends rs p; spaced = separate_spaced rs p; few = h }

-- ---- a list whose ranges ascend from a on and end before b

abbrev pub Between : ℕ → ℕ → List Range → Type 0
Between a b [] = a ≤ b
Between a b (r ∷ rs) = (a ≤ r.low) × (r.low ≤ r.high) × Between (r.high + 1) b rs

pub between_le : (a b : ℕ) (rs : List Range) → Between a b rs → a ≤ b
between_le a b [] p = p
between_le a b (r ∷ rs) p = omega (arith, between_le (r.high + 1) b rs p.2)

pub between_widen : (a b c d : ℕ) (rs : List Range) → a ≤ c → d ≤ b → Between c d rs → Between a b rs
between_widen a b c d [] h k p = omega arith
between_widen a b c d (r ∷ rs) h k p = (omega arith, p.1, between_widen (r.high + 1) b (r.high + 1) d rs (omega arith) k p.2)

pub between_append : (a b c d : ℕ) (xs ys : List Range) → Between a b xs → b ≤ c → Between c d ys → Between a d (xs ++ ys)
between_append a b c d [] ys p h q = between_widen a d c d ys (omega arith) (omega arith) q
between_append a b c d (r ∷ xs) ys p h q = (p.0, p.1, between_append (r.high + 1) b c d xs ys p.2 h q)

pub between_spaced : (a b : ℕ) (rs : List Range) → Between a b rs → SpacedBy 0 rs
unfolding SpacedBy
between_spaced a b [] p = tt
between_spaced a b (r ∷ []) p = p.1
between_spaced a b (r ∷ s ∷ rs) p = (p.1, omega arith, between_spaced (r.high + 1) b (s ∷ rs) p.2)

pub between_low : (a b : ℕ) (rs : List Range) (i n : ℕ) → Between a b rs → In rs i n → a ≤ n
unfolding In
between_low a b [] i n p h = absurd h
between_low a b (r ∷ rs) zero n p h = omega arith
between_low a b (r ∷ rs) (suc i) n p h = omega (arith, between_low (r.high + 1) b rs i n p.2 h)

pub between_high : (a b : ℕ) (rs : List Range) (i n : ℕ) → Between a b rs → In rs i n → n < b
unfolding In
between_high a b [] i n p h = absurd h
between_high a b (r ∷ rs) zero n p h = omega (arith, between_le (r.high + 1) b rs p.2)
between_high a b (r ∷ rs) (suc i) n p h = between_high (r.high + 1) b rs i n p.2 h

-- ---- a number in two lists, one after the other

in_left : (xs ys : List Range) (i n : ℕ) → In xs i n → Has (xs ++ ys) n
unfolding In
in_left [] ys i n h = absurd h
in_left (x ∷ xs) ys zero n h = (0, h)
in_left (x ∷ xs) ys (suc i) n h = later x (xs ++ ys) n (in_left xs ys i n h)

pub has_left : (xs ys : List Range) (n : ℕ) → Has xs n → Has (xs ++ ys) n
has_left xs ys n h = in_left xs ys h.0 n h.1

pub has_right : (xs ys : List Range) (n : ℕ) → Has ys n → Has (xs ++ ys) n
has_right [] ys n h = h
has_right (x ∷ xs) ys n h = later x (xs ++ ys) n (has_right xs ys n h)

in_cases : (xs ys : List Range) (i n : ℕ) {X : Type 0} → In (xs ++ ys) i n → (Has xs n → X) → (Has ys n → X) → X
unfolding In
in_cases [] ys i n h f g = g (i, h)
in_cases (x ∷ xs) ys zero n h f g = f (0, h)
in_cases (x ∷ xs) ys (suc i) n h f g = in_cases xs ys i n h (λ k. f (later x xs n k)) g

pub has_cases : (xs ys : List Range) (n : ℕ) {X : Type 0} → Has (xs ++ ys) n → (Has xs n → X) → (Has ys n → X) → X
has_cases xs ys n h f g = in_cases xs ys h.0 n h.1 f g

-- ---- four lists in a row, each in its stretch of q numbers, from number c · q on

module _ (L : ℕ → List Range) where
  abbrev pub row : List Range
  row = L 0 ++ (L 1 ++ (L 2 ++ L 3))

  pub has_row : (k n : ℕ) → k < 4 → Has (L k) n → Has row n
  has_row zero n h m = has_left (L 0) (L 1 ++ (L 2 ++ L 3)) n m
  has_row (suc zero) n h m = has_right (L 0) (L 1 ++ (L 2 ++ L 3)) n (has_left (L 1) (L 2 ++ L 3) n m)
  has_row (suc (suc zero)) n h m = has_right (L 0) (L 1 ++ (L 2 ++ L 3)) n (has_right (L 1) (L 2 ++ L 3) n (has_left (L 2) (L 3) n m))
  has_row (suc (suc (suc zero))) n h m = has_right (L 0) (L 1 ++ (L 2 ++ L 3)) n (has_right (L 1) (L 2 ++ L 3) n (has_right (L 2) (L 3) n m))
  has_row (suc (suc (suc (suc k)))) n h m = absurd (omega arith)

  pub row_has : (n : ℕ) {X : Type 0} → Has row n → ((k : ℕ) → Has (L k) n → X) → X
  row_has n h f =
      has_cases (L 0) (L 1 ++ (L 2 ++ L 3)) n h (f 0)
      (λ h1. has_cases (L 1) (L 2 ++ L 3) n h1 (f 1)
      (λ h2. has_cases (L 2) (L 3) n h2 (f 2) (f 3)))

  module _ (c q : ℕ) (stretch : (k : ℕ) → Between ((c + k) * q) ((c + k + 1) * q) (L k)) where
    next : (k m : ℕ) → k + 1 ≡ m → (c + k + 1) * q ≤ (c + m) * q
    next k m e = mul-le-mul_right q (omega arith)

    pub between_row : Between (c * q) ((c + 4) * q) row
    between_row =
        between_widen (c * q) ((c + 4) * q) ((c + 0) * q) ((c + 3 + 1) * q) row (mul-le-mul_right q (omega arith)) (mul-le-mul_right q (omega arith))
        (between_append ((c + 0) * q) ((c + 0 + 1) * q) ((c + 1) * q) ((c + 3 + 1) * q) (L 0) (L 1 ++ (L 2 ++ L 3)) (stretch 0) (next 0 1 refl)
        (between_append ((c + 1) * q) ((c + 1 + 1) * q) ((c + 2) * q) ((c + 3 + 1) * q) (L 1) (L 2 ++ L 3) (stretch 1) (next 1 2 refl)
        (between_append ((c + 2) * q) ((c + 2 + 1) * q) ((c + 3) * q) ((c + 3 + 1) * q) (L 2) (L 3) (stretch 2) (next 2 3 refl) (stretch 3))))

    -- a number in stretch k is in no other list
    not_earlier : (k m n : ℕ) → Has (L m) n → (c + k) * q ≤ n → m < k → ⊥
    not_earlier k m n h l e =
        let u = between_high ((c + m) * q) ((c + m + 1) * q) (L m) h.0 n (stretch m) h.1 in
        let o : (c + m + 1) * q ≤ (c + k) * q = mul-le-mul_right q (omega arith) in
        omega arith

    not_later : (k m n : ℕ) → Has (L m) n → n < (c + k + 1) * q → k < m → ⊥
    not_later k m n h l e =
        let u = between_low ((c + m) * q) ((c + m + 1) * q) (L m) h.0 n (stretch m) h.1 in
        let o : (c + k + 1) * q ≤ (c + m) * q = mul-le-mul_right q (omega arith) in
        omega arith

    pub own : (k m n : ℕ) → Has (L m) n → (c + k) * q ≤ n → n < (c + k + 1) * q → Has (L k) n
    own k m n h l u = split (ltb m k)
        (λ e. absurd (not_earlier k m n h l (ltb-true m k e)))
        (λ e. split (ltb k m)
        (λ d. absurd (not_later k m n h u (ltb-true k m d)))
        (λ d. subst (λ x. Has (L x) n) (same (ltb-false m k e) (ltb-false k m d)) h))
      where
        same : k ≤ m → m ≤ k → m ≡ k
        same a b = omega arith

    pub row_own : (k n : ℕ) → (c + k) * q ≤ n → n < (c + k + 1) * q → Has row n → Has (L k) n
    row_own k n l u h = row_has n h (λ m w. own k m n w l u)
