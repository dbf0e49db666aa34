-- Numbers in decimal digits, as a command line writes them. A word is a list of bytes.
--   is_digit b, digits w   a byte is a digit 0 to 9, every byte of a word is
--   value_from n w         the number that the digits of w write after n
--   natural_from m n w     that number, if all are digits and it is at most m
--   natural_in m w         the number that a word writes: digits only, one at least, and at most m
--   whole_in w             as above, for a word that may begin with a minus and numbers of 32 bits: plain, or negated
--   UpTo m r              a number that was read is at most m
use Rattle.std.specs.Prelude.{ℕ, ℤ, ◌+◌, ◌-◌, ◌*◌, ◌≤◌, Bool, true, false, ◌&&◌, List, [], ◌∷◌, leb, eqb, get_or, drop, pos, neg_ℤ, Option, Some, None, IfSome}

abbrev pub is_digit : ℕ → Bool
is_digit b = leb 48 b && leb b 57

unfoldable pub digits : List ℕ → Bool
digits [] = true
digits (b ∷ w) = is_digit b && digits w

unfoldable pub value_from : ℕ → List ℕ → ℕ
value_from n [] = n
value_from n (b ∷ w) = value_from (n * 10 + (b - 48)) w

abbrev pub provided : Bool → ℕ → Option ℕ
provided true n = Some n
provided false n = None

abbrev pub natural_from : ℕ → ℕ → List ℕ → Option ℕ
natural_from m n w = provided (digits w && leb (value_from n w) m) (value_from n w)

abbrev pub natural_in : ℕ → List ℕ → Option ℕ
natural_in m [] = None
natural_in m (b ∷ w) = natural_from m 0 (b ∷ w)

abbrev pub plain : Option ℕ → Option ℤ
plain (Some n) = Some (pos n)
plain None = None

abbrev pub negated : Option ℕ → Option ℤ
negated (Some n) = Some (neg_ℤ (pos n))
negated None = None

abbrev pub signed : Bool → List ℕ → Option ℤ
signed true w = negated (natural_in 2147483648 (drop 1 w))
signed false w = plain (natural_in 2147483647 w)

abbrev pub whole_in : List ℕ → Option ℤ
whole_in w = signed (eqb (get_or w 0 0) 45) w

abbrev pub UpTo : ℕ → Option ℕ → Type 0
UpTo m r = IfSome r (λ n. n ≤ m)
