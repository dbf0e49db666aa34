-- Catalogue lines. Document 02, F-3: three decimals parted by one blank and closed by a line feed, as bytes.
--   Decimal         a decimal by its parts: with a minus or without, the whole part, the digits after the point
--   value d         its value times K, truncated toward zero; the sign belongs to the whole number
--   written d       its bytes: an optional minus, a 0 or 1, a point, the digits; is_decimal d: it is one, with one to seven digits
--   Line            three decimals; line_of t: the bytes of the line
--   decimals_in l    the decimals of the line l, its line feed included: refusal 13 where it is malformed
--   pointing_in l    their values, as a vector of whole numbers
--   LinesInverse    decimals_in reads what line_of writes, and nothing else (proofs/LinesInverse)
--   MalformedRefused   every other line is refused with 13; the longest line has 33 bytes
use Rattle.std.specs.Prelude.{ℕ, zero, suc, ◌+◌, ◌-◌, ◌*◌, ◌/◌, ◌^◌, ◌<◌, ◌≡◌, Bool, true, false, cond, ◌&&◌, List, [], ◌∷◌, ◌++◌, leb, eqb, length, drop, ℤ}
use Rattle.algebra.specs.Lists.{every}
use Rattle.answer.specs.Answer as answer
use Rattle.answer.specs.Answer.{Answer, refused, gives, check, then, with_value}
use Rattle.vector.specs.declared.Vec3.{Vec3}
use Rattle.vector.specs.Numbers.{Kℕ, signed}
use Rattle.vector.specs.Vectors.{vec}

-- ---- the bytes

abbrev pub minus : ℕ
minus = 45

abbrev pub point : ℕ
point = 46

abbrev pub blank : ℕ
blank = 32

abbrev pub line_feed : ℕ
line_feed = 10

abbrev pub digit0 : ℕ
digit0 = 48

-- ---- decimals

pub record Decimal : Type 0 where
  pub negative : Bool
  pub whole : ℕ
  pub digits : List ℕ

-- the number that digits write
unfoldable pub number : List ℕ → ℕ
number [] = 0
number (d ∷ ds) = d * 10 ^ length ds + number ds

-- (whole · 10^k + digits) · K div 10^k, where k is the count of the digits; the sign is given to that whole number
unfoldable pub value : Decimal → ℤ
value d = signed d.negative ((d.whole * 10 ^ length d.digits + number d.digits) * Kℕ / 10 ^ length d.digits)

unfoldable pub is_decimal : Decimal → Bool
is_decimal d = leb d.whole 1 && (leb 1 (length d.digits) && (leb (length d.digits) 7 && every (λ n. leb n 9) d.digits))

unfoldable pub digit_bytes : List ℕ → List ℕ
digit_bytes [] = []
digit_bytes (d ∷ ds) = (digit0 + d) ∷ digit_bytes ds

abbrev pub sign_bytes : Bool → List ℕ
sign_bytes true = minus ∷ []
sign_bytes false = []

unfoldable pub written : Decimal → List ℕ
written d = sign_bytes d.negative ++ (digit0 + d.whole) ∷ point ∷ digit_bytes d.digits

-- ---- a line

pub record Line : Type 0 where
  pub x : Decimal
  pub y : Decimal
  pub z : Decimal

abbrev pub is_line : Line → Bool
is_line t = is_decimal t.x && (is_decimal t.y && is_decimal t.z)

abbrev pub line_of : Line → List ℕ
line_of t = written t.x ++ blank ∷ (written t.y ++ blank ∷ (written t.z ++ line_feed ∷ []))

-- ---- from bytes to decimals

-- a decimal, and the bytes after it
pub record Found : Type 0 where
  pub decimal : Decimal
  pub rest : List ℕ

-- a digit from 0 to n
abbrev pub is_digit_to : ℕ → ℕ → Bool
is_digit_to n b = leb digit0 b && leb b (digit0 + n)

-- the digits at the beginning of s, at most n of them
unfoldable pub digits_in : ℕ → List ℕ → List ℕ
digits_in zero s = []
digits_in (suc n) [] = []
digits_in (suc n) (b ∷ s) = cond (is_digit_to 9 b) ((b - digit0) ∷ digits_in n s) []

-- a 0 or 1, a point, one to seven digits; an eighth is left for what follows, and is no blank and no line feed
unfoldable pub unsigned_in : Bool → List ℕ → Answer Found
unsigned_in neg [] = refused answer.Line
unsigned_in neg (b ∷ []) = refused answer.Line
unsigned_in neg (b ∷ p ∷ s) =
    let ds = digits_in 7 s in
    check answer.Line (is_digit_to 1 b && (eqb p point && leb 1 (length ds)))
    (gives (record { decimal = record { negative = neg; whole = b - digit0; digits = ds }; rest = drop (length ds) s }))

unfoldable pub decimal_in : List ℕ → Answer Found
decimal_in [] = refused answer.Line
decimal_in (b ∷ s) = cond (eqb b minus) (unsigned_in true s) (unsigned_in false (b ∷ s))

-- a blank, and a decimal
unfoldable pub next_in : List ℕ → Answer Found
next_in [] = refused answer.Line
next_in (b ∷ s) = check answer.Line (eqb b blank) (decimal_in s)

-- one line feed, and nothing after it
abbrev pub is_end : List ℕ → Bool
is_end [] = false
is_end (b ∷ []) = eqb b line_feed
is_end (b ∷ c ∷ s) = false

unfoldable pub decimals_in : List ℕ → Answer Line
decimals_in l =
    then (decimal_in l) (λ x. then (next_in x.rest) (λ y. then (next_in y.rest) (λ z.
    check answer.Line (is_end z.rest) (gives (record { x = x.decimal; y = y.decimal; z = z.decimal })))))

unfoldable pub pointing_in : List ℕ → Answer Vec3
pointing_in l = with_value (λ t. vec (value t.x) (value t.y) (value t.z)) (decimals_in l)

-- ---- both ways

abbrev pub LinesInverse : Type 0
LinesInverse = (t : Line) (l : List ℕ) → (is_line t ≡ true → line_of t ≡ l → decimals_in l ≡ gives t) × (decimals_in l ≡ gives t → (is_line t ≡ true) × (line_of t ≡ l))

-- a line is refused with 13 or with nothing, and every line of more than 33 bytes is refused
abbrev pub MalformedRefused : Type 0
MalformedRefused = ((l : List ℕ) (n : ℕ) → decimals_in l ≡ refused n → n ≡ answer.Line) × ((l : List ℕ) → 33 < length l → decimals_in l ≡ refused answer.Line)
