-- Names. Document 01, 'Pointings and the mesh'; 2.4 of document 000. A name is S or N and 1 to 31 digits 0 to 3, as bytes.
--   name_of i         the name of the identifier i: refusal 11 where it is none
--   identifier_of s   the identifier of the name s: refusal 11 where it is none
use Rattle.std.specs.Prelude.{ℕ, zero, suc, ◌+◌, ◌-◌, ◌*◌, ◌/◌, ◌%◌, ◌^◌, Bool, true, false, cond, ◌&&◌, ◌||◌, List, [], ◌∷◌, ◌++◌, leb, eqb, length}
use Rattle.answer.specs.Answer.{Answer, gives, check, Name}
use Rattle.mesh.specs.Identifiers.{depth_of, is_identifier}

-- ---- the bytes of the letters and of the digit 0
abbrev pub letter_s : ℕ
letter_s = 83

abbrev pub letter_n : ℕ
letter_n = 78

abbrev pub digit0 : ℕ
digit0 = 48

-- ---- from an identifier to its name

-- the last n digits of i
unfoldable pub digits : ℕ → ℕ → List ℕ
digits zero i = []
digits (suc n) i = digits n (i / 4) ++ (digit0 + i % 4) ∷ []

-- the letter of what stands before the digits, 2 or 3
abbrev pub letter : ℕ → ℕ
letter a = cond (eqb a 2) letter_s letter_n

abbrev pub name_at : ℕ → ℕ → List ℕ
name_at d i = letter (i / 4 ^ d) ∷ digits d i

unfoldable pub name_of : ℕ → Answer (List ℕ)
name_of i = check Name (is_identifier i) (gives (name_at (depth_of i) i))

-- ---- from a name to its identifier

abbrev pub is_digit : ℕ → Bool
is_digit c = leb digit0 c && leb c (digit0 + 3)

unfoldable pub are_digits : List ℕ → Bool
are_digits [] = true
are_digits (c ∷ cs) = is_digit c && are_digits cs

abbrev pub is_letter : ℕ → Bool
is_letter c = eqb c letter_s || eqb c letter_n

unfoldable pub is_name : List ℕ → Bool
is_name [] = false
is_name (c ∷ cs) = is_letter c && (leb 1 (length cs) && leb (length cs) 31) && are_digits cs

-- the identifier i with the digits after its own
unfoldable pub with_digits : ℕ → List ℕ → ℕ
with_digits i [] = i
with_digits i (c ∷ cs) = with_digits (4 * i + (c - digit0)) cs

unfoldable pub value_of : List ℕ → ℕ
value_of [] = 0
value_of (c ∷ cs) = with_digits (cond (eqb c letter_s) 2 3) cs

unfoldable pub identifier_of : List ℕ → Answer ℕ
identifier_of s = check Name (is_name s) (gives (value_of s))
