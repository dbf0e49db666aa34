-- Numbers as bytes, little-endian. Document 01, 'Regions'.
--   word s k, signed s k        the 16 bits, and the signed 32 bits, that begin at byte k of s
--   word_bytes n, signed_bytes z  the two bytes, and the four, of a number
--   are_bytes s                  each element is a byte, as in every list of bytes that a call is handed
use Rattle.std.specs.Prelude.{ℕ, suc, ◌+◌, ◌-◌, ◌*◌, ◌/◌, ◌%◌, ◌^◌, Bool, cond, List, [], ◌∷◌, ◌++◌, ltb, get_or, ℤ, pos, negsuc, ◌-ℤ◌}
use Rattle.algebra.specs.Lists.{every}

abbrev pub word : List ℕ → ℕ → ℕ
word s k = get_or s k 0 + 256 * get_or s (k + 1) 0

-- 32 bits read as a number with a sign
abbrev pub signed_of : ℕ → ℤ
signed_of n = cond (ltb n (2 ^ 31)) (pos n) (pos n -ℤ pos (2 ^ 32))

abbrev pub signed : List ℕ → ℕ → ℤ
signed s k = signed_of (word s k + 65536 * word s (k + 2))

abbrev pub word_bytes : ℕ → List ℕ
word_bytes n = n % 256 ∷ n / 256 ∷ []

-- the 32 bits of a number with a sign
abbrev pub bits_of : ℤ → ℕ
bits_of (pos n) = n
bits_of (negsuc n) = 2 ^ 32 - suc n

abbrev pub signed_bytes : ℤ → List ℕ
signed_bytes z = word_bytes (bits_of z % 65536) ++ word_bytes (bits_of z / 65536)

abbrev pub is_byte : ℕ → Bool
is_byte b = ltb b 256

abbrev pub are_bytes : List ℕ → Bool
are_bytes s = every is_byte s
