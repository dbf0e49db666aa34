-- What is printed, byte by byte.
--   refused_text n   a refusal by its number, as `refused 18`
--   point_text v     the numbers of a vector, parted by blanks
--   digits_text xs   bytes in hexadecimal digits, two each, with small letters
use Rattle.std.specs.Prelude.{ℕ, ◌/◌, ◌%◌, false, List, [], ◌∷◌, ◌++◌, codes}
use Rattle.std.specs.Fmt.{decimal, signed_decimal, digit_glyph}
use Rattle.std.specs.List.{flat_map}
use Rattle.vector.specs.declared.Vec3.{Vec3}

abbrev pub refused_text : ℕ → List ℕ
refused_text n = codes "refused " ++ decimal n

abbrev pub point_text : Vec3 → List ℕ
point_text v = signed_decimal v.x ++ (32 ∷ (signed_decimal v.y ++ (32 ∷ signed_decimal v.z)))

abbrev pub byte_text : ℕ → List ℕ
byte_text b = digit_glyph false (b / 16) ∷ digit_glyph false (b % 16) ∷ []

abbrev pub digits_text : List ℕ → List ℕ
digits_text xs = flat_map byte_text xs
