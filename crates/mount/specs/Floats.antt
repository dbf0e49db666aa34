-- Floats by their bits, at any width. Document 02, F-1: each component is multiplied by 2^20 and truncated toward zero; 12 for a component not finite or
-- beyond 1 in size. From the top the bits are the sign, the exponent's field and the fraction. A field of 0 has no leading one and counts as 1; a
-- field of all ones is an infinity's or a NaN's. So in size the float is numerator / denominator.
--   single, double    the widths of an f32 and of an f64
--   negative w b      the sign is set
--   field, fraction   the exponent's field and the fraction
--   significand w b   the fraction under its leading one
--   finite w b        neither an infinity nor a NaN
--   usable w b        finite, and at most 1 in size
--   scaled w b        the float times 2^20, truncated toward zero
--   component w b     the answer: check 12
--   component_of f v   the component of a float v of a format f, by its bits
use Rattle.std.specs.Prelude.{ℕ, ◌+◌, ◌-◌, ◌*◌, ◌/◌, ◌%◌, ◌^◌, max, Bool, cond, not, ◌&&◌, leb, eqb, ℤ, pos, ◌*ℤ◌}
use Rattle.std.specs.Float.Ieee as Ieee
use Rattle.std.specs.Float.{Format, binary32, binary64}
use Rattle.std.specs.Float.Ieee.{to_bits}
use Rattle.answer.specs.Answer.{Answer, gives, check, Float}
use Rattle.vector.specs.Numbers.{signed, quot}
use Rattle.mount.specs.declared.Width.{Width}

abbrev pub single : Width
single = record { exponent = 8; fraction = 23 }

abbrev pub double : Width
double = record { exponent = 11; fraction = 52 }

abbrev pub width_of : Format → Width
width_of binary32 = single
width_of binary64 = double

-- ---- the fields

abbrev pub negative : Width → ℕ → Bool
negative w b = leb (2 ^ (w.exponent + w.fraction)) b

abbrev pub field : Width → ℕ → ℕ
field w b = b / 2 ^ w.fraction % 2 ^ w.exponent

abbrev pub fraction : Width → ℕ → ℕ
fraction w b = b % 2 ^ w.fraction

-- ---- the size, numerator / denominator

abbrev pub significand : Width → ℕ → ℕ
significand w b = cond (eqb (field w b) 0) (fraction w b) (2 ^ w.fraction + fraction w b)

abbrev pub numerator : Width → ℕ → ℕ
numerator w b = significand w b * 2 ^ max 1 (field w b)

abbrev pub bias : Width → ℕ
bias w = 2 ^ (w.exponent - 1) - 1

abbrev pub denominator : Width → ℕ
denominator w = 2 ^ (bias w + w.fraction)

-- ---- the rule

abbrev pub finite : Width → ℕ → Bool
finite w b = not (eqb (field w b) (2 ^ w.exponent - 1))

unfoldable pub usable : Width → ℕ → Bool
usable w b = finite w b && leb (numerator w b) (denominator w)

unfoldable pub scaled : Width → ℕ → ℤ
scaled w b = quot (signed (negative w b) (numerator w b) *ℤ pos (2 ^ 20)) (pos (denominator w))

unfoldable pub component : Width → ℕ → Answer ℤ
component w b = check Float (usable w b) (gives (scaled w b))

abbrev pub component_of : Format → Ieee.Float → Answer ℤ
component_of f v = component (width_of f) (to_bits f v)
