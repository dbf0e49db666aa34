-- Lines of document 02, F-3, computed: −0.5 is −524288 and −0.0 is 0; 0.3 and −0.3 are truncated toward zero; 1.9999999 is a number. A missing line
-- feed or one too many, two blanks and an eighth digit are malformed. Assumes nothing.
use Prim.Native.Nat.{ℕ}
use mathlib.Core.Path.{◌≡◌, refl}
use mathlib.Core.List.{List, [], ◌∷◌, ◌++◌}
use lib.IntN.{pos, negsuc}
use Rattle.answer.specs.Answer.{refused, gives}
use Rattle.vector.specs.Vectors.{vec}
use Rattle.catalogue_line.specs.Lines.{minus, point, blank, line_feed, value, number, digits_in, unsigned_in, decimal_in, next_in, decimals_in, pointing_in}

-- -0.5
abbrev half : List ℕ
half = minus ∷ 48 ∷ point ∷ 53 ∷ []

-- -0.0
abbrev none : List ℕ
none = minus ∷ 48 ∷ point ∷ 48 ∷ []

-- 0.3
abbrev third : List ℕ
third = 48 ∷ point ∷ 51 ∷ []

-- 1.9999999
abbrev most : List ℕ
most = 49 ∷ point ∷ 57 ∷ 57 ∷ 57 ∷ 57 ∷ 57 ∷ 57 ∷ 57 ∷ []

abbrev three : List ℕ → List ℕ → List ℕ → List ℕ
three a b c = a ++ blank ∷ (b ++ blank ∷ c)

abbrev Examples : Type 0
Examples =
    (pointing_in (three half none third ++ line_feed ∷ []) ≡ gives (vec (negsuc 524287) (pos 0) (pos 314572)))
    × (pointing_in (three (minus ∷ third) most (minus ∷ most) ++ line_feed ∷ []) ≡ gives (vec (negsuc 314571) (pos 2097151) (negsuc 2097150)))
    × (pointing_in (three half none third) ≡ refused 13)
    × (pointing_in (three half none third ++ line_feed ∷ line_feed ∷ []) ≡ refused 13)
    × (pointing_in (three half (blank ∷ none) third ++ line_feed ∷ []) ≡ refused 13)
    × (pointing_in (three half none (most ++ 48 ∷ []) ++ line_feed ∷ []) ≡ refused 13)

examples : Examples
unfolding pointing_in decimals_in decimal_in next_in unsigned_in digits_in value number
examples = (refl, refl, refl, refl, refl, refl)
