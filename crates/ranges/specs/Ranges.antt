-- Ranges of identifiers, and properties of a list of them. Document 01, 'The two lists'.
--   Range            low and high, of src/
--   is_in i r         the identifier i is in the range r: neither below low nor above high
--   in_some i rs      the identifier i is in a range of the list rs
--   times_in i rs     in how many ranges of the list rs the identifier i is
--   Ascends rs       low is at most high in every range, and each high is below the next low
--   Spaced rs        between neighbours at least one identifier is left
--   Proper b rs      the list ascends, is spaced, and has at most b ranges
--   pairs rs         the list as pairs low, high
--   range low high   a range, by its two numbers
--   ranges_in n l     the first n ranges of the list l
use Rattle.std.specs.Prelude.{ℕ, ◌+◌, ◌≤◌, ◌<◌, zero, suc, Bool, ◌&&◌, List, [], ◌∷◌, leb, length, get_or, drop}
use Rattle.algebra.specs.Lists.{tally, some}
use Rattle.ranges.specs.declared.Range.{Range}

abbrev pub is_in : ℕ → Range → Bool
is_in i r = leb r.low i && leb i r.high

abbrev pub in_some : ℕ → List Range → Bool
in_some i rs = some (is_in i) rs

abbrev pub times_in : ℕ → List Range → ℕ
times_in i rs = tally (is_in i) rs

abbrev pub Ascends : List Range → Type 0
Ascends [] = Unit {0}
Ascends (a ∷ []) = a.low ≤ a.high
Ascends (a ∷ b ∷ rest) = (a.low ≤ a.high) × (a.high < b.low) × Ascends (b ∷ rest)

abbrev pub Spaced : List Range → Type 0
Spaced [] = Unit {0}
Spaced (a ∷ []) = Unit {0}
Spaced (a ∷ b ∷ rest) = (a.high + 1 < b.low) × Spaced (b ∷ rest)

pub record Proper (b : ℕ) (rs : List Range) : Type 0 where
  pub ascends : Ascends rs
  pub spaced : Spaced rs
  pub few : length rs ≤ b

unfoldable pub pairs : List Range → List ℕ
pairs [] = []
pairs (r ∷ rs) = r.low ∷ r.high ∷ pairs rs

abbrev pub range : ℕ → ℕ → Range
range low high = record { low = low; high = high }

-- n pairs low, high from the beginning of xs
unfoldable pub ranges_in : ℕ → List ℕ → List Range
ranges_in zero xs = []
ranges_in (suc n) xs = range (get_or xs 0 0) (get_or xs 1 0) ∷ ranges_in n (drop 2 xs)
