-- The patterns of a NaN are those above an infinity's, the sign left out. Assumes nothing.
use Prim.Native.Nat.{ℕ, ◌*◌, ◌%◌, ◌≤◌, ◌<◌}
use mathlib.Core.Path.{◌≡◌, refl, sym, subst, ◌∙◌}
use mathlib.Core.Bool.{not}
use lib.Dec.{T}
use lib.Ieee.{Float, Format, nan, inf, fin, is_nan, hid, ones, top, of_bits, nan_bits}
use lib.Ieee.Bits.{nan_bits_is, nan_bits_above}
use borrow.Author.Tests.{lt-ltb, le-ltb}

nan_only : (x : Float) → T (is_nan x) → nan ≡ x
unfolding is_nan
nan_only nan h = refl
nan_only (inf s) h = absurd h
nan_only (fin s m e) h = absurd h

module _ (f : Format) (n : ℕ) where
  pub above_infinity : ones f * hid f < n % top f → nan ≡ of_bits f n
  above_infinity h = nan_only (of_bits f n) (subst T (sym (lt-ltb (ones f * hid f) (n % top f) h) ∙ sym (nan_bits_above f n) ∙ nan_bits_is f n) tt)

  pub no_nan : n % top f ≤ ones f * hid f → T (not (nan_bits f n))
  no_nan h = subst (λ t. T (not t)) (sym (nan_bits_above f n ∙ le-ltb (ones f * hid f) (n % top f) h)) tt
