-- What the code requires of a width: 2^-20 is above the smallest exponent, 2^20 fits a significand, and all bits fit 64. Document 02, F-1, both widths.
--   Usual w   6 to 11 bits of exponent, 20 to 52 of fraction
use Rattle.std.specs.Prelude.{◌≤◌}
use Rattle.mount.specs.declared.Width.{Width}

pub record Usual (w : Width) : Type 0 where
  pub low : 6 ≤ w.exponent
  pub high : w.exponent ≤ 11
  pub fine : 20 ≤ w.fraction
  pub short : w.fraction ≤ 52
