-- What the filters compare fits a word: a product with one factor up to 2³² + 1 and the other below 2³², and a square below (2³²)². Assumes nothing.
use Prim.Native.Nat.{ℕ, ◌+◌, ◌*◌, ◌^◌, ◌≤◌, ◌<◌}
use native.Mathlib.Nat.{lt_of_le_of_lt, mul-le-mul}
use native.Mathlib.Omega.{arith}
use lib.Dec.{lit<}
use mir.Syntax.{w64}
use mir.Val.{Fits}

pub product_fits : {a b : ℕ} → a ≤ 2 ^ 32 + 1 → b < 2 ^ 32 → Fits w64 (a * b)
product_fits {b = b} h k = let l : b ≤ 4294967295 = omega arith in record { fits = lt_of_le_of_lt (mul-le-mul h l) (lit< tt) }

pub square_fits : {s : ℕ} → s < 2 ^ 32 → Fits w64 (s * s)
square_fits h = product_fits (omega arith) h
