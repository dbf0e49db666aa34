-- `classify_rays::filtered` tells by its two tests, which fit a word. Assumes nothing.
use Prim.Native.Nat.{ℕ, ◌*◌, ◌^◌, ◌≤◌}
use native.Mathlib.Nat.{mul-le-mul, lt_of_le_of_lt}
use native.Mathlib.Omega.{arith}
use mathlib.Core.Path.{sym, ◌∙◌}
use lib.Dec.{lit<}
use Rattle.classify_rays.proofs.filtered.Goals as goal

square_most : {g : ℕ} → g ≤ 2 ^ 21 → g * g ≤ 2 ^ 42
square_most h = mul-le-mul h h

pub overflow_mul-p : goal.overflow_mul-p
overflow_mul-p c = record { fits = lt_of_le_of_lt (square_most c.requires.1) (lit< tt) }

pub overflow_add-p : goal.overflow_add-p
overflow_add-p c = record { fits = omega (arith, square_most c.requires.1) }

pub overflow_add-h : goal.overflow_add-h
overflow_add-h c = record { fits = omega (arith, c.requires.2) }

pub product_within-requires : goal.product_within-requires
product_within-requires c = (omega (arith, square_most c.requires.1), omega (arith, c.requires.2), omega (arith, c.requires.0))

pub returns-then-product_within : goal.returns-then-product_within
returns-then-product_within c = rw (sym c.product_within.ensures ∙ c.if-product_within.true)

pub overflow_add-q : goal.overflow_add-q
overflow_add-q c = record { fits = omega (arith, c.requires.0) }

pub square_within-requires : goal.square_within-requires
square_within-requires c = (omega (arith, c.requires.0), omega (arith, square_most c.requires.1), omega (arith, c.requires.2))

pub returns-then-square_within : goal.returns-then-square_within
returns-then-square_within c = rw (sym c.product_within.ensures ∙ c.if-product_within.false, sym c.square_within.ensures ∙ c.if-square_within.true)

pub returns : goal.returns
returns c = rw (sym c.product_within.ensures ∙ c.if-product_within.false, sym c.square_within.ensures ∙ c.if-square_within.false)
