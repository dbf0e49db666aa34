-- `classify_prepared::upper_square` is the square of the absolute value without its lower 10 bits. Assumes nothing.
use Prim.Native.Nat.{◌*◌, ◌/◌, ◌^◌, ◌≤◌}
use native.Mathlib.Nat.{mul-le-mul, lt_of_le_of_lt}
use native.Mathlib.Omega.{arith}
use mathlib.Core.Path.{◌≡◌, sym, ap, subst, ◌∙◌}
use lib.Dec.{lit<}
use lib.IntN.{nat_abs}
use Rattle.algebra.proofs.Sized.{held}
use Rattle.classify_prepared.proofs.upper_square.Goals as goal

upper_is : (c : goal.After-unsigned_abs-n) → c.unsigned_abs-n.result / 1024 ≡ nat_abs c.args.a / 1024
upper_is c = ap (λ n. n / 1024) (c.unsigned_abs-n.ensures.value ∙ ap nat_abs (held c.requires tt).eq)

upper_most : (c : goal.After-unsigned_abs-n) → c.unsigned_abs-n.result / 1024 ≤ 2 ^ 31
upper_most c = subst (λ n. n ≤ 2 ^ 31) (sym (upper_is c)) (omega (arith, c.requires.le))

pub overflow_mul-result : goal.overflow_mul-result
overflow_mul-result c = record { fits = lt_of_le_of_lt (mul-le-mul (upper_most c) (upper_most c)) (lit< tt) }

pub returns : goal.returns
returns c = ((λ i. upper_is c i * upper_is c i), mul-le-mul (upper_most c) (upper_most c))
