-- `classify_rays::reaches_exactly` compares two squares of two words: x² is not less than g² (r·r). Assumes nothing.
use Prim.Native.Nat.{◌*◌, ◌^◌, ◌≤◌}
use native.Mathlib.Nat.{mul_comm, mul-le-mul, lt_of_le_of_lt}
use mathlib.Core.Path.{sym, ap, subst, ◌∙◌}
use mathlib.Core.Bool.{not}
use lib.Dec.{leb, ltb, lit<}
use Rattle.algebra.proofs.Tests.{not_less}
use Rattle.wide.specs.Value.{value_of}
use Rattle.vector.proofs.SizeLaws.{dot_upto}
use Rattle.classify_rays.proofs.reaches_exactly.Goals as goal

length_most : (c : goal.After-square_length) → value_of c.square_length.result ≤ 3 * 2 ^ 82
length_most c = let l = c.requires.2 in subst (λ n. n ≤ 3 * 2 ^ 82) (sym c.square_length.ensures) (dot_upto l l).le

pub square_length-requires : goal.square_length-requires
square_length-requires c = c.requires.2

pub overflow_mul-g : goal.overflow_mul-g
overflow_mul-g c = let p = c.requires in record { fits = lt_of_le_of_lt (mul-le-mul p.1 p.1) (lit< tt) }

pub times-wanted-requires : goal.times-wanted-requires
times-wanted-requires c = let p = c.requires in lt_of_le_of_lt (mul-le-mul (length_most c) (mul-le-mul p.1 p.1)) (lit< tt)

pub returns : goal.returns
returns c =
    let x = c.args in
    let n = value_of c.square_length.result in
    ap not (c.less.ensures ∙ (λ i. ltb (c.product-given.ensures i) (c.times-wanted.ensures i)))
    ∙ not_less (n * (x.g * x.g)) (x.x * x.x)
    ∙ ap (λ m. leb m (x.x * x.x)) (mul_comm n (x.g * x.g) ∙ ap (λ n. x.g * x.g * n) c.square_length.ensures)
