-- `mesh_bends::bend_by` is the rule's bend: s is at most 2²⁶ and its square, divided, at most 2²⁸. Assumes nothing.
use native.Mathlib.Omega.{arith}
use Rattle.algebra.proofs.Sized.{held, lit, is_mul, is_add, is_div, fits_mul, fits_add}
use Rattle.mesh_bends.proofs.QuotientSizes.{is_quotient}
use Rattle.mesh_bends.proofs.bend_by.Goals as goal

pub overflow_mul-result : goal.overflow_mul-result
overflow_mul-result c = let s2 = is_quotient 16777216 (omega arith) tt (is_mul (held c.requires tt) (held c.requires tt) tt) tt in fits_mul s2 (held c.requires tt) tt

pub overflow_add-result-2 : goal.overflow_add-result-2
overflow_add-result-2 c =
    let s2 = is_quotient 16777216 (omega arith) tt (is_mul (held c.requires tt) (held c.requires tt) tt) tt in
    fits_add (is_add (is_div (held c.requires tt) (lit 4 tt) tt) (is_div s2 (lit 32 tt) tt) tt) (is_div (is_mul s2 (held c.requires tt) tt) (lit 2147483648 tt) tt) tt

pub returns : goal.returns
returns c =
    let s2 = is_quotient 16777216 (omega arith) tt (is_mul (held c.requires tt) (held c.requires tt) tt) tt in
    (is_add (is_add (is_div (held c.requires tt) (lit 4 tt) tt) (is_div s2 (lit 32 tt) tt) tt) (is_div (is_mul s2 (held c.requires tt) tt) (lit 2147483648 tt) tt) tt).eq
