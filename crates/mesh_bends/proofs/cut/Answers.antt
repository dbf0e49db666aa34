-- `mesh_bends::cut` is the rule's bend of the edge that a cut makes. Assumes nothing.
use Rattle.algebra.proofs.Sized.{held, lit, is_mul, is_add, is_sub, is_div, fits_mul}
use Rattle.mesh_bends.proofs.cut.Goals as goal

pub overflow_mul-result-then-first-2 : goal.overflow_mul-result-then-first-2
overflow_mul-result-then-first-2 c =
    let a = held c.requires.pos_bound.1 tt in
    let sum = held c.requires.upto tt in
    let b = is_add (lit 16537216 tt) (is_div (is_mul (lit 266 tt) sum tt) (lit 256 tt) tt) tt in
    fits_mul a (is_sub b (is_div (is_mul (lit 272 tt) a tt) (lit 256 tt) tt) tt) tt

pub returns-then-first : goal.returns-then-first
returns-then-first c =
    let a = held c.requires.pos_bound.1 tt in
    let sum = held c.requires.upto tt in
    let b = is_add (lit 16537216 tt) (is_div (is_mul (lit 266 tt) sum tt) (lit 256 tt) tt) tt in
    let p = is_mul a (is_sub b (is_div (is_mul (lit 272 tt) a tt) (lit 256 tt) tt) tt) tt in
    rw c.if-first.true (is_div p (lit 67108864 tt) tt).eq
