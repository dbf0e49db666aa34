-- `classify_halfspace::square_passes`: a large m passes; where a filter tells, it is right, and else two words are compared. Assumes nothing.
use native.Mathlib.Nat.{le_of_lt}
use mathlib.Core.Path.{sym, ◌∙◌}
use borrow.Author.Tests.{leb-true, lt-ltb, le-ltb}
use Rattle.algebra.proofs.Filters.{square_surely, square_surely_not}
use Rattle.classify_halfspace.proofs.square_passes.Goals as goal

pub returns-then-product_within : goal.returns-then-product_within
returns-then-product_within c =
    let a = c.args in
    sym (lt-ltb _ _ (square_surely a.m a.p a.q (leb-true _ _ (sym c.product_within.ensures ∙ c.if-product_within.true))))

pub returns-then-square_within : goal.returns-then-square_within
returns-then-square_within c =
    let a = c.args in
    sym (le-ltb _ _ (le_of_lt (square_surely_not a.m a.p a.q (leb-true _ _ (sym c.square_within.ensures ∙ c.if-square_within.true)))))
