-- `mesh_jump::sure_digit` tests the three cuts in their order, each with the numbers from its corner on. Assumes nothing.
use mathlib.Core.Path.{ap, subst, ◌∙◌}
use Rattle.mesh_jump.specs.Jumps.{Above, Below, turned_of, given0, given1, given2, given3, not_given}
use Rattle.mesh_jump.proofs.sure_digit.Goals as goal

pub returns-then-is_above : goal.returns-then-is_above
returns-then-is_above c = given0 (c.is_above.ensures c.if-is_above.true)

pub returns-then-not-is_below : goal.returns-then-not-is_below
returns-then-not-is_below c = not_given

pub returns-then-is_above-2 : goal.returns-then-is_above-2
returns-then-is_above-2 c =
    given1 (c.is_below.ensures c.if-not-is_below.false)
    (subst Above c.turned-next.ensures.0 (c.is_above-2.ensures c.if-is_above-2.true))

pub returns-then-not-is_below-2 : goal.returns-then-not-is_below-2
returns-then-not-is_below-2 c = not_given

pub returns-then-is_above-3 : goal.returns-then-is_above-3
returns-then-is_above-3 c =
    given2 (c.is_below.ensures c.if-not-is_below.false)
    (subst Below c.turned-next.ensures.0 (c.is_below-2.ensures c.if-not-is_below-2.false))
    (subst Above (c.turned-last.ensures.0 ∙ ap turned_of c.turned-next.ensures.0) (c.is_above-3.ensures c.if-is_above-3.true))

pub returns-then-not-is_below-3 : goal.returns-then-not-is_below-3
returns-then-not-is_below-3 c = not_given

pub returns : goal.returns
returns c =
    given3 (c.is_below.ensures c.if-not-is_below.false)
    (subst Below c.turned-next.ensures.0 (c.is_below-2.ensures c.if-not-is_below-2.false))
    (subst Below (c.turned-last.ensures.0 ∙ ap turned_of c.turned-next.ensures.0) (c.is_below-3.ensures c.if-not-is_below-3.false))
