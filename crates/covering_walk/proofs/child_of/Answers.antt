-- `covering_walk::child_of` gives each child the ray that is its first one. Assumes nothing.
use Rattle.std.proofs.Common.{◌∙◌, arith}
use Rattle.covering_walk.proofs.ChildLaws.{is_first, is_second, is_third, is_fourth}
use Rattle.covering_walk.proofs.child_of.Goals as goal

pub returns-in-0 : goal.returns-in-0
returns-in-0 c = c.stored.ensures ∙ is_first c.requires.0 c.in-0.is c.child0.ensures.0

pub returns-in-1 : goal.returns-in-1
returns-in-1 c = c.stored-in-1.ensures ∙ is_second c.requires.0 c.in-1.is c.child1.ensures.0

pub returns-in-2 : goal.returns-in-2
returns-in-2 c = c.stored-in-2.ensures ∙ is_third c.requires.0 c.in-2.is c.child2.ensures.0

pub returns-in_default : goal.returns-in_default
returns-in_default c = c.stored-in_default.ensures ∙ is_fourth c.requires.0 (omega (arith, c.requires.1)) c.child3-last.ensures.0
