-- `mesh_jump::child_numbers` gives the numbers of the child by its digit. Assumes nothing.
use native.Mathlib.Omega.{arith}
use mathlib.Core.Path.{refl, ap, ◌∙◌}
use Rattle.mesh_jump.specs.Jumps.{turned_of}
use Rattle.mesh_jump.proofs.GivenLaws.{cornered, sure_0, sure_1, sure_2, sure_3, in_the_middle, given_low}
use Rattle.mesh_jump.proofs.child_numbers.Goals as goal

pub returns-in-0 : goal.returns-in-0
returns-in-0 g c =
    let p = c.requires.small_bends in
    sure_0 c.args.n c.args.a _ _ c.requires.given c.in-0.is (c.at_corner.ensures ∙ cornered c.args.n refl p.a2 p.a1)

pub returns-in-1 : goal.returns-in-1
returns-in-1 g c =
    let p = c.requires.small_bends in
    sure_1 c.args.n c.args.a _ _ c.requires.given c.in-1.is (c.at_corner-in-1.ensures ∙ cornered c.turned.result c.turned.ensures.0 p.a0 p.a2)

pub returns-in-2 : goal.returns-in-2
returns-in-2 g c =
    let p = c.requires.small_bends in
    sure_2 c.args.n c.args.a _ _ c.requires.given c.in-2.is
    (c.at_corner-in-2.ensures ∙ cornered c.turned-in-2-2.result (c.turned-in-2-2.ensures.0 ∙ ap turned_of c.turned-in-2.ensures.0) p.a1 p.a0)

pub in_middle-requires-clause-in_middle : goal.in_middle-requires-clause-in_middle
in_middle-requires-clause-in_middle g c =
    in_the_middle c.args.n c.requires.not_negative.margin _ c.requires.given (omega (arith, given_low c.requires.given))

pub returns-in_default : goal.returns-in_default
returns-in_default g c = sure_3 c.args.n c.args.a _ _ c.requires.given (omega (arith, given_low c.requires.given)) c.in_middle.ensures
