-- `mesh_jump::at_corner` gives the numbers of the child at the first corner; none of them is near 2⁶³. Assumes nothing.
use mathlib.Core.Path.{◌≡◌, ◌∙◌}
use lib.IntN.{pos, ◌*ℤ◌}
use Rattle.algebra.proofs.Sized.{held, lit, is_sub, is_mul}
use Rattle.mesh_jump.specs.Jumps.{less_of, at_corner}
use Rattle.mesh_jump.proofs.at_corner.Goals as goal

pub returns : goal.returns
returns g c =
    let w = c.requires.within in
    let u = c.requires.upto in
    let a = (is_sub (is_sub (held w.d0 tt) (held w.d1 tt) tt) (held w.d2 tt) tt).eq in
    let b = (held c.twice_less.ensures.1 tt).eq ∙ c.twice_less.ensures.0 ∙ (λ i. less_of (pos 2 *ℤ (held w.d1 tt).eq i) ((held u.0 tt).eq i)) in
    let d = (held c.twice_less-2.ensures.1 tt).eq ∙ c.twice_less-2.ensures.0 ∙ (λ i. less_of (pos 2 *ℤ (held w.d2 tt).eq i) ((held u.1 tt).eq i)) in
    let m = (is_mul (lit 2 tt) (held w.margin tt) tt).eq in
    let e : _ ≡ at_corner c.args.n c.args.b c.args.c = λ i. record { d0 = a i; d1 = b i; d2 = d i; margin = m i } in
    e
