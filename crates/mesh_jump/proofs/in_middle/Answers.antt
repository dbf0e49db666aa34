-- `mesh_jump::in_middle` gives the numbers of the child in the middle; none of them is near 2⁶³. Assumes nothing.
use Prim.Native.Nat.{◌^◌}
use mathlib.Core.Path.{◌≡◌, ◌∙◌}
use lib.IntN.{ℤ, ◌+ℤ◌, ◌-ℤ◌}
use mir.Syntax.{w64}
use mir.Val.{to_z, of_z}
use Rattle.algebra.proofs.Sizes.{Upto}
use Rattle.algebra.proofs.Sized.{held, lit, is_mul}
use Rattle.mesh_jump.specs.Jumps.{less_of, in_middle}
use Rattle.mesh_jump.proofs.in_middle.Goals as goal

-- three numbers and a bend, as their bits have them
less : {x y z a : ℤ} (p : Upto (2 ^ 61) x) (q : Upto (2 ^ 61) y) (r : Upto (2 ^ 61) z) (b : Upto (2 ^ 20) a)
    → less_of (to_z w64 (of_z w64 x) +ℤ to_z w64 (of_z w64 y) -ℤ to_z w64 (of_z w64 z)) (to_z w64 (of_z w64 a)) ≡ less_of (x +ℤ y -ℤ z) a
less p q r b = λ i. less_of ((held p tt).eq i +ℤ (held q tt).eq i -ℤ (held r tt).eq i) ((held b tt).eq i)

pub returns : goal.returns
returns g c =
    let w = c.requires.within in
    let u = c.requires.small_bends in
    let a = (held c.excess_less.ensures.1 tt).eq ∙ c.excess_less.ensures.0 ∙ less w.d1 w.d2 w.d0 u.a0 in
    let b = (held c.excess_less-2.ensures.1 tt).eq ∙ c.excess_less-2.ensures.0 ∙ less w.d0 w.d2 w.d1 u.a1 in
    let d = (held c.excess_less-3.ensures.1 tt).eq ∙ c.excess_less-3.ensures.0 ∙ less w.d0 w.d1 w.d2 u.a2 in
    let m = (is_mul (lit 2 tt) (held w.margin tt) tt).eq in
    let e : _ ≡ in_middle c.args.n c.args.a = λ i. record { d0 = a i; d1 = b i; d2 = d i; margin = m i } in
    e
