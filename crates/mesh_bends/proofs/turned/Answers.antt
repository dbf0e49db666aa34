-- `mesh_bends::turned` gives the bends from corner number k on. Assumes nothing.
use mathlib.Core.Path.{◌≡◌, refl, sym, subst, ◌∙◌}
use borrow.Author.Tests.{eq-eqb}
use Rattle.algebra.proofs.Sized.{held}
use Rattle.mesh_bends.specs.Bends.{bends, turned_bends, SmallBends}
use Rattle.mesh_bends.proofs.turned.Goals as goal

pub returns-in-1 : goal.returns-in-1
returns-in-1 c =
    let a = c.args.a in
    let p = c.requires in
    let e : _ ≡ bends a.a1 a.a2 a.a0 = λ i. bends ((held p.a1 tt).eq i) ((held p.a2 tt).eq i) ((held p.a0 tt).eq i) in
    let is : bends a.a1 a.a2 a.a0 ≡ turned_bends c.args.k a = rw (eq-eqb c.args.k 1 c.in-1.is) refl in
    (e ∙ is, subst SmallBends (sym e) (record { a0 = p.a1; a1 = p.a2; a2 = p.a0; nn0 = p.nn1; nn1 = p.nn2; nn2 = p.nn0 }))
