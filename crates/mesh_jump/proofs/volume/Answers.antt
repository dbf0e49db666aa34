-- `mesh_jump::volume` is the determinant of two vectors and a pushed third. Assumes nothing.
use Prim.Native.Nat.{◌+◌, ◌*◌, ◌^◌}
use mathlib.Core.Path.{◌≡◌, refl, ap, subst, sym, ◌∙◌}
use lib.IntN.{ℤ, ◌+ℤ◌, ◌-ℤ◌, ◌*ℤ◌}
use Rattle.algebra.proofs.Ring.{con, ◌:+◌, ◌:-◌, ◌:*◌}
use Rattle.algebra.proofs.Claim.{◌:≡◌, ring}
use Rattle.algebra.proofs.Sizes.{Upto}
use Rattle.algebra.proofs.Sized.{held, is_add}
use Rattle.jump.proofs.Jump.{det}
use Rattle.jump.proofs.JumpInvariant.{pushed}
use Rattle.jump.proofs.JumpConstants.{δ}
use Rattle.jump.proofs.UnitLaws.{three}
use Rattle.vector.specs.declared.Vec3.{Vec3}
use Rattle.vector.specs.Vectors.{dot, cross}
use Rattle.mesh_jump.proofs.volume.Goals as goal

-- c·n and what the push adds along n are n·(c pushed)
pushed_volume : (a b c n : Vec3) → n ≡ cross a b → dot c n +ℤ δ *ℤ (n.x +ℤ n.y -ℤ n.z) ≡ det (three a) (three b) (pushed δ (three c))
pushed_volume a b c n e = ap (λ n. dot c n +ℤ δ *ℤ (n.x +ℤ n.y -ℤ n.z)) e
    ∙ both (cross a b).x (cross a b).y (cross a b).z c.x c.y c.z
  where
    both : (x y z p q r : ℤ) → p *ℤ x +ℤ q *ℤ y +ℤ r *ℤ z +ℤ δ *ℤ (x +ℤ y -ℤ z) ≡ x *ℤ (p +ℤ δ) +ℤ y *ℤ (q +ℤ δ) +ℤ z *ℤ (r -ℤ δ)
    both = ring 6 (λ x y z p q r. p :* x :+ q :* y :+ r :* z :+ con δ :* (x :+ y :- z) :≡ x :* (p :+ con δ) :+ y :* (q :+ con δ) :+ z :* (r :- con δ)) refl

pub returns : goal.returns
returns c =
    let d = c.before in
    let x = d.before in
    let s = x in
    let r = is_add (held d.dot.ensures.upto tt) (held c.push_along.ensures.1 tt) tt in (
      r.eq ∙ (λ i. d.dot.ensures.value i +ℤ c.push_along.ensures.0 i) ∙ pushed_volume s.args.a s.args.b s.args.c x.cross-n.result x.cross-n.ensures.value,
      subst (Upto (3 * 2 ^ 61 + 15 * 2 ^ 41)) (sym r.eq) r.size,
    )
