-- `classify_halfspace::least::far_from`: where f is not far at K, or one product b·r is not positive, it is not far from the cap. Assumes nothing.
use Prim.Native.Nat.{ℕ, ◌*◌, ◌^◌}
use mathlib.Core.Path.{◌≡◌, sym, subst, ◌∙◌}
use mir.Syntax.{w64}
use mir.Val.{to_z, of_z}
use lib.IntN.{ℤ}
use Rattle.algebra.proofs.Sizes.{Upto}
use Rattle.algebra.proofs.Sized.{held}
use Rattle.algebra.proofs.Tests.{and_then, and_no_right}
use Rattle.vector.specs.declared.Vec3.{Vec3}
use Rattle.vector.specs.Vectors.{dot}
use Rattle.vector.proofs.Sizes.{Small}
use Rattle.mesh.specs.declared.Trixel.{Trixel}
use Rattle.classify.specs.Shape.{ahead, b_of}
use Rattle.classify_prepared.specs.declared.PreparedHalfspace.{PreparedHalfspace}
use Rattle.classify_prepared.specs.Measures.{SoundHalfspace}
use Rattle.classify_rays.proofs.RayLaws.{own_rays}
use Rattle.classify_cap.proofs.CapLaws.{sound_beside, ahead_is, reach_of}
use Rattle.classify_halfspace.specs.LeastFar.{far_by, FarBounds}
use Rattle.classify_halfspace.proofs.LeastFarLaws.{far_bounds, far_by_law, near_at_K}
use Rattle.classify_halfspace.proofs.least.far_from.Goals as goal

-- a number as its bits have it
abbrev bits : ℤ → ℤ
bits z = to_z w64 (of_z w64 z)

-- what is asked of f and b
module _ {q : PreparedHalfspace} {b : Vec3} {x y : ℤ} (h : SoundHalfspace q) (s : Small b) (e : x ≡ dot q.f b) (f : y ≡ dot b b) where
  low : bits q.low ≡ q.low
  low = (held (far_bounds h s).low tt).eq

  rest : bits q.rest ≡ q.rest
  rest = (held (far_bounds h s).rest.size tt).eq

  along : bits x ≡ dot q.f b
  along = (held (subst (Upto (3 * 2 ^ 40)) (sym e) (far_bounds h s).along) tt).eq ∙ e

  square : bits y ≡ dot b b
  square = (held (subst (Upto (3 * 2 ^ 40)) (sym f) (far_bounds h s).square.size) tt).eq ∙ f

  bounds : FarBounds (bits q.low) (bits q.rest) (bits x) (bits y)
  bounds = rw (low, rest, along, square) (far_bounds h s)

  same : (t : Trixel) → b ≡ b_of t → (n : ℕ)
      → far_by (bits q.low) (bits q.rest) (bits x) (bits y) n ≡ far_by q.low q.rest (dot q.f (b_of t)) (dot (b_of t) (b_of t)) n
  same t k n = (λ i. far_by (low i) (rest i) (along i) (square i) n) ∙ (λ i. far_by q.low q.rest (dot q.f (k i)) (dot (k i) (k i)) n)

pub dot-requires-clause-small : goal.dot-requires-clause-small
dot-requires-clause-small c = (sound_beside c.requires.sound_halfspace).small

pub invariant_of-h : goal.invariant_of-h
invariant_of-h c = record { bounded = bounds c.requires.sound_halfspace c.middle_of-b.ensures.small c.dot.ensures.value c.dot-2.ensures.value }

pub returns-then-not-far_at : goal.returns-then-not-far_at
returns-then-not-far_at c =
    let t = c.args.t.now in
    let h = c.requires.sound_halfspace in
    let k = same h c.middle_of-b.ensures.small c.dot.ensures.value c.dot-2.ensures.value t c.middle_of-b.ensures.value _ in
    sym (and_no_right (ahead (b_of t) t) (near_at_K h t (sym k ∙ sym c.far_at.ensures ∙ c.if-not-far_at.true)))

pub products_of-requires : goal.products_of-requires
products_of-requires c = record { small = c.middle_of-b.ensures.small; own_rays = own_rays c.requires.small_trixel.1 }

pub returns-in-Some : goal.returns-in-Some
returns-in-Some c =
    let t = c.args.t.now in
    let h = c.requires.sound_halfspace in
    let m = c.middle_of-b.ensures in
    let s = c.requires.small_trixel.1 in
    let p = c.in-Some.ensures in
    c.far_at_reach.ensures ∙ same h m.small c.dot.ensures.value c.dot-2.ensures.value t m.value _ ∙ far_by_law h t (reach_of s m.value c.in-Some.p p.1 p.2)
    ∙ and_then _ (sym (ahead_is s m.value) ∙ p.0)
