-- `classify_halfspace::beyond_edge` compares (f·P)² with (P·P)(f·f − D²), where f·P is negative. Assumes nothing.
use Prim.Native.Nat.{◌+◌, ◌*◌}
use mathlib.Core.Path.{◌≡◌, sym, ap, subst, ◌∙◌}
use mathlib.Core.Bool.{◌&&◌}
use lib.Dec.{lit≤}
use lib.IntN.{ℤ, pos, ◌-ℤ◌, ◌*ℤ◌}
use lib.Signed.{lt_z}
use Rattle.algebra.proofs.Sizes.{Upto}
use Rattle.algebra.proofs.Sized.{held, lit, upto_mono, is_sub, fits_sub}
use Rattle.vector.specs.declared.Vec3.{Vec3}
use Rattle.vector.specs.Numbers.{Kℕ}
use Rattle.vector.specs.Vectors.{dot}
use Rattle.vector.proofs.Sizes.{Small}
use Rattle.vector.proofs.SizeLaws.{at_most_mono, dot_upto}
use Rattle.classify.specs.Shape.{positive}
use Rattle.classify_prepared.specs.declared.PreparedHalfspace.{PreparedHalfspace}
use Rattle.classify_prepared.specs.Measures.{SoundHalfspace, Rest}
use Rattle.classify_prepared.proofs.PreparedLaws.{sound_small}
use Rattle.classify_halfspace.proofs.FarLaws.{rest_prepared}
use Rattle.classify_halfspace.proofs.EdgeLaws.{normal_rest, edge_is}
use Rattle.classify_halfspace.proofs.beyond_edge.Goals as goal

-- f·P
along : {q : PreparedHalfspace} {p : Vec3} {x : ℤ} → SoundHalfspace q → Small p → x ≡ dot q.f p → Upto (Kℕ * Kℕ + Kℕ * Kℕ + Kℕ * Kℕ) x
along h s e = subst (Upto (Kℕ * Kℕ + Kℕ * Kℕ + Kℕ * Kℕ)) (sym e) (dot_upto (sound_small h) s)

-- P·P
normal : {p : Vec3} {x : ℤ} → Small p → x ≡ dot p p → Rest x
normal s e = subst Rest (sym e) (normal_rest s)

pub dot-behind-requires : goal.dot-behind-requires
dot-behind-requires c = record {
  small = sound_small c.requires.sound_halfspace;
  at_most = at_most_mono (lit≤ tt) c.requires.small;
}

pub overflow_sub-behind : goal.overflow_sub-behind
overflow_sub-behind c =
    fits_sub (lit 0 tt) (held (along c.requires.sound_halfspace c.requires.small c.dot-behind.ensures.value) tt) tt

pub dot-requires : goal.dot-requires
dot-requires c = record {
  small = c.requires.small;
  at_most = at_most_mono (lit≤ tt) c.requires.small;
}

pub square_exceeds-requires : goal.square_exceeds-requires
square_exceeds-requires c =
    let h = c.requires.small in
    let z = is_sub (lit 0 tt) (held (along c.requires.sound_halfspace h c.dot-behind.ensures.value) tt) tt in
    let p = rest_prepared c.requires.sound_halfspace in
    let q = normal h c.dot.ensures.value in
    record {
      upto = rw z.eq (upto_mono (lit≤ tt) z.size);
      rest = (rw (held p.size tt).eq p, rw (held q.size tt).eq q);
    }

pub returns : goal.returns
returns c =
    let h = c.requires.small in
    let z = (is_sub (lit 0 tt) (held (along c.requires.sound_halfspace h c.dot-behind.ensures.value) tt) tt).eq ∙ ap (λ x. pos 0 -ℤ x) c.dot-behind.ensures.value in
    let p = (held (rest_prepared c.requires.sound_halfspace).size tt).eq in
    let q = (held (normal h c.dot.ensures.value).size tt).eq ∙ c.dot.ensures.value in
    c.square_exceeds.ensures
    ∙ (λ i. positive (z i) && lt_z (p i *ℤ q i) (z i *ℤ z i))
    ∙ edge_is c.requires.sound_halfspace c.args.p
