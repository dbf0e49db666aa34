-- `classify_halfspace::far` is the test: D·E − c stays below 2⁶³. Assumes nothing.
use Prim.Native.Nat.{◌+◌, ◌*◌}
use mathlib.Core.Path.{◌≡◌, ap, subst, sym, ◌∙◌}
use mathlib.Core.Bool.{◌&&◌}
use lib.Dec.{lit≤}
use lib.IntN.{ℤ, ◌-ℤ◌, ◌*ℤ◌}
use lib.Signed.{lt_z}
use Rattle.algebra.proofs.Sizes.{Upto}
use Rattle.algebra.proofs.Tests.{and_then, le_yes}
use Rattle.algebra.proofs.Sized.{held, upto_mono, is_mul, is_sub, fits_mul, fits_sub, same_le}
use Rattle.vector.specs.Numbers.{Kℕ}
use Rattle.vector.proofs.SizeLaws.{at_most_mono, dot_upto}
use Rattle.classify.specs.Shape.{positive}
use Rattle.classify_cap.proofs.CapLaws.{sound_beside, reached, cap_beside}
use Rattle.classify_halfspace.proofs.FarLaws.{rest_prepared, cap_rest, cap_clearance, far_is, far_beyond}
use Rattle.vector.specs.Vectors.{dot}
use Rattle.mesh.specs.declared.Trixel.{Trixel}
use Rattle.classify_prepared.specs.declared.PreparedHalfspace.{PreparedHalfspace}
use Rattle.classify_prepared.specs.Measures.{SoundHalfspace}
use Rattle.classify_cap.specs.declared.CapReach.{CapReach}
use Rattle.vector.specs.declared.Vec3.{Vec3}
use Rattle.classify_cap.specs.Middle.{IsReach}
use Rattle.classify_halfspace.proofs.far.Goals as goal

-- f·b
along : {q : PreparedHalfspace} {t : Trixel} {b : Vec3} {m : CapReach} {x : ℤ} → SoundHalfspace q → IsReach t b m → x ≡ dot q.f b
    → Upto (Kℕ * Kℕ + Kℕ * Kℕ + Kℕ * Kℕ) x
along h k e = subst (Upto (Kℕ * Kℕ + Kℕ * Kℕ + Kℕ * Kℕ)) (sym e) (dot_upto (sound_beside h).small (cap_beside k).small)

pub overflow_mul-past : goal.overflow_mul-past
overflow_mul-past c =
    fits_mul (held (sound_beside c.requires.sound_halfspace).size tt) (held (cap_beside (reached c.requires.bounding_cap c.in-Some.is)).size tt) tt

pub dot-requires : goal.dot-requires
dot-requires c = record {
  small = (sound_beside c.requires.sound_halfspace).small;
  at_most = at_most_mono (lit≤ tt) (cap_beside (reached c.requires.bounding_cap c.in-Some.is)).small;
}

pub overflow_sub-past : goal.overflow_sub-past
overflow_sub-past c =
    let h = c.requires.sound_halfspace in
    let k = reached c.requires.bounding_cap c.in-Some.is in
    fits_sub (is_mul (held (sound_beside h).size tt) (held (cap_beside k).size tt) tt) (held (along h k c.dot.ensures.value) tt) tt

-- beyond the clearance
pub returns-then-c-past : goal.returns-then-c-past
returns-then-c-past c =
    let h = c.requires.sound_halfspace in
    let k = reached c.requires.bounding_cap c.in-Some.is in
    let z = is_sub (is_mul (held (sound_beside h).size tt) (held (cap_beside k).size tt) tt) (held (along h k c.dot.ensures.value) tt) tt in
    let l = sym (same_le (held (cap_clearance k) tt) z) ∙ c.if-c-past.true in
    c.if-c-past.true
    ∙ far_beyond h k (le_yes l) (upto_mono (lit≤ tt) z.size) (ap (λ x. c.args.q.low *ℤ c.in-Some.c.reach -ℤ x) c.dot.ensures.value)
    ∙ and_then _ (k.ahead)

pub square_exceeds-requires : goal.square_exceeds-requires
square_exceeds-requires c =
    let h = c.requires.sound_halfspace in
    let k = reached c.requires.bounding_cap c.in-Some.is in
    let z = is_sub (is_mul (held (sound_beside h).size tt) (held (cap_beside k).size tt) tt) (held (along h k c.dot.ensures.value) tt) tt in
    let p = rest_prepared h in
    let q = cap_rest k in
    record {
      upto = rw z.eq (upto_mono (lit≤ tt) z.size);
      rest = (rw (held p.size tt).eq p, rw (held q.size tt).eq q);
    }

pub returns-else-c-past : goal.returns-else-c-past
returns-else-c-past c =
    let h = c.requires.sound_halfspace in
    let k = reached c.requires.bounding_cap c.in-Some.is in
    let z = is_sub (is_mul (held (sound_beside h).size tt) (held (cap_beside k).size tt) tt) (held (along h k c.dot.ensures.value) tt) tt in
    let p = held (rest_prepared h).size tt in
    let q = held (cap_rest k).size tt in
    c.square_exceeds.ensures
    ∙ (λ i. positive (z.eq i) && lt_z (p.eq i *ℤ q.eq i) (z.eq i *ℤ z.eq i))
    ∙ far_is h k (ap (λ x. c.args.q.low *ℤ c.in-Some.c.reach -ℤ x) c.dot.ensures.value)
    ∙ and_then _ (k.ahead)
