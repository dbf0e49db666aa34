-- `classify_halfspace::encloses` is the test: f·b is at most 3·2⁴⁰, G and E are some 2²⁰ and the rest at most 3·2⁴⁰, so that each product stays below
-- 2⁶³. Assumes nothing.
use Prim.Native.Nat.{◌+◌, ◌*◌}
use mathlib.Core.Path.{◌≡◌, sym, ap, subst, ◌∙◌}
use mathlib.Core.Bool.{◌&&◌}
use lib.Dec.{lit≤}
use lib.IntN.{ℤ, pos, ◌-ℤ◌, ◌*ℤ◌}
use lib.Signed.{le_z, lt_z}
use Rattle.algebra.proofs.Sizes.{Upto}
use Rattle.algebra.proofs.Tests.{and_then, le_yes}
use Rattle.algebra.proofs.Sized.{held, upto_mono, is_mul, is_sub, fits_mul, fits_sub, same_lt, same_le}
use Rattle.vector.specs.Numbers.{Kℕ}
use Rattle.vector.proofs.SizeLaws.{at_most_mono, dot_upto}
use Rattle.classify.specs.Shape.{positive}
use Rattle.classify_prepared.proofs.PreparedLaws.{sound_near}
use Rattle.classify_cap.proofs.CapLaws.{sound_beside, reached, cap_beside}
use Rattle.classify_halfspace.proofs.FarLaws.{rest_prepared, cap_rest, cap_clearance, no_rest, too_wide, enclosed_is, enclosed_beyond}
use Rattle.vector.specs.Vectors.{dot}
use Rattle.mesh.specs.declared.Trixel.{Trixel}
use Rattle.classify_prepared.specs.declared.PreparedHalfspace.{PreparedHalfspace}
use Rattle.classify_prepared.specs.Measures.{SoundHalfspace}
use Rattle.classify_cap.specs.declared.CapReach.{CapReach}
use Rattle.vector.specs.declared.Vec3.{Vec3}
use Rattle.classify_cap.specs.Middle.{IsReach}
use Rattle.classify_halfspace.proofs.encloses.Goals as goal

-- f·b
along : {q : PreparedHalfspace} {t : Trixel} {b : Vec3} {m : CapReach} {x : ℤ} → SoundHalfspace q → IsReach t b m → x ≡ dot q.f b
    → Upto (Kℕ * Kℕ + Kℕ * Kℕ + Kℕ * Kℕ) x
along h k e = subst (Upto (Kℕ * Kℕ + Kℕ * Kℕ + Kℕ * Kℕ)) (sym e) (dot_upto (sound_beside h).small (cap_beside k).small)

pub dot-requires : goal.dot-requires
dot-requires c = record {
  small = (sound_beside c.requires.sound_halfspace).small;
  at_most = at_most_mono (lit≤ tt) (cap_beside (reached c.requires.bounding_cap c.in-Some.is)).small;
}

pub overflow_mul-inward : goal.overflow_mul-inward
overflow_mul-inward c =
    fits_mul (held (sound_near c.requires.sound_halfspace) tt) (held (cap_beside (reached c.requires.bounding_cap c.in-Some.is)).size tt) tt

pub overflow_sub-inward : goal.overflow_sub-inward
overflow_sub-inward c =
    let h = c.requires.sound_halfspace in
    let k = reached c.requires.bounding_cap c.in-Some.is in
    fits_sub (held (along h k c.dot.ensures.value) tt) (is_mul (held (sound_near h) tt) (held (cap_beside k).size tt) tt) tt

-- beyond the clearance
pub returns-then-c-inward : goal.returns-then-c-inward
returns-then-c-inward c =
    let h = c.requires.sound_halfspace in
    let k = reached c.requires.bounding_cap c.in-Some.is in
    let high = held (sound_near h) tt in
    let reach = held (cap_beside k).size tt in
    let z = is_sub (held (along h k c.dot.ensures.value) tt) (is_mul high reach tt) tt in
    let l = sym (same_le (held (cap_clearance k) tt) z) ∙ c.if-c-inward.true in
    enclosed_beyond h k (le_yes l) (upto_mono (lit≤ tt) z.size) (ap (λ x. x -ℤ c.args.q.high *ℤ c.in-Some.c.reach) c.dot.ensures.value)
    ∙ and_then _ (k.ahead)

pub returns-then-c-le0 : goal.returns-then-c-le0
returns-then-c-le0 c =
    let h = c.requires.sound_halfspace in
    let k = reached c.requires.bounding_cap c.in-Some.is in
    no_rest c.args.q k (ap (λ x. le_z x (pos 0)) (sym (held (cap_rest k).size tt).eq) ∙ c.if-c-le0.true) ∙ and_then _ (k.ahead)

pub overflow_mul-inward-2 : goal.overflow_mul-inward-2
overflow_mul-inward-2 c =
    let h = c.requires.sound_halfspace in
    let k = reached c.requires.bounding_cap c.in-Some.is in
    let high = held (sound_near h) tt in
    let reach = held (cap_beside k).size tt in
    let z = is_sub (held (along h k c.dot.ensures.value) tt) (is_mul high reach tt) tt in
    fits_mul z reach tt

pub overflow_mul-c : goal.overflow_mul-c
overflow_mul-c c =
    fits_mul (held (cap_rest (reached c.requires.bounding_cap c.in-Some.is)).size tt) (held (sound_near c.requires.sound_halfspace) tt) tt

-- M·E against S·G, by the numbers themselves
pub returns-then-inward-c : goal.returns-then-inward-c
returns-then-inward-c c =
    let h = c.requires.sound_halfspace in
    let k = reached c.requires.bounding_cap c.in-Some.is in
    let high = held (sound_near h) tt in
    let reach = held (cap_beside k).size tt in
    let z = is_sub (held (along h k c.dot.ensures.value) tt) (is_mul high reach tt) tt in
    too_wide h k (ap (λ x. x -ℤ c.args.q.high *ℤ c.in-Some.c.reach) c.dot.ensures.value)
    (sym (same_lt (is_mul z reach tt) (is_mul (held (cap_rest k).size tt) high tt)) ∙ c.if-inward-c.true)
    ∙ and_then _ (k.ahead)

pub square_exceeds-requires : goal.square_exceeds-requires
square_exceeds-requires c =
    let h = c.requires.sound_halfspace in
    let k = reached c.requires.bounding_cap c.in-Some.is in
    let high = held (sound_near h) tt in
    let reach = held (cap_beside k).size tt in
    let z = is_sub (held (along h k c.dot.ensures.value) tt) (is_mul high reach tt) tt in
    let p = rest_prepared h in
    let q = cap_rest k in
    record {
      upto = rw z.eq (upto_mono (lit≤ tt) z.size);
      rest = (rw (held p.size tt).eq p, rw (held q.size tt).eq q);
    }

pub returns : goal.returns
returns c =
    let h = c.requires.sound_halfspace in
    let k = reached c.requires.bounding_cap c.in-Some.is in
    let high = held (sound_near h) tt in
    let reach = held (cap_beside k).size tt in
    let z = is_sub (held (along h k c.dot.ensures.value) tt) (is_mul high reach tt) tt in
    let p = held (rest_prepared h).size tt in
    let q = held (cap_rest k).size tt in
    c.square_exceeds.ensures
    ∙ (λ i. positive (z.eq i) && lt_z (p.eq i *ℤ q.eq i) (z.eq i *ℤ z.eq i))
    ∙ enclosed_is h k (ap (λ x. x -ℤ c.args.q.high *ℤ c.in-Some.c.reach) c.dot.ensures.value)
    (ap (λ x. le_z x (pos 0)) (sym q.eq) ∙ c.if-c-le0.false)
    (sym (same_lt (is_mul z reach tt) (is_mul q high tt)) ∙ c.if-inward-c.false)
    ∙ and_then _ (k.ahead)
