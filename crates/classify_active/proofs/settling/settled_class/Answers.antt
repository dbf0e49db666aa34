-- `classify_active::settling::settled_class` is the class of the rule: f·b is at most 3·2⁴⁰, D, G and E are some 2²⁰, so that each product stays below 2⁶³.
-- Assumes nothing.
use Prim.Native.Nat.{◌+◌, ◌*◌}
use mathlib.Core.Path.{◌≡◌, refl, sym, ap, subst, ◌∙◌}
use mathlib.Core.Bool.{Bool}
use lib.Dec.{lit≤}
use lib.IntN.{ℤ, ◌-ℤ◌, ◌*ℤ◌}
use lib.Signed.{le_z}
use mir.Syntax.{w64}
use mir.Val.{to_z, of_z}
use Rattle.algebra.proofs.Sizes.{Upto}
use Rattle.algebra.proofs.Sized.{held, is_mul, is_sub, fits_mul, fits_sub, same_le}
use Rattle.vector.specs.declared.Vec3.{Vec3}
use Rattle.vector.specs.Numbers.{Kℕ}
use Rattle.vector.proofs.Sizes.{Small}
use Rattle.vector.specs.Vectors.{dot}
use Rattle.vector.proofs.SizeLaws.{at_most_mono, dot_upto}
use Rattle.classify_prepared.specs.declared.PreparedHalfspace.{PreparedHalfspace}
use Rattle.classify_prepared.specs.Measures.{SoundHalfspace}
use Rattle.classify_active.specs.Anchor.{settled_by}
use Rattle.classify_halfspace.specs.Halfspaces.{class_within, class_apart}
use Rattle.classify_prepared.proofs.PreparedLaws.{sound_offset, sound_near}
use Rattle.classify_cap.proofs.CapLaws.{sound_beside}
use Rattle.classify_active.proofs.settling.settled_class.Goals as goal
use Rattle.classify_active.proofs.settling.settled_class.Goals.{After-dot-c}

-- f·b
along : {q : PreparedHalfspace} {b : Vec3} {x : ℤ} → SoundHalfspace q → Small b → x ≡ dot q.f b → Upto (Kℕ * Kℕ + Kℕ * Kℕ + Kℕ * Kℕ) x
along h s e = subst (Upto (Kℕ * Kℕ + Kℕ * Kℕ + Kℕ * Kℕ)) (sym e) (dot_upto (sound_beside h).small s)

-- the number that the bits of z stand for
abbrev bits : ℤ → ℤ
bits z = to_z w64 (of_z w64 z)

-- the two tests, by the numbers themselves
module _ (c : After-dot-c) {x : Bool} where
  past : le_z (bits c.args.r.margin) (bits (bits (bits c.args.q.low *ℤ bits c.args.r.reach) -ℤ bits c.dot-c.result)) ≡ x
      → le_z c.args.r.margin (c.args.q.low *ℤ c.args.r.reach -ℤ dot c.args.q.f c.args.r.b) ≡ x
  past k =
      let h = c.requires.sound_halfspace in
      let r = c.requires.anchor in
      (λ i. le_z c.args.r.margin (c.args.q.low *ℤ c.args.r.reach -ℤ sym c.dot-c.ensures.value i))
      ∙ sym (same_le (held r.margin tt) (is_sub (is_mul (held (sound_beside h).size tt) (held r.reach tt) tt) (held (along h r.b c.dot-c.ensures.value) tt) tt))
      ∙ k

  inward : le_z (bits c.args.r.margin) (bits (bits c.dot-c.result -ℤ bits (bits c.args.q.high *ℤ bits c.args.r.reach))) ≡ x
      → le_z c.args.r.margin (dot c.args.q.f c.args.r.b -ℤ c.args.q.high *ℤ c.args.r.reach) ≡ x
  inward k =
      let h = c.requires.sound_halfspace in
      let r = c.requires.anchor in
      (λ i. le_z c.args.r.margin (sym c.dot-c.ensures.value i -ℤ c.args.q.high *ℤ c.args.r.reach))
      ∙ sym (same_le (held r.margin tt) (is_sub (held (along h r.b c.dot-c.ensures.value) tt) (is_mul (held (sound_near h) tt) (held r.reach tt) tt) tt))
      ∙ k

pub dot-c-requires : goal.dot-c-requires
dot-c-requires c = record {
  small = (sound_beside c.requires.sound_halfspace).small;
  at_most = at_most_mono (lit≤ tt) c.requires.anchor.b;
}

pub overflow_mul-q : goal.overflow_mul-q
overflow_mul-q c = fits_mul (held (sound_beside c.requires.sound_halfspace).size tt) (held c.requires.anchor.reach tt) tt

pub overflow_sub-q : goal.overflow_sub-q
overflow_sub-q c =
    let h = c.requires.sound_halfspace in
    let r = c.requires.anchor in
    fits_sub (is_mul (held (sound_beside h).size tt) (held r.reach tt) tt) (held (along h r.b c.dot-c.ensures.value) tt) tt

pub returns-then-r-q : goal.returns-then-r-q
unfolding settled_by
returns-then-r-q c =
    let d = (goal.at.returns-then-r-q c).After-dot-c in
    rw (past d c.if-r-q.true) (c.class_apart.ensures ∙ ap class_apart (held (sound_offset c.requires.sound_halfspace) tt).eq)

pub overflow_mul-q-2 : goal.overflow_mul-q-2
overflow_mul-q-2 c = fits_mul (held (sound_near c.requires.sound_halfspace) tt) (held c.requires.anchor.reach tt) tt

pub overflow_sub-c : goal.overflow_sub-c
overflow_sub-c c =
    let h = c.requires.sound_halfspace in
    let r = c.requires.anchor in
    fits_sub (held (along h r.b c.dot-c.ensures.value) tt) (is_mul (held (sound_near h) tt) (held r.reach tt) tt) tt

pub returns-then-r-c : goal.returns-then-r-c
unfolding settled_by
returns-then-r-c c =
    let d = (goal.at.returns-then-r-c c).After-dot-c in
    rw (past d c.if-r-q.false, inward d c.if-r-c.true) (c.class_within.ensures ∙ ap class_within (held (sound_offset c.requires.sound_halfspace) tt).eq)

pub returns : goal.returns
unfolding settled_by
returns c =
    let d = (goal.at.returns c).After-dot-c in
    rw (past d c.if-r-q.false, inward d c.if-r-c.false) refl
