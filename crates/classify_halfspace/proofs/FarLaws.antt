-- The tests `far` and `enclosed` by what was prepared: the numbers that a program multiplies are those of the rules. Assumes nothing.
use Prim.Native.Nat.{ℕ, ◌^◌}
use mathlib.Core.Path.{◌≡◌, refl, sym, ap, subst, ◌∙◌}
use mathlib.Core.Bool.{Bool, true, false, not, ◌&&◌}
use lib.Dec.{T}
use lib.IntN.{ℤ, pos, nat_abs, ◌-ℤ◌, ◌*ℤ◌}
use lib.Signed.{non_neg, le_z, lt_z, ◌≤ℤ◌}
use Rattle.algebra.proofs.Sizes.{Upto}
use Rattle.algebra.proofs.Tests.{and_both, and_then, and_no_left, and_no_right, le_yes, yes_lt, no_lt, no_le, not_le, le_not_lt}
use Rattle.vector.specs.Vectors.{dot}
use Rattle.mesh.specs.declared.Trixel.{Trixel}
use Rattle.classify_prepared.specs.declared.PreparedHalfspace.{PreparedHalfspace}
use Rattle.classify_cap.specs.declared.CapReach.{CapReach}
use Rattle.vector.specs.declared.Vec3.{Vec3}
use Rattle.classify.specs.Shape.{square, positive, b_of, EOf, far}
use Rattle.classify_prepared.specs.Measures.{SoundHalfspace, Rest}
use Rattle.classify_cap.specs.Middle.{IsReach}
use Rattle.classify_halfspace.specs.Halfspaces.{enclosed}
use Rattle.classify_prepared.proofs.PreparedLaws.{sound_high}
use Rattle.classify_cap.proofs.ClearanceLaws.{Beyond, beyond_clearance, clearance_upto, clearance_sign}
use Rattle.classify_cap.proofs.CapLaws.{unsigned_upto, sound_beside, cap_beside, beside_size}

-- ---- what is left of a square length

module _ {q : PreparedHalfspace} (h : SoundHalfspace q) where
  pub rest_prepared : Rest q.rest
  rest_prepared = record { sign = (sound_beside h).sign; size = beside_size (sound_beside h) }

module _ {t : Trixel} {b : Vec3} {m : CapReach} (k : IsReach t b m) where
  pub cap_rest : Rest m.rest
  cap_rest = record { sign = (cap_beside k).sign; size = beside_size (cap_beside k) }

module _ {t : Trixel} {b : Vec3} {m : CapReach} (k : IsReach t b m) where
  pub cap_clearance : Upto (2 ^ 62) m.clearance
  cap_clearance = subst (Upto (2 ^ 62)) (sym (k.clearance)) (clearance_upto m.rest (nat_abs m.reach))

  pub clearance_below : {n : ℕ} → le_z m.clearance (pos n) ≡ true → Upto n m.clearance
  clearance_below e = unsigned_upto m.clearance (subst (λ z. T (non_neg z)) (sym (k.clearance)) (clearance_sign m.rest (nat_abs m.reach))) (le_yes e)

E_pos : (t : Trixel) → pos (nat_abs (EOf t)) ≡ EOf t
unfolding EOf
E_pos t = refl

reach_pos : {t : Trixel} {b : Vec3} {m : CapReach} → IsReach t b m → pos (nat_abs m.reach) ≡ m.reach
reach_pos {t} k = ap (λ y. pos (nat_abs y)) (k.reach) ∙ E_pos t ∙ sym (k.reach)

module _ {q : PreparedHalfspace} {t : Trixel} {b : Vec3} {m : CapReach} (h : SoundHalfspace q) (k : IsReach t b m) {z : ℤ} where
  -- z is D·E − c
  pub far_is : z ≡ q.low *ℤ m.reach -ℤ dot q.f b → positive z && lt_z (q.rest *ℤ m.rest) (z *ℤ z) ≡ far q.f q.low (b_of t) (EOf t)
  far_is e =
      let past : z ≡ q.low *ℤ EOf t -ℤ dot q.f (b_of t) = e ∙ (λ i. q.low *ℤ k.reach i -ℤ dot q.f (k.b i)) in
      λ i. positive (past i) && lt_z ((sound_beside h).is i *ℤ k.rest i) (past i *ℤ past i)

  -- beyond the clearance
  module _ (l : m.clearance ≤ℤ z) (u : Upto (2 ^ 43) z) where
    beyond : Beyond m.rest m.reach z
    beyond = subst (λ y. Beyond m.rest y z) (reach_pos k) (beyond_clearance m.rest z (nat_abs m.reach) (cap_rest k) (subst (λ y. y ≤ℤ z) (k.clearance) l) u)

    squares : positive z && lt_z (q.rest *ℤ m.rest) (z *ℤ z) ≡ true
    squares = and_both (yes_lt beyond.front) (yes_lt (beyond.square q.rest (rest_prepared h)))

    pub far_beyond : z ≡ q.low *ℤ m.reach -ℤ dot q.f b → true ≡ far q.f q.low (b_of t) (EOf t)
    far_beyond e = sym squares ∙ far_is e

  -- z is f·b − G·E
  module _ (e : z ≡ dot q.f b -ℤ q.high *ℤ m.reach) where
    past : z ≡ dot q.f (b_of t) -ℤ q.high *ℤ EOf t
    past = e ∙ (λ i. dot q.f (k.b i) -ℤ q.high *ℤ k.reach i)

    -- S·G ≤ M·E
    abbrev edges : Bool
    edges = le_z ((dot (b_of t) (b_of t) -ℤ square (EOf t)) *ℤ q.high) ((dot q.f (b_of t) -ℤ q.high *ℤ EOf t) *ℤ EOf t)

    same_edges : {x : Bool} → lt_z (z *ℤ m.reach) (m.rest *ℤ q.high) ≡ x → edges ≡ not x
    same_edges {x} w = (λ i. le_z (sym (k.rest) i *ℤ q.high) (sym past i *ℤ sym (k.reach) i)) ∙ le_not_lt (m.rest *ℤ q.high) (z *ℤ m.reach) ∙ ap not w

    pub too_wide : lt_z (z *ℤ m.reach) (m.rest *ℤ q.high) ≡ true → false ≡ enclosed q.f q.low q.high (b_of t) (EOf t)
    unfolding enclosed
    too_wide l = sym
        (and_no_right (positive (dot q.f (b_of t) -ℤ q.high *ℤ EOf t))
        (and_no_right (positive (dot (b_of t) (b_of t) -ℤ square (EOf t))) (and_no_left _ (same_edges l))))

    pub enclosed_is : le_z m.rest (pos 0) ≡ false → lt_z (z *ℤ m.reach) (m.rest *ℤ q.high) ≡ false
        → positive z && lt_z (q.rest *ℤ m.rest) (z *ℤ z) ≡ enclosed q.f q.low q.high (b_of t) (EOf t)
    unfolding enclosed
    enclosed_is n w =
        (λ i. positive (past i) && lt_z ((sound_beside h).is i *ℤ k.rest i) (past i *ℤ past i))
        ∙ ap (λ l. positive (dot q.f (b_of t) -ℤ q.high *ℤ EOf t) && l)
        (and_then _ (same_edges w) ∙ and_then _ (ap positive (sym (k.rest)) ∙ yes_lt (no_le {a = m.rest} {b = pos 0} n)))

module _ {q : PreparedHalfspace} {t : Trixel} {b : Vec3} {m : CapReach} (h : SoundHalfspace q) (k : IsReach t b m) {z : ℤ} where
  pub enclosed_beyond : m.clearance ≤ℤ z → Upto (2 ^ 43) z → z ≡ dot q.f b -ℤ q.high *ℤ m.reach → true ≡ enclosed q.f q.low q.high (b_of t) (EOf t)
  enclosed_beyond l u e =
      let c = beyond h k l u in
      sym (squares h k l u) ∙ enclosed_is h k e (not_le c.rest) (no_lt (c.edges q.high (sound_high h)))

pub no_rest : (q : PreparedHalfspace) {t : Trixel} {b : Vec3} {m : CapReach} → IsReach t b m → le_z m.rest (pos 0) ≡ true → false ≡ enclosed q.f q.low q.high (b_of t) (EOf t)
unfolding enclosed
no_rest q {t} {b} {m} k l = sym (and_no_right (positive (dot q.f (b_of t) -ℤ q.high *ℤ EOf t)) (and_no_left _ (ap positive (sym (k.rest)) ∙ no_lt {a = pos 0} {b = m.rest} (le_yes l))))
