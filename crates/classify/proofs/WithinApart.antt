-- For a point p inside the trixel, within gives f·p > e·K and apart gives f·p < e·K.
-- Within: by the cone lemma (f·p)² ≥ G² (p·p) ≥ (G (K − 2))², and G (K − 2) > e K.
-- Apart: if f·p ≥ e K ≥ D (K + 2) then (f·p)² ≥ D² (p·p). By the bounding cap: (b·p)² ≥ E² (p·p), by the cone lemma, against the separation lemma. By
-- an edge: P·p ≥ 0, against the plane lemma. Assumes nothing.
use Prim.Native.Nat.{◌≤◌, ℕ, ◌+◌, ◌*◌, ◌/◌}
use native.Mathlib.Omega.{arith}
use mathlib.Core.Path.{◌≡◌, refl, sym, subst}
use mathlib.Core.Bool.{Bool, true, ◌&&◌}
use mathlib.Core.List.{[], ◌∷◌}
use lib.Dec.{le→leb, lt→ltb}
use borrow.Author.Tests.{le-leb}
use lib.IntN.{ℤ, pos, nat_abs, ◌-ℤ◌, ◌*ℤ◌, zero-*ℤ}
use lib.Signed.{le_z, lt_z, ◌≤ℤ◌, ◌<ℤ◌, le_z_yes, lt_z_yes, <ℤ-≤ℤ_trans}
use Rattle.algebra.proofs.Ring.{◌:*◌}
use Rattle.algebra.proofs.Claim.{◌:≤◌, nat, hyp, sq, ◌⊕◌, ◌⊗◌, prove}
use Rattle.algebra.proofs.Order.{by_order, ≤ℤ-trans, nn_sq, nn_pos}
use Rattle.algebra.proofs.Inequalities.{`0, <ℤ→≤ℤ, sq-≤ℤ}
use Rattle.algebra.proofs.Tests.{and_left, and_right, and_both, or_cases, le_yes, lt_yes, yes_le}
use Rattle.algebra.proofs.Cone.{Reaches, cone}
use Rattle.algebra.proofs.Separation.{separation}
use Rattle.algebra.proofs.Plane.{beyond_plane}
use Rattle.vector.specs.declared.Vec3.{Vec3}
use Rattle.vector.specs.Numbers.{K, Kℕ, greatest}
use Rattle.vector.specs.Vectors.{dot}
use Rattle.vector.proofs.VectorLaws.{v3, UnitLength}
use Rattle.vector.proofs.GreatestLaws.{greatest_passes, greatest_most, greatest_above}
use Rattle.mesh.specs.declared.Trixel.{Trixel}
use Rattle.mesh.proofs.Path.{Inside}
use Rattle.region.specs.declared.Halfspace.{Halfspace}
use Rattle.classify.specs.Shape.{square, positive, ray0, ray1, ray2, volume, e_of, f_of, DOf, GOf, ahead, reaches_ray, reaches, b_of, EOf, within, far, by_cap, beyond_edge, beyond, apart, apart_by}

-- ---- the cone lemma, from the tests

module _ (p : Vec3) (t : Trixel) (i : Inside p t) where
  pub reach : (f : Vec3) (g : ℤ) → positive (volume t) ≡ true → ahead f t ≡ true → reaches f g t ≡ true → Reaches (v3 f) (v3 p) g
  reach f g vol a r =
      let a0 = and_left (positive (dot f (ray0 t))) (positive (dot f (ray1 t)) && positive (dot f (ray2 t))) a in
      let a12 = and_right (positive (dot f (ray0 t))) (positive (dot f (ray1 t)) && positive (dot f (ray2 t))) a in
      let a1 = and_left (positive (dot f (ray1 t))) (positive (dot f (ray2 t))) a12 in
      let a2 = and_right (positive (dot f (ray1 t))) (positive (dot f (ray2 t))) a12 in
      let r0 = and_left (reaches_ray f g (ray0 t)) (reaches_ray f g (ray1 t) && reaches_ray f g (ray2 t)) r in
      let r12 = and_right (reaches_ray f g (ray0 t)) (reaches_ray f g (ray1 t) && reaches_ray f g (ray2 t)) r in
      let r1 = and_left (reaches_ray f g (ray1 t)) (reaches_ray f g (ray2 t)) r12 in
      let r2 = and_right (reaches_ray f g (ray1 t)) (reaches_ray f g (ray2 t)) r12 in
      cone (v3 f) (v3 t.p0) (v3 t.p1) (v3 t.p2) (v3 p) g (lt_yes vol) i.in0 i.in1 i.in2
      (record { front = <ℤ→≤ℤ (lt_yes a0); reach = le_yes r0 })
      (record { front = <ℤ→≤ℤ (lt_yes a1); reach = le_yes r1 })
      (record { front = <ℤ→≤ℤ (lt_yes a2); reach = le_yes r2 })

-- ---- D and G of e

below_G : (e : ℕ) → pos (e * 1048576) <ℤ (GOf (pos e) *ℤ pos 1048574)
below_G e = lt_z_yes (lt→ltb (e * 1048576) ((e * 1048576 / 1048574 + 1) * 1048574) (omega arith))

D-below : (e : ℕ) → (DOf (pos e) *ℤ pos 1048578) ≤ℤ pos (e * 1048576)
D-below e = le_z_yes (le→leb (e * 1048576 / 1048578 * 1048578) (e * 1048576) (omega arith))

-- ---- numbers

-- q² ≤ N and G² N ≤ F²: (G q)² ≤ F²
up : (G q N F : ℤ) → (q *ℤ q) ≤ℤ N → (G *ℤ G *ℤ N) ≤ℤ (F *ℤ F) → (G *ℤ q *ℤ (G *ℤ q)) ≤ℤ (F *ℤ F)
up = prove 4
    (λ G q N F. record {
      given = (q :* q :≤ N) ∷ (G :* G :* N :≤ F :* F) ∷ [];
      goal = G :* q :* (G :* q) :≤ F :* F;
      cert = sq G ⊗ hyp 0 ⊕ hyp 1;
    })
    refl

-- N ≤ q², 0 ≤ D q ≤ F: D² N ≤ F²
down : (D q N F : ℤ) → N ≤ℤ (q *ℤ q) → pos 0 ≤ℤ (D *ℤ q) → (D *ℤ q) ≤ℤ F → (D *ℤ D *ℤ N) ≤ℤ (F *ℤ F)
down = prove 4
    (λ D q N F. record {
      given = (N :≤ q :* q) ∷ (`0 :≤ D :* q) ∷ (D :* q :≤ F) ∷ [];
      goal = D :* D :* N :≤ F :* F;
      cert = sq D ⊗ hyp 0 ⊕ hyp 2 ⊗ hyp 2 ⊕ nat 2 ⊗ hyp 1 ⊗ hyp 2;
    })
    refl

positive_square : (N : ℤ) → (pos 1048574 *ℤ pos 1048574) ≤ℤ N → pos 0 <ℤ N
positive_square N h = <ℤ-≤ℤ_trans (lt_z_yes tt) h

-- ---- E passes its own test

no_reach : (f r : Vec3) → reaches_ray f (pos 0) r ≡ true
no_reach f r = yes_le (subst (λ z. z ≤ℤ square (dot f r)) (sym (zero-*ℤ (dot r r))) (nn_sq (dot f r)))

pub E-reaches : (t : Trixel) → reaches (b_of t) (EOf t) t ≡ true
unfolding EOf
E-reaches t = greatest_passes (λ n. reaches (b_of t) (pos n) t) Kℕ (and_both (no_reach (b_of t) (ray0 t)) (and_both (no_reach (b_of t) (ray1 t)) (no_reach (b_of t) (ray2 t))))

-- E passes its test, is at most K, and no number up to K that passes is above it
pub record IsGreatestE (t : Trixel) (E : ℤ) : Type 0 where
  pub passes : reaches (b_of t) E t ≡ true
  pub most : le_z E K ≡ true
  pub above : (n : ℕ) → n ≤ Kℕ → reaches (b_of t) (pos n) t ≡ true → le_z (pos n) E ≡ true

pub E-greatest : (t : Trixel) → IsGreatestE t (EOf t)
unfolding EOf
E-greatest t =
    let test : ℕ → Bool = λ n. reaches (b_of t) (pos n) t in
    record {
      passes = E-reaches t;
      most = le-leb (greatest test Kℕ) Kℕ (greatest_most test Kℕ);
      above = λ n h e. le-leb n (greatest test Kℕ) (greatest_above test Kℕ n h e);
    }

-- ---- where f reaches a direction inside the trixel by D, it is not apart

module _ (p : Vec3) (t : Trixel) (i : Inside p t) (n : pos 0 <ℤ dot p p) (f : Vec3) (D : ℤ) (near : Reaches (v3 f) (v3 p) D) where
  not_by_cap : by_cap f D t ≡ true → ⊥
  not_by_cap a =
      let vol = and_left (positive (volume t)) (ahead (b_of t) t && far f D (b_of t) (EOf t)) a in
      let rest = and_right (positive (volume t)) (ahead (b_of t) t && far f D (b_of t) (EOf t)) a in
      let b : Reaches (v3 (b_of t)) (v3 p) (EOf t) = reach p t i (b_of t) (EOf t) vol (and_left (ahead (b_of t) t) (far f D (b_of t) (EOf t)) rest) (E-reaches t) in
      let w = and_right (ahead (b_of t) t) (far f D (b_of t) (EOf t)) rest in
      separation (v3 f) (v3 (b_of t)) (v3 p) D (EOf t) n near b
      (lt_yes (and_left (positive (D *ℤ EOf t -ℤ dot f (b_of t))) _ w))
      (lt_yes (and_right (positive (D *ℤ EOf t -ℤ dot f (b_of t))) _ w))

  not_beyond_edge : (P : Vec3) → pos 0 ≤ℤ dot P p → beyond_edge f D P ≡ true → ⊥
  unfolding beyond_edge
  not_beyond_edge P front w = beyond_plane (v3 f) (v3 P) (v3 p) D n near front
      (lt_yes (and_left (lt_z (dot f P) (pos 0)) _ w))
      (lt_yes (and_right (lt_z (dot f P) (pos 0)) _ w))

  not_beyond : beyond f D t ≡ true → ⊥
  not_beyond w = or_cases (beyond_edge f D t.p0) _ w (not_beyond_edge t.p0 i.in0)
      (λ w. or_cases (beyond_edge f D t.p1) _ w (not_beyond_edge t.p1 i.in1) (not_beyond_edge t.p2 i.in2))

  pub not_apart : apart_by f D t ≡ true → ⊥
  not_apart a = or_cases (by_cap f D t) (beyond f D t) a not_by_cap not_beyond

-- ---- the two tests

module _ (p : Vec3) (l : UnitLength p) (t : Trixel) (i : Inside p t) (h : Halfspace) where
  pub within_above : within h t ≡ true → (e_of h *ℤ K) <ℤ dot (f_of h) p
  unfolding within
  within_above w =
      let e : ℕ = nat_abs h.d in
      let vol = and_left (positive (volume t)) (ahead (f_of h) t && reaches (f_of h) (GOf (e_of h)) t) w in
      let ar = and_right (positive (volume t)) (ahead (f_of h) t && reaches (f_of h) (GOf (e_of h)) t) w in
      let c : Reaches (v3 (f_of h)) (v3 p) (GOf (e_of h)) = reach p t i (f_of h) (GOf (e_of h)) vol (and_left (ahead (f_of h) t) (reaches (f_of h) (GOf (e_of h)) t) ar) (and_right (ahead (f_of h) t) (reaches (f_of h) (GOf (e_of h)) t) ar) in
      <ℤ-≤ℤ_trans (below_G e) (sq-≤ℤ c.front (up (GOf (pos e)) (pos 1048574) (dot p p) (dot (f_of h) p) l.low c.reach))

  pub apart_below : apart h t ≡ true → dot (f_of h) p <ℤ (e_of h *ℤ K)
  unfolding apart
  apart_below a =
      let e : ℕ = nat_abs h.d in
      by_order (dot (f_of h) p) (e_of h *ℤ K) (λ below. below)
      (λ above.
      let q : (DOf (pos e) *ℤ pos 1048578) ≤ℤ dot (f_of h) p = ≤ℤ-trans (D-below e) above in
      let n : pos 0 ≤ℤ (DOf (pos e) *ℤ pos 1048578) = nn_pos (e * 1048576 / 1048578 * 1048578) in
      absurd (not_apart p t i (positive_square (dot p p) l.low) (f_of h) (DOf (pos e))
      (record { front = ≤ℤ-trans n q; reach = down (DOf (pos e)) (pos 1048578) (dot p p) (dot (f_of h) p) l.high n q })
      a))
