-- Rays first. Where V > 0, one ray that passes with G refutes apart: the ray is itself a direction inside the trixel, and f reaches it by G and by D, which is
-- not above G. Assumes nothing.
--   passes f g r                     f·r > 0 and (f·r)² ≥ g² (r·r)
--   all_pass f g t, one_passes f g t   all rays of t do; at least one does
use Prim.Native.Nat.{ℕ, ◌*◌, ◌+◌, ◌/◌}
use native.Mathlib.Omega.{arith}
use mathlib.Core.Path.{◌≡◌, refl}
use mathlib.Core.Bool.{true, false, ◌&&◌, Bool, ◌||◌}
use mathlib.Core.List.{[], ◌∷◌}
use lib.Dec.{le→leb, leb}
use lib.IntN.{ℤ, pos, nat_abs, ◌*ℤ◌}
use lib.Signed.{◌≤ℤ◌, le_z_yes}
use Rattle.algebra.proofs.Ring.{◌:*◌}
use Rattle.algebra.proofs.Claim.{◌:≤◌, nat, hyp, ◌⊕◌, ◌⊗◌, prove}
use Rattle.algebra.proofs.Order.{nn_pos}
use Rattle.algebra.proofs.Inequalities.{`0, <ℤ→≤ℤ, factor_positive}
use Rattle.algebra.proofs.Vec.{cauchy_schwarz, dot_nn}
use Rattle.algebra.proofs.Cone.{Reaches}
use Rattle.algebra.proofs.Plane.{edge_front, volume_cyclic}
use Rattle.algebra.proofs.Tests.{split, and_left, and_right, and_pairs, or_cases, le_yes, lt_yes}
use Rattle.vector.specs.declared.Vec3.{Vec3}
use Rattle.vector.specs.Vectors.{dot}
use Rattle.vector.proofs.VectorLaws.{v3}
use Rattle.mesh.specs.declared.Trixel.{Trixel}
use Rattle.mesh.proofs.Path.{Inside}
use Rattle.region.specs.declared.Halfspace.{Halfspace}
use Rattle.classify.specs.Shape.{square, positive, ray0, ray1, ray2, volume, e_of, f_of, DOf, GOf, ahead, reaches_ray, reaches, apart, apart_by}
use Rattle.classify.proofs.WithinApart.{not_apart}

unfoldable pub passes : Vec3 → ℤ → Vec3 → Bool
passes f g r = positive (dot f r) && reaches_ray f g r

abbrev pub all_pass : Vec3 → ℤ → Trixel → Bool
all_pass f g t = passes f g (ray0 t) && (passes f g (ray1 t) && passes f g (ray2 t))

abbrev pub one_passes : Vec3 → ℤ → Trixel → Bool
one_passes f g t = passes f g (ray0 t) || (passes f g (ray1 t) || passes f g (ray2 t))

pub D-below-G : (e : ℕ) → DOf (pos e) ≤ℤ GOf (pos e)
D-below-G e = le_z_yes (le→leb (e * 1048576 / 1048578) (e * 1048576 / 1048574 + 1) (omega arith))

smaller : (a b r s : ℤ) → pos 0 ≤ℤ a → a ≤ℤ b → pos 0 ≤ℤ r → (b *ℤ b *ℤ r) ≤ℤ s → (a *ℤ a *ℤ r) ≤ℤ s
smaller = prove 4
    (λ a b r s. record {
      given = (`0 :≤ a) ∷ (a :≤ b) ∷ (`0 :≤ r) ∷ (b :* b :* r :≤ s) ∷ [];
      goal = a :* a :* r :≤ s;
      cert = hyp 3 ⊕ hyp 2 ⊗ hyp 1 ⊗ (hyp 1 ⊕ nat 2 ⊗ hyp 0);
    })
    refl

-- a ray that passes, as the algebra has it
pub passes_reaches : (f : Vec3) (g : ℤ) (r : Vec3) → passes f g r ≡ true → Reaches (v3 f) (v3 r) g
unfolding passes
passes_reaches f g r e = record { front = <ℤ→≤ℤ (lt_yes (and_left (positive (dot f r)) _ e)); reach = le_yes (and_right (positive (dot f r)) _ e) }

-- ---- the three rays of a trixel

-- ahead of all rays and reaching all is passing all
pub by_rays : (f : Vec3) (g : ℤ) (t : Trixel) → ahead f t && reaches f g t ≡ all_pass f g t
unfolding passes
by_rays f g t = and_pairs
    (positive (dot f (ray0 t))) (positive (dot f (ray1 t))) (positive (dot f (ray2 t)))
    (reaches_ray f g (ray0 t)) (reaches_ray f g (ray1 t)) (reaches_ray f g (ray2 t))

-- where V > 0 a ray is inside the trixel
module _ (t : Trixel) (v : positive (volume t) ≡ true) where
  inside0 : Inside (ray0 t) t
  inside0 =
      let e = edge_front (v3 t.p0) (v3 t.p1) (v3 t.p2) (lt_yes v) in
      record { in0 = e.0; in1 = e.1; in2 = e.2 }

  inside1 : Inside (ray1 t) t
  inside1 =
      let e = edge_front (v3 t.p1) (v3 t.p2) (v3 t.p0) (volume_cyclic (v3 t.p0) (v3 t.p1) (v3 t.p2) (lt_yes v)) in
      record { in0 = e.2; in1 = e.0; in2 = e.1 }

  inside2 : Inside (ray2 t) t
  inside2 =
      let w = volume_cyclic (v3 t.p0) (v3 t.p1) (v3 t.p2) (lt_yes v) in
      let e = edge_front (v3 t.p2) (v3 t.p0) (v3 t.p1) (volume_cyclic (v3 t.p1) (v3 t.p2) (v3 t.p0) w) in
      record { in0 = e.1; in1 = e.2; in2 = e.0 }

module _ (f : Vec3) (e : ℕ) (t : Trixel) where
  refutes : (r : Vec3) → Inside r t → passes f (GOf (pos e)) r ≡ true → apart_by f (DOf (pos e)) t ≡ false
  unfolding passes
  refutes r i p =
      let D = DOf (pos e) in
      let near : Reaches (v3 f) (v3 r) (GOf (pos e)) = passes_reaches f (GOf (pos e)) r p in
      split (apart_by f D t)
      (λ a. absurd (not_apart r t i
      (factor_positive (dot f r) (dot f f) (dot r r) (lt_yes (and_left (positive (dot f r)) _ p)) (cauchy_schwarz (v3 f) (v3 r)) (dot_nn (v3 f)))
      f D (record { front = near.front; reach = smaller D (GOf (pos e)) (dot r r) (square (dot f r)) (nn_pos (e * 1048576 / 1048578)) (D-below-G e) (dot_nn (v3 r)) near.reach })
      a))
      (λ n. n)

  pub one_refutes : positive (volume t) ≡ true → one_passes f (GOf (pos e)) t ≡ true → apart_by f (DOf (pos e)) t ≡ false
  one_refutes v p =
      or_cases (passes f (GOf (pos e)) (ray0 t)) _ p (refutes (ray0 t) (inside0 t v))
      (λ q. or_cases (passes f (GOf (pos e)) (ray1 t)) _ q (refutes (ray1 t) (inside1 t v)) (refutes (ray2 t) (inside2 t v)))

pub refutes_apart : (h : Halfspace) (t : Trixel) → positive (volume t) ≡ true → one_passes (f_of h) (GOf (e_of h)) t ≡ true → apart h t ≡ false
unfolding apart
refutes_apart h t = one_refutes (f_of h) (nat_abs h.d) t
