-- Enclosing. Where the cap of b and E lies in that of f and G, every ray of the trixel passes: b reaches each ray by E, and by the containment lemma f
-- reaches it by G. D, which is not above G, may stand for it in the product that is compared. Assumes nothing.
use Prim.Native.Nat.{ℕ, ◌*◌, ◌+◌, ◌/◌}
use native.Mathlib.Omega.{arith}
use mathlib.Core.Path.{◌≡◌, refl, sym, subst, ◌∙◌}
use mathlib.Core.Bool.{true, ◌&&◌}
use mathlib.Core.List.{[], ◌∷◌}
use lib.Dec.{lt→ltb}
use lib.IntN.{ℤ, pos, nat_abs, ◌-ℤ◌, ◌*ℤ◌}
use lib.Signed.{◌≤ℤ◌, ◌<ℤ◌, le_z, lt_z_yes}
use Rattle.algebra.proofs.Ring.{◌:-◌, ◌:*◌}
use Rattle.algebra.proofs.Order.{nn_pos, gap_nn}
use Rattle.algebra.proofs.Claim.{◌:≤◌, ◌:<◌, nat, hyp, ◌⊕◌, ◌⊗◌, prove}
use Rattle.algebra.proofs.Inequalities.{`0, `1, <ℤ-by-no, factor_positive}
use Rattle.algebra.proofs.Vec.{cauchy_schwarz, dot_nn}
use Rattle.algebra.proofs.Cone.{Reaches}
use Rattle.algebra.proofs.Containment.{containment}
use Rattle.algebra.proofs.Tests.{and_left, and_right, and_both, le_yes, lt_yes, yes_le, yes_lt}
use Rattle.vector.specs.declared.Vec3.{Vec3}
use Rattle.vector.specs.Vectors.{dot}
use Rattle.vector.proofs.VectorLaws.{v3}
use Rattle.mesh.specs.declared.Trixel.{Trixel}
use Rattle.classify_prepared.specs.declared.PreparedHalfspace.{PreparedHalfspace}
use Rattle.classify.specs.Shape.{square, positive, ray0, ray1, ray2, f_of, DOf, GOf, ahead, b_of, EOf}
use Rattle.classify_prepared.specs.Measures.{SoundHalfspace}
use Rattle.classify.proofs.RaysFirst.{passes, all_pass, D-below-G, passes_reaches, by_rays}
use Rattle.classify_halfspace.specs.Halfspaces.{enclosed}
use Rattle.classify.proofs.WithinApart.{E-reaches}

-- ---- of numbers

-- (a − D²) S < M², 0 ≤ D ≤ G and 0 < S: (a − G²) S ≤ M²
by_G : (a S M D G : ℤ) → pos 0 ≤ℤ D → D ≤ℤ G → pos 0 <ℤ S → ((a -ℤ D *ℤ D) *ℤ S) <ℤ (M *ℤ M) → ((a -ℤ G *ℤ G) *ℤ S) ≤ℤ (M *ℤ M)
by_G = prove 5
    (λ a S M D G. record {
      given = (`0 :≤ D) ∷ (D :≤ G) ∷ (`0 :< S) ∷ ((a :- D :* D) :* S :< M :* M) ∷ [];
      goal = (a :- G :* G) :* S :≤ M :* M;
      cert = hyp 3 ⊕ nat 1 ⊕ (hyp 2 ⊕ nat 1) ⊗ (hyp 1 ⊗ hyp 1 ⊕ nat 2 ⊗ hyp 0 ⊗ hyp 1);
    })
    refl

-- G² N ≤ F² with G and N positive and F without a sign: F is positive
front : (N F G : ℤ) → pos 0 <ℤ G → pos 0 <ℤ N → pos 0 ≤ℤ F → (G *ℤ G *ℤ N) ≤ℤ (F *ℤ F) → pos 0 <ℤ F
front N F G g n f h = <ℤ-by-no
    (prove 3
    (λ N F G. record {
      given = (`0 :< G) ∷ (`0 :< N) ∷ (`0 :≤ F) ∷ (G :* G :* N :≤ F :* F) ∷ (F :≤ `0) ∷ [];
      goal = `1 :≤ `0;
      cert = hyp 4 ⊗ hyp 2 ⊕ hyp 3 ⊕ hyp 1 ⊕ (nat 2 ⊗ hyp 0 ⊕ hyp 0 ⊗ hyp 0) ⊗ (nat 1 ⊕ hyp 1);
    })
    refl N F G g n f h)

positive_G : (e : ℕ) → pos 0 <ℤ GOf (pos e)
positive_G e = lt_z_yes (lt→ltb 0 (e * 1048576 / 1048574 + 1) (omega arith))

-- ---- a ray that b reaches by E

ray_passes : (f b r : Vec3) (D G E : ℤ) → pos 0 ≤ℤ D → D ≤ℤ G → pos 0 <ℤ G → enclosed f D G b E ≡ true → passes b E r ≡ true → passes f G r ≡ true
unfolding passes enclosed
ray_passes f b r D G E d l g w p =
    let M = dot f b -ℤ G *ℤ E in
    let S = dot b b -ℤ square E in
    let w1 = and_right (positive M) _ w in
    let w2 = and_right (positive S) _ w1 in
    let m : pos 0 <ℤ M = lt_yes (and_left (positive M) _ w) in
    let s : pos 0 <ℤ S = lt_yes (and_left (positive S) _ w1) in
    let t : (S *ℤ G) ≤ℤ (M *ℤ E) = le_yes (and_left (le_z (S *ℤ G) (M *ℤ E)) _ w2) in
    let h : ((dot f f -ℤ square D) *ℤ S) <ℤ (M *ℤ M) = lt_yes (and_right (le_z (S *ℤ G) (M *ℤ E)) _ w2) in
    let c : Reaches (v3 f) (v3 r) G = containment (v3 f) (v3 b) (v3 r) G E (passes_reaches b E r p) g s m (gap_nn t) (by_G (dot f f) S M D G d l s h) in
    let n = factor_positive (dot b r) (dot b b) (dot r r) (lt_yes (and_left (positive (dot b r)) _ p)) (cauchy_schwarz (v3 b) (v3 r)) (dot_nn (v3 b)) in
    and_both (yes_lt (front (dot r r) (dot f r) G g n c.front c.reach)) (yes_le c.reach)

-- ---- the three rays of a trixel

module _ (f : Vec3) (e : ℕ) (t : Trixel) where
  all_pass_law : ahead (b_of t) t ≡ true → enclosed f (DOf (pos e)) (GOf (pos e)) (b_of t) (EOf t) ≡ true → all_pass f (GOf (pos e)) t ≡ true
  all_pass_law a w =
      let b = sym (by_rays (b_of t) (EOf t) t) ∙ and_both a (E-reaches t) in
      let b0 = passes (b_of t) (EOf t) (ray0 t) in
      let b1 = passes (b_of t) (EOf t) (ray1 t) in
      let b2 = passes (b_of t) (EOf t) (ray2 t) in
      let b12 = and_right b0 (b1 && b2) b in
      let ray : (r : Vec3) → passes (b_of t) (EOf t) r ≡ true → passes f (GOf (pos e)) r ≡ true = λ r. ray_passes f (b_of t) r (DOf (pos e)) (GOf (pos e)) (EOf t) (nn_pos (e * 1048576 / 1048578)) (D-below-G e) (positive_G e) w in
      and_both (ray (ray0 t) (and_left b0 (b1 && b2) b)) (and_both (ray (ray1 t) (and_left b1 b2 b12)) (ray (ray2 t) (and_right b1 b2 b12)))

pub enclosed_passes : (q : PreparedHalfspace) → SoundHalfspace q → (t : Trixel) → ahead (b_of t) t ≡ true → enclosed q.f q.low q.high (b_of t) (EOf t) ≡ true → all_pass q.f q.high t ≡ true
enclosed_passes q s t = subst
    (λ q. ahead (b_of t) t ≡ true → enclosed q.f q.low q.high (b_of t) (EOf t) ≡ true → all_pass q.f q.high t ≡ true)
    (sym s.is) (all_pass_law (f_of s.halfspace) (nat_abs s.halfspace.d) t)
