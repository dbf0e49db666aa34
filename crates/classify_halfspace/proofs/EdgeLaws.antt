-- The test `beyond_edge` by what was prepared: (P·P)·D² + (f·P)² > (P·P)·(f·f) is (P·P)(f·f − D²) < (f·P)². Where D is 0 it never holds, by Cauchy and
-- Schwarz. And the class by the edges, one after the other. Assumes nothing.
use Prim.Native.Nat.{◌*◌, ◌/◌}
use mathlib.Core.Path.{◌≡◌, refl, sym, subst, ◌∙◌}
use mathlib.Core.Bool.{true, false, ◌&&◌}
use mathlib.Core.List.{[], ◌∷◌}
use lib.IntN.{ℤ, pos, nat_abs, ◌+ℤ◌, ◌-ℤ◌, ◌*ℤ◌}
use lib.Signed.{le_z, lt_z, ◌≤ℤ◌}
use Rattle.algebra.proofs.Ring.{◌:+◌, ◌:-◌, ◌:*◌}
use Rattle.algebra.proofs.Order.{nn_pos}
use Rattle.algebra.proofs.Claim.{◌:≤◌, ◌:<◌, hyp, ◌⊕◌, ◌⊗◌, prove}
use Rattle.algebra.proofs.Inequalities.{`0}
use Rattle.algebra.proofs.Vec.{cauchy_schwarz, dot_nn}
use Rattle.algebra.proofs.Tests.{and_no_right, or_left, or_right, or_neither, le_yes, no_lt, same_lt_tests}
use Rattle.vector.specs.declared.Vec3.{Vec3}
use Rattle.vector.specs.Vectors.{dot}
use Rattle.vector.proofs.Sizes.{Small}
use Rattle.vector.proofs.SizeLaws.{dot_upto, dot_self_nonnegative}
use Rattle.vector.proofs.VectorLaws.{v3}
use Rattle.mesh.specs.declared.Trixel.{Trixel}
use Rattle.classify_prepared.specs.declared.PreparedHalfspace.{PreparedHalfspace}
use Rattle.classify.specs.Shape.{positive, beyond_edge}
use Rattle.classify_prepared.specs.Measures.{SoundHalfspace, Rest}
use Rattle.classify_cap.proofs.CapLaws.{sound_beside}
use Rattle.classify_halfspace.specs.Halfspaces.{class_apart, edges_class}
use Rattle.classify_halfspace.proofs.ClassLaws.{is_beyond, not_beyond}
use Rattle.classify.specs.declared.Class.TheVariants.{Partial}

-- ---- of numbers: a = f·P, N = P·P, c = f·f

turned : (a : ℤ) → positive (pos 0 -ℤ a) ≡ lt_z a (pos 0)
turned a = same_lt_tests
    (prove 1 (λ a. record { given = (`0 :< `0 :- a) ∷ []; goal = a :< `0; cert = hyp 0 }) refl a)
    (prove 1 (λ a. record { given = (a :< `0) ∷ []; goal = `0 :< `0 :- a; cert = hyp 0 }) refl a)

moved : (a N c D : ℤ) → lt_z ((c -ℤ D *ℤ D) *ℤ N) ((pos 0 -ℤ a) *ℤ (pos 0 -ℤ a)) ≡ lt_z (N *ℤ c) (N *ℤ (D *ℤ D) +ℤ a *ℤ a)
moved a N c D = same_lt_tests
    (prove 4 (λ a N c D. record { given = ((c :- D :* D) :* N :< (`0 :- a) :* (`0 :- a)) ∷ []; goal = N :* c :< N :* (D :* D) :+ a :* a; cert = hyp 0 }) refl a N c D)
    (prove 4 (λ a N c D. record { given = (N :* c :< N :* (D :* D) :+ a :* a) ∷ []; goal = (c :- D :* D) :* N :< (`0 :- a) :* (`0 :- a); cert = hyp 0 }) refl a N c D)

-- ---- an edge

pub normal_rest : {p : Vec3} → Small p → Rest (dot p p)
normal_rest {p} s = record { sign = dot_self_nonnegative p; size = dot_upto s s }

pub edge_is : {q : PreparedHalfspace} → SoundHalfspace q → (p : Vec3)
    → positive (pos 0 -ℤ dot q.f p) && lt_z (q.rest *ℤ dot p p) ((pos 0 -ℤ dot q.f p) *ℤ (pos 0 -ℤ dot q.f p)) ≡ beyond_edge q.f q.low p
unfolding beyond_edge
edge_is {q} h p =
    let a = dot q.f p in
    (λ i. positive (pos 0 -ℤ a) && lt_z ((sound_beside h).is i *ℤ dot p p) ((pos 0 -ℤ a) *ℤ (pos 0 -ℤ a)))
    ∙ (λ i. turned a i && moved a (dot p p) (dot q.f q.f) q.low i)

-- ---- D = 0

never : (N a c D : ℤ) → pos 0 ≤ℤ N → pos 0 ≤ℤ D → D ≤ℤ pos 0 → (a *ℤ a) ≤ℤ (c *ℤ N) → (N *ℤ (D *ℤ D) +ℤ a *ℤ a) ≤ℤ (N *ℤ c)
never = prove 4
    (λ N a c D. record {
      given = (`0 :≤ N) ∷ (`0 :≤ D) ∷ (D :≤ `0) ∷ (a :* a :≤ c :* N) ∷ [];
      goal = N :* (D :* D) :+ a :* a :≤ N :* c;
      cert = hyp 3 ⊕ hyp 0 ⊗ hyp 1 ⊗ hyp 2;
    })
    refl

flat_edge : (f P : Vec3) (D : ℤ) → pos 0 ≤ℤ D → D ≤ℤ pos 0 → beyond_edge f D P ≡ false
unfolding beyond_edge
flat_edge f P D n z = and_no_right (lt_z (dot f P) (pos 0)) (no_lt (never (dot P P) (dot f P) (dot f f) D (dot_nn (v3 P)) n z (cauchy_schwarz (v3 f) (v3 P))))

low_sign : {q : PreparedHalfspace} → SoundHalfspace q → pos 0 ≤ℤ q.low
low_sign h = subst (λ q. pos 0 ≤ℤ q.low) (sym h.is) (nn_pos (nat_abs h.halfspace.d * 1048576 / 1048578))

-- ---- the three edges of a trixel

module _ (q : PreparedHalfspace) (t : Trixel) where
  pub first_beyond : beyond_edge q.f q.low t.p0 ≡ true → edges_class q t ≡ class_apart q.d
  first_beyond e = is_beyond q t (or_left _ e)

  pub second_beyond : beyond_edge q.f q.low t.p1 ≡ true → edges_class q t ≡ class_apart q.d
  second_beyond e = is_beyond q t (or_right (beyond_edge q.f q.low t.p0) (or_left _ e))

  pub third_beyond : beyond_edge q.f q.low t.p2 ≡ true → edges_class q t ≡ class_apart q.d
  third_beyond e = is_beyond q t (or_right (beyond_edge q.f q.low t.p0) (or_right (beyond_edge q.f q.low t.p1) e))

  pub none_beyond : beyond_edge q.f q.low t.p0 ≡ false → beyond_edge q.f q.low t.p1 ≡ false → beyond_edge q.f q.low t.p2 ≡ false → edges_class q t ≡ Partial
  none_beyond e f g = not_beyond q t (or_neither e (or_neither f g))

  pub flat : SoundHalfspace q → le_z q.low (pos 0) ≡ true → edges_class q t ≡ Partial
  flat h z =
      let n = low_sign h in
      none_beyond (flat_edge q.f t.p0 q.low n (le_yes z)) (flat_edge q.f t.p1 q.low n (le_yes z)) (flat_edge q.f t.p2 q.low n (le_yes z))
