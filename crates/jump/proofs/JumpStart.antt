-- The start of the jump: the three determinants of exact corners and p, pushed outward, follow it with nothing lost, by Cramer, and their sum is nearly the volume.
-- Assumes nothing.
use mathlib.Core.Path.{◌≡◌, refl}
use mathlib.Core.List.{[], ◌∷◌}
use lib.IntN.{ℤ, pos, neg_ℤ, ◌+ℤ◌, ◌-ℤ◌, ◌*ℤ◌}
use lib.Signed.{◌≤ℤ◌, ◌<ℤ◌, le_z_yes, lt_z_yes, <ℤ-≤ℤ_trans}
use Rattle.algebra.proofs.Ring.{Expr, con, ◌:+◌, ◌:-◌, ◌:*◌, :neg}
use Rattle.algebra.proofs.Order.{≤ℤ-trans}
use Rattle.algebra.proofs.Claim.{◌:≤◌, ◌:≡◌, nat, hyp, eqn, ◌⊕◌, ◌⊗◌, prove}
use Rattle.algebra.proofs.Inequalities.{`0, `1, cancel-≤ℤ, <ℤ→≤ℤ}
use Rattle.algebra.proofs.Vec.{V3, dot, dot_e, cross_e, ring_v}
use Rattle.jump.proofs.Jump.{det, cramer_x, cramer_y, cramer_z}
use Rattle.jump.proofs.JumpInvariant.{Near, Follows, pushed}
use Rattle.jump.proofs.JumpShape.{Corner}
use Rattle.jump.proofs.JumpLevel.{Pointing, meet}
use Rattle.jump.proofs.JumpConstants.{k, u, δ, D, least, constants_at, bounds_at}

abbrev `2 : Expr
`2 = con (pos 2)

abbrev `3 : Expr
`3 = con (pos 3)

-- Cramer along any f
cramer_along : (f v0 v1 v2 q : V3) → det v1 v2 q *ℤ dot f v0 +ℤ det v2 v0 q *ℤ dot f v1 +ℤ det v0 v1 q *ℤ dot f v2 ≡ det v0 v1 v2 *ℤ dot f q
cramer_along = ring_v 5
    (λ f v0 v1 v2 q. dot_e (cross_e v1 v2) q :* dot_e f v0 :+ dot_e (cross_e v2 v0) q :* dot_e f v1 :+ dot_e (cross_e v0 v1) q :* dot_e f v2 :≡ dot_e (cross_e v0 v1) v2 :* dot_e f q)
    refl

-- ---- nothing is lost

begins : (u S P g q : ℤ) → P ≡ g *ℤ q → Near u (pos 0) (pos 0) (pos 1) g S P q
begins u S P g q h = record {
  behind = prove 5 (λ u S P g q. record { given = (P :≡ g :* q) ∷ []; goal = :neg (`0 :* `1 :* S) :≤ u :* (`1 :* P :- g :* q); cert = eqn 0 (:neg u) }) refl u S P g q h;
  ahead = prove 5 (λ u S P g q. record { given = (P :≡ g :* q) ∷ []; goal = u :* (`1 :* P :- g :* q) :≤ `0 :* `1 :* S; cert = eqn 0 u }) refl u S P g q h;
}

opposite : (d0 d1 d2 a b c g q : ℤ) → d0 *ℤ a +ℤ d1 *ℤ b +ℤ d2 *ℤ c ≡ g *ℤ q → d0 *ℤ neg_ℤ a +ℤ d1 *ℤ neg_ℤ b +ℤ d2 *ℤ neg_ℤ c ≡ g *ℤ neg_ℤ q
opposite = prove 8
    (λ d0 d1 d2 a b c g q. record {
      given = (d0 :* a :+ d1 :* b :+ d2 :* c :≡ g :* q) ∷ [];
      goal = d0 :* :neg a :+ d1 :* :neg b :+ d2 :* :neg c :≡ g :* :neg q;
      cert = eqn 0 (:neg `1);
    })
    refl

-- ---- the sum is large

-- p·(p pushed) is at least p·p less what the push may take
pushed_least : (k δ : ℤ) (p : V3) → Pointing k p → pos 0 ≤ℤ δ → ((k -ℤ pos 2) *ℤ (k -ℤ pos 2) -ℤ pos 3 *ℤ k *ℤ δ) ≤ℤ dot p (pushed δ p)
pushed_least k δ p pt h = prove 5
    (λ k δ x y z. record {
      given = ((k :- `2) :* (k :- `2) :≤ x :* x :+ y :* y :+ z :* z) ∷ (`0 :≤ δ) ∷ (:neg k :≤ x) ∷ (:neg k :≤ y) ∷ (z :≤ k) ∷ [];
      goal = (k :- `2) :* (k :- `2) :- `3 :* k :* δ :≤ x :* (x :+ δ) :+ y :* (y :+ δ) :+ z :* (z :- δ);
      cert = hyp 0 ⊕ hyp 1 ⊗ (hyp 2 ⊕ hyp 3 ⊕ hyp 4);
    })
    refl k δ p.x p.y p.z pt.least h pt.x.low pt.y.low pt.z.high

sum_by : (d0 d1 d2 g x0 x1 x2 y q w v : ℤ) → d0 *ℤ x0 +ℤ d1 *ℤ x1 +ℤ d2 *ℤ x2 ≡ g *ℤ y → x0 ≤ℤ q → x1 ≤ℤ q → x2 ≤ℤ q → pos 0 ≤ℤ d0 → pos 0 ≤ℤ d1 → pos 0 ≤ℤ d2
    → w ≤ℤ y → v ≤ℤ g → pos 0 ≤ℤ g → pos 0 ≤ℤ w → (w *ℤ v) ≤ℤ (q *ℤ (d0 +ℤ d1 +ℤ d2))
sum_by = prove 11
    (λ d0 d1 d2 g x0 x1 x2 y q w v. record {
      given = (d0 :* x0 :+ d1 :* x1 :+ d2 :* x2 :≡ g :* y) ∷ (x0 :≤ q) ∷ (x1 :≤ q) ∷ (x2 :≤ q) ∷ (`0 :≤ d0) ∷ (`0 :≤ d1) ∷ (`0 :≤ d2) ∷ (w :≤ y) ∷ (v :≤ g) ∷ (`0 :≤ g) ∷ (`0 :≤ w) ∷ [];
      goal = w :* v :≤ q :* (d0 :+ d1 :+ d2);
      cert = hyp 10 ⊗ hyp 8 ⊕ hyp 9 ⊗ hyp 7 ⊕ eqn 0 (:neg `1) ⊕ hyp 4 ⊗ hyp 1 ⊕ hyp 5 ⊗ hyp 2 ⊕ hyp 6 ⊗ hyp 3;
    })
    refl

module _ (v0 v1 v2 p : V3) (c0 : Corner k v0) (c1 : Corner k v1) (c2 : Corner k v2) (pt : Pointing k p) (large : least ≤ℤ det v0 v1 v2)
    (n0 : pos 0 ≤ℤ det v1 v2 (pushed δ p)) (n1 : pos 0 ≤ℤ det v2 v0 (pushed δ p)) (n2 : pos 0 ≤ℤ det v0 v1 (pushed δ p)) where
  abbrev q : V3
  q = pushed δ p

  abbrev g : ℤ
  g = det v0 v1 v2

  positive : pos 0 <ℤ g
  positive = <ℤ-≤ℤ_trans {b = least} (lt_z_yes tt) large

  sum_large : (constants_at 0).floor ≤ℤ (det v1 v2 q +ℤ det v2 v0 q +ℤ det v0 v1 q)
  unfolding constants_at
  sum_large = cancel-≤ℤ {c = (k +ℤ pos 2) *ℤ (k +ℤ pos 2)} (lt_z_yes tt) (≤ℤ-trans {b = ((k -ℤ pos 2) *ℤ (k -ℤ pos 2) -ℤ pos 3 *ℤ k *ℤ δ) *ℤ least} (le_z_yes tt)
      (sum_by (det v1 v2 q) (det v2 v0 q) (det v0 v1 q) g (dot p v0) (dot p v1) (dot p v2) (dot p q) ((k +ℤ pos 2) *ℤ (k +ℤ pos 2)) _ least
      (cramer_along p v0 v1 v2 q) (meet k p v0 (le_z_yes tt) pt.most c0.most) (meet k p v1 (le_z_yes tt) pt.most c1.most) (meet k p v2 (le_z_yes tt) pt.most c2.most)
      n0 n1 n2 (pushed_least k δ p pt (le_z_yes tt)) large (<ℤ→≤ℤ positive) (le_z_yes tt)))

  pub start : Follows u D (bounds_at 0 g) (det v1 v2 q) (det v2 v0 q) (det v0 v1 q) v0 v1 v2 q
  unfolding constants_at
  start = record {
    e = pos 1;
    l = g;
    e_positive = lt_z_yes tt;
    l_positive = positive;
    held = prove 1 (λ g. record { given = []; goal = con D :* g :≤ `1 :* (con D :* g); cert = nat 0 }) refl g;
    d0_nn = n0;
    d1_nn = n1;
    d2_nn = n2;
    large = sum_large;
    x = begins u _ _ g q.x (cramer_x v0 v1 v2 q);
    y = begins u _ _ g q.y (cramer_y v0 v1 v2 q);
    z = begins u _ _ g (neg_ℤ q.z) (opposite (det v1 v2 q) (det v2 v0 q) (det v0 v1 q) v0.z v1.z v2.z g q.z (cramer_z v0 v1 v2 q));
  }
