-- The jump: a place p is followed down the mesh by three numbers d0 d1 d2 instead of by corners, P = d0 v0 + d1 v1 + d2 v2 with the true corners
-- being nearly a multiple of p. A cut hardly moves P, and the side of P at a cut is the sign of d0 − d1 − d2. Everything per component. Assumes nothing.
--   Size a x   −a ≤ x ≤ a
use mathlib.Core.Path.{◌≡◌, refl}
use mathlib.Core.List.{[], ◌∷◌}
use lib.IntN.{ℤ, pos, neg_ℤ, ◌+ℤ◌, ◌-ℤ◌, ◌*ℤ◌}
use lib.Signed.{◌≤ℤ◌, ◌<ℤ◌}
use Rattle.algebra.proofs.Ring.{Expr, con, ◌:+◌, ◌:-◌, ◌:*◌, :neg}
use Rattle.algebra.proofs.Claim.{◌:≤◌, ◌:<◌, ◌:≡◌, nat, hyp, sq, eqn, ◌⊕◌, ◌⊗◌, ring, prove}
use Rattle.algebra.proofs.Inequalities.{`0, `1, ≤ℤ-by-no, <ℤ-by-no, cancel-≤ℤ}
use Rattle.algebra.proofs.Vec.{V3, E3, dot, cross, dot_e, cross_e, ring_v}

abbrev `2 : Expr
`2 = con (pos 2)

abbrev `3 : Expr
`3 = con (pos 3)

abbrev `6 : Expr
`6 = con (pos 6)

abbrev `8 : Expr
`8 = con (pos 8)

abbrev `16 : Expr
`16 = con (pos 16)

-- ---- Cramer

abbrev pub det : V3 → V3 → V3 → ℤ
det a b c = dot (cross a b) c

abbrev det_e : E3 → E3 → E3 → Expr
det_e a b c = dot_e (cross_e a b) c

module _ (v0 v1 v2 q : V3) where
  pub cramer_x : det v1 v2 q *ℤ v0.x +ℤ det v2 v0 q *ℤ v1.x +ℤ det v0 v1 q *ℤ v2.x ≡ det v0 v1 v2 *ℤ q.x
  cramer_x = ring_v 4
      (λ v0 v1 v2 q. det_e v1 v2 q :* v0.x :+ det_e v2 v0 q :* v1.x :+ det_e v0 v1 q :* v2.x :≡ det_e v0 v1 v2 :* q.x) refl v0 v1 v2 q

  pub cramer_y : det v1 v2 q *ℤ v0.y +ℤ det v2 v0 q *ℤ v1.y +ℤ det v0 v1 q *ℤ v2.y ≡ det v0 v1 v2 *ℤ q.y
  cramer_y = ring_v 4
      (λ v0 v1 v2 q. det_e v1 v2 q :* v0.y :+ det_e v2 v0 q :* v1.y :+ det_e v0 v1 q :* v2.y :≡ det_e v0 v1 v2 :* q.y) refl v0 v1 v2 q

  pub cramer_z : det v1 v2 q *ℤ v0.z +ℤ det v2 v0 q *ℤ v1.z +ℤ det v0 v1 q *ℤ v2.z ≡ det v0 v1 v2 *ℤ q.z
  cramer_z = ring_v 4
      (λ v0 v1 v2 q. det_e v1 v2 q :* v0.z :+ det_e v2 v0 q :* v1.z :+ det_e v0 v1 q :* v2.z :≡ det_e v0 v1 v2 :* q.z) refl v0 v1 v2 q

-- ---- flat numbers give P back, twice: at the doubled corner and the sums of two for child 0, at the three sums for the middle

pub flat_child : (v0 v1 v2 d0 d1 d2 : ℤ)
    → (d0 -ℤ d1 -ℤ d2) *ℤ (v0 +ℤ v0) +ℤ pos 2 *ℤ d1 *ℤ (v0 +ℤ v1) +ℤ pos 2 *ℤ d2 *ℤ (v0 +ℤ v2) ≡ pos 2 *ℤ (d0 *ℤ v0 +ℤ d1 *ℤ v1 +ℤ d2 *ℤ v2)
flat_child = ring 6
    (λ v0 v1 v2 d0 d1 d2. (d0 :- d1 :- d2) :* (v0 :+ v0) :+ `2 :* d1 :* (v0 :+ v1) :+ `2 :* d2 :* (v0 :+ v2) :≡ `2 :* (d0 :* v0 :+ d1 :* v1 :+ d2 :* v2))
    refl

pub flat_middle : (v0 v1 v2 d0 d1 d2 : ℤ)
    → (d1 +ℤ d2 -ℤ d0) *ℤ (v1 +ℤ v2) +ℤ (d0 +ℤ d2 -ℤ d1) *ℤ (v0 +ℤ v2) +ℤ (d0 +ℤ d1 -ℤ d2) *ℤ (v0 +ℤ v1)
    ≡ pos 2 *ℤ (d0 *ℤ v0 +ℤ d1 *ℤ v1 +ℤ d2 *ℤ v2)
flat_middle = ring 6
    (λ v0 v1 v2 d0 d1 d2.
    (d1 :+ d2 :- d0) :* (v1 :+ v2) :+ (d0 :+ d2 :- d1) :* (v0 :+ v2) :+ (d0 :+ d1 :- d2) :* (v0 :+ v1) :≡ `2 :* (d0 :* v0 :+ d1 :* v1 :+ d2 :* v2))
    refl

-- the same for the component z, which is measured as −z

pub flat_child_z : (v0 v1 v2 d0 d1 d2 : ℤ)
    → (d0 -ℤ d1 -ℤ d2) *ℤ neg_ℤ (v0 +ℤ v0) +ℤ pos 2 *ℤ d1 *ℤ neg_ℤ (v0 +ℤ v1) +ℤ pos 2 *ℤ d2 *ℤ neg_ℤ (v0 +ℤ v2)
    ≡ pos 2 *ℤ (d0 *ℤ neg_ℤ v0 +ℤ d1 *ℤ neg_ℤ v1 +ℤ d2 *ℤ neg_ℤ v2)
flat_child_z = ring 6
    (λ v0 v1 v2 d0 d1 d2.
    (d0 :- d1 :- d2) :* :neg (v0 :+ v0) :+ `2 :* d1 :* :neg (v0 :+ v1) :+ `2 :* d2 :* :neg (v0 :+ v2)
    :≡ `2 :* (d0 :* :neg v0 :+ d1 :* :neg v1 :+ d2 :* :neg v2))
    refl

pub flat_middle_z : (v0 v1 v2 d0 d1 d2 : ℤ)
    → (d1 +ℤ d2 -ℤ d0) *ℤ neg_ℤ (v1 +ℤ v2) +ℤ (d0 +ℤ d2 -ℤ d1) *ℤ neg_ℤ (v0 +ℤ v2) +ℤ (d0 +ℤ d1 -ℤ d2) *ℤ neg_ℤ (v0 +ℤ v1)
    ≡ pos 2 *ℤ (d0 *ℤ neg_ℤ v0 +ℤ d1 *ℤ neg_ℤ v1 +ℤ d2 *ℤ neg_ℤ v2)
flat_middle_z = ring 6
    (λ v0 v1 v2 d0 d1 d2.
    (d1 :+ d2 :- d0) :* :neg (v1 :+ v2) :+ (d0 :+ d2 :- d1) :* :neg (v0 :+ v2) :+ (d0 :+ d1 :- d2) :* :neg (v0 :+ v1)
    :≡ `2 :* (d0 :* :neg v0 :+ d1 :* :neg v1 :+ d2 :* :neg v2))
    refl

-- ---- sizes

pub record Size (a x : ℤ) : Type 0 where
  pub low : neg_ℤ a ≤ℤ x
  pub high : x ≤ℤ a

-- x y is at most a b in size
pub size_mul : {a b x y : ℤ} → Size a x → Size b y → Size (a *ℤ b) (x *ℤ y)
size_mul {a} {b} {x} {y} p q = record {
  low = cancel-≤ℤ {c = pos 2} two
      (prove 4
      (λ a b x y. record {
        given = (:neg a :≤ x) ∷ (x :≤ a) ∷ (:neg b :≤ y) ∷ (y :≤ b) ∷ [];
        goal = `2 :* :neg (a :* b) :≤ `2 :* (x :* y);
        cert = hyp 0 ⊗ hyp 2 ⊕ hyp 1 ⊗ hyp 3;
      })
      refl a b x y p.low p.high q.low q.high);
  high = cancel-≤ℤ {c = pos 2} two
      (prove 4
      (λ a b x y. record {
        given = (:neg a :≤ x) ∷ (x :≤ a) ∷ (:neg b :≤ y) ∷ (y :≤ b) ∷ [];
        goal = `2 :* (x :* y) :≤ `2 :* (a :* b);
        cert = hyp 0 ⊗ hyp 3 ⊕ hyp 1 ⊗ hyp 2;
      })
      refl a b x y p.low p.high q.low q.high);
}
  where
    two : pos 0 <ℤ pos 2
    two = prove 0 (record { given = []; goal = `0 :< `2; cert = nat 1 }) refl

-- ---- the cut, one component: the flat numbers z give 2 P at the flat points m; the child's numbers y give Q at the new corners w.
-- n w = K m − r with n = 2 K − h. A corner that is kept has m = 2 v, w = v, h = r = 0, y = z.
-- With xi = hi zi − 2 K (zi − yi) for what is left of the bending, S = y0 + y1 + y2, X = x0 + x1 + x2:
--   (2 K S − X) Q = 2 K S P + Σ (xi yj − xj yi) (wi − wj) − S Σ zi ri

pub bent_identity : (k x0 x1 x2 y0 y1 y2 z0 z1 z2 m0 m1 m2 w0 w1 w2 h0 h1 h2 r0 r1 r2 P : ℤ)
    → (pos 2 *ℤ k -ℤ h0) *ℤ w0 ≡ k *ℤ m0 -ℤ r0 → (pos 2 *ℤ k -ℤ h1) *ℤ w1 ≡ k *ℤ m1 -ℤ r1 → (pos 2 *ℤ k -ℤ h2) *ℤ w2 ≡ k *ℤ m2 -ℤ r2
    → z0 *ℤ m0 +ℤ z1 *ℤ m1 +ℤ z2 *ℤ m2 ≡ pos 2 *ℤ P
    → x0 ≡ h0 *ℤ z0 -ℤ pos 2 *ℤ k *ℤ (z0 -ℤ y0) → x1 ≡ h1 *ℤ z1 -ℤ pos 2 *ℤ k *ℤ (z1 -ℤ y1) → x2 ≡ h2 *ℤ z2 -ℤ pos 2 *ℤ k *ℤ (z2 -ℤ y2)
    → (pos 2 *ℤ k *ℤ (y0 +ℤ y1 +ℤ y2) -ℤ (x0 +ℤ x1 +ℤ x2)) *ℤ (y0 *ℤ w0 +ℤ y1 *ℤ w1 +ℤ y2 *ℤ w2)
    ≡ pos 2 *ℤ k *ℤ (y0 +ℤ y1 +ℤ y2) *ℤ P
    +ℤ ((x0 *ℤ y1 -ℤ x1 *ℤ y0) *ℤ (w0 -ℤ w1) +ℤ (x0 *ℤ y2 -ℤ x2 *ℤ y0) *ℤ (w0 -ℤ w2) +ℤ (x1 *ℤ y2 -ℤ x2 *ℤ y1) *ℤ (w1 -ℤ w2)
    -ℤ (y0 +ℤ y1 +ℤ y2) *ℤ (z0 *ℤ r0 +ℤ z1 *ℤ r1 +ℤ z2 *ℤ r2))
bent_identity = prove 23
    (λ k x0 x1 x2 y0 y1 y2 z0 z1 z2 m0 m1 m2 w0 w1 w2 h0 h1 h2 r0 r1 r2 P. record {
      given = ((`2 :* k :- h0) :* w0 :≡ k :* m0 :- r0) ∷ ((`2 :* k :- h1) :* w1 :≡ k :* m1 :- r1) ∷ ((`2 :* k :- h2) :* w2 :≡ k :* m2 :- r2)
          ∷ (z0 :* m0 :+ z1 :* m1 :+ z2 :* m2 :≡ `2 :* P)
          ∷ (x0 :≡ h0 :* z0 :- `2 :* k :* (z0 :- y0)) ∷ (x1 :≡ h1 :* z1 :- `2 :* k :* (z1 :- y1)) ∷ (x2 :≡ h2 :* z2 :- `2 :* k :* (z2 :- y2)) ∷ [];
      goal = (`2 :* k :* (y0 :+ y1 :+ y2) :- (x0 :+ x1 :+ x2)) :* (y0 :* w0 :+ y1 :* w1 :+ y2 :* w2)
          :≡ `2 :* k :* (y0 :+ y1 :+ y2) :* P
          :+ ((x0 :* y1 :- x1 :* y0) :* (w0 :- w1) :+ (x0 :* y2 :- x2 :* y0) :* (w0 :- w2) :+ (x1 :* y2 :- x2 :* y1) :* (w1 :- w2)
          :- (y0 :+ y1 :+ y2) :* (z0 :* r0 :+ z1 :* r1 :+ z2 :* r2));
      cert = eqn 0 ((y0 :+ y1 :+ y2) :* z0) ⊕ eqn 1 ((y0 :+ y1 :+ y2) :* z1) ⊕ eqn 2 ((y0 :+ y1 :+ y2) :* z2) ⊕ eqn 3 (k :* (y0 :+ y1 :+ y2))
          ⊕ eqn 4 (:neg ((y0 :+ y1 :+ y2) :* w0)) ⊕ eqn 5 (:neg ((y0 :+ y1 :+ y2) :* w1)) ⊕ eqn 6 (:neg ((y0 :+ y1 :+ y2) :* w2));
    })
    refl

-- three numbers: the sum of their products two by two is at most a third of the square of their sum
pairs_at_most : (z0 z1 z2 : ℤ) → (pos 3 *ℤ (z0 *ℤ z1 +ℤ z0 *ℤ z2 +ℤ z1 *ℤ z2)) ≤ℤ ((z0 +ℤ z1 +ℤ z2) *ℤ (z0 +ℤ z1 +ℤ z2))
pairs_at_most z0 z1 z2 = cancel-≤ℤ {c = pos 2} (prove 0 (record { given = []; goal = `0 :< `2; cert = nat 1 }) refl)
    (prove 3
    (λ z0 z1 z2. record {
      given = [];
      goal = `2 :* (`3 :* (z0 :* z1 :+ z0 :* z2 :+ z1 :* z2)) :≤ `2 :* ((z0 :+ z1 :+ z2) :* (z0 :+ z1 :+ z2));
      cert = sq (z0 :- z1) ⊕ sq (z0 :- z2) ⊕ sq (z1 :- z2);
    })
    refl z0 z1 z2)

-- ---- what the cut adds

-- a pair of corners: −a z ≤ 8 x ≤ c z + d and 0 ≤ y ≤ z at both
pub pair_most : (a c d x0 y0 z0 x1 y1 z1 : ℤ)
    → pos 0 ≤ℤ a → pos 0 ≤ℤ c → pos 0 ≤ℤ d → pos 0 ≤ℤ y0 → y0 ≤ℤ z0 → pos 0 ≤ℤ y1 → y1 ≤ℤ z1
    → (pos 8 *ℤ x0) ≤ℤ (c *ℤ z0 +ℤ d) → neg_ℤ (a *ℤ z1) ≤ℤ (pos 8 *ℤ x1)
    → (pos 8 *ℤ (x0 *ℤ y1 -ℤ x1 *ℤ y0)) ≤ℤ ((a +ℤ c) *ℤ (z0 *ℤ z1) +ℤ d *ℤ (z0 +ℤ z1))
pair_most = prove 9
    (λ a c d x0 y0 z0 x1 y1 z1. record {
      given = (`0 :≤ a) ∷ (`0 :≤ c) ∷ (`0 :≤ d) ∷ (`0 :≤ y0) ∷ (y0 :≤ z0) ∷ (`0 :≤ y1) ∷ (y1 :≤ z1)
          ∷ (`8 :* x0 :≤ c :* z0 :+ d) ∷ (:neg (a :* z1) :≤ `8 :* x1) ∷ [];
      goal = `8 :* (x0 :* y1 :- x1 :* y0) :≤ (a :+ c) :* (z0 :* z1) :+ d :* (z0 :+ z1);
      cert = hyp 5 ⊗ hyp 7 ⊕ hyp 3 ⊗ hyp 8 ⊕ (hyp 1 ⊗ (hyp 3 ⊕ hyp 4) ⊕ hyp 2) ⊗ hyp 6 ⊕ hyp 0 ⊗ hyp 4 ⊗ (hyp 5 ⊕ hyp 6) ⊕ hyp 2 ⊗ (hyp 3 ⊕ hyp 4);
    })
    refl

-- three pairs: q the terms of the pairs, o the differences of the corners, each at most L
pub pairs_size : (g d L z0 z1 z2 q01 q02 q12 o01 o02 o12 : ℤ)
    → pos 0 ≤ℤ g → pos 0 ≤ℤ L → pos 0 ≤ℤ (z0 +ℤ z1 +ℤ z2) → (pos 6 *ℤ d) ≤ℤ (z0 +ℤ z1 +ℤ z2)
    → Size ((g *ℤ (z0 *ℤ z1) +ℤ d *ℤ (z0 +ℤ z1)) *ℤ L) (pos 8 *ℤ q01 *ℤ o01)
    → Size ((g *ℤ (z0 *ℤ z2) +ℤ d *ℤ (z0 +ℤ z2)) *ℤ L) (pos 8 *ℤ q02 *ℤ o02)
    → Size ((g *ℤ (z1 *ℤ z2) +ℤ d *ℤ (z1 +ℤ z2)) *ℤ L) (pos 8 *ℤ q12 *ℤ o12)
    → Size ((g +ℤ pos 1) *ℤ L *ℤ ((z0 +ℤ z1 +ℤ z2) *ℤ (z0 +ℤ z1 +ℤ z2))) (pos 24 *ℤ (q01 *ℤ o01 +ℤ q02 *ℤ o02 +ℤ q12 *ℤ o12))
pairs_size g d L z0 z1 z2 q01 q02 q12 o01 o02 o12 g_nn L-nn S-nn small s01 s02 s12 = record {
  low = prove 12
      (λ g d L z0 z1 z2 q01 q02 q12 o01 o02 o12. record {
        given = (`0 :≤ g) ∷ (`0 :≤ L) ∷ (`0 :≤ z0 :+ z1 :+ z2) ∷ (`6 :* d :≤ z0 :+ z1 :+ z2)
            ∷ (:neg ((g :* (z0 :* z1) :+ d :* (z0 :+ z1)) :* L) :≤ `8 :* q01 :* o01) ∷ (:neg ((g :* (z0 :* z2) :+ d :* (z0 :+ z2)) :* L) :≤ `8 :* q02 :* o02)
            ∷ (:neg ((g :* (z1 :* z2) :+ d :* (z1 :+ z2)) :* L) :≤ `8 :* q12 :* o12)
            ∷ (`3 :* (z0 :* z1 :+ z0 :* z2 :+ z1 :* z2) :≤ (z0 :+ z1 :+ z2) :* (z0 :+ z1 :+ z2)) ∷ [];
        goal = :neg ((g :+ `1) :* L :* ((z0 :+ z1 :+ z2) :* (z0 :+ z1 :+ z2))) :≤ con (pos 24) :* (q01 :* o01 :+ q02 :* o02 :+ q12 :* o12);
        cert = nat 3 ⊗ (hyp 4 ⊕ hyp 5 ⊕ hyp 6) ⊕ hyp 1 ⊗ hyp 0 ⊗ hyp 7 ⊕ hyp 1 ⊗ hyp 2 ⊗ hyp 3;
      })
      refl g d L z0 z1 z2 q01 q02 q12 o01 o02 o12 g_nn L-nn S-nn small s01.low s02.low s12.low (pairs_at_most z0 z1 z2);
  high = prove 12
      (λ g d L z0 z1 z2 q01 q02 q12 o01 o02 o12. record {
        given = (`0 :≤ g) ∷ (`0 :≤ L) ∷ (`0 :≤ z0 :+ z1 :+ z2) ∷ (`6 :* d :≤ z0 :+ z1 :+ z2)
            ∷ (`8 :* q01 :* o01 :≤ (g :* (z0 :* z1) :+ d :* (z0 :+ z1)) :* L) ∷ (`8 :* q02 :* o02 :≤ (g :* (z0 :* z2) :+ d :* (z0 :+ z2)) :* L)
            ∷ (`8 :* q12 :* o12 :≤ (g :* (z1 :* z2) :+ d :* (z1 :+ z2)) :* L)
            ∷ (`3 :* (z0 :* z1 :+ z0 :* z2 :+ z1 :* z2) :≤ (z0 :+ z1 :+ z2) :* (z0 :+ z1 :+ z2)) ∷ [];
        goal = con (pos 24) :* (q01 :* o01 :+ q02 :* o02 :+ q12 :* o12) :≤ (g :+ `1) :* L :* ((z0 :+ z1 :+ z2) :* (z0 :+ z1 :+ z2));
        cert = nat 3 ⊗ (hyp 4 ⊕ hyp 5 ⊕ hyp 6) ⊕ hyp 1 ⊗ hyp 0 ⊗ hyp 7 ⊕ hyp 1 ⊗ hyp 2 ⊗ hyp 3;
      })
      refl g d L z0 z1 z2 q01 q02 q12 o01 o02 o12 g_nn L-nn S-nn small s01.high s02.high s12.high (pairs_at_most z0 z1 z2);
}

-- ---- the step, from b to b'. S is the sum of the flat numbers, T of the child's; N stands for 2 K T − X, B for the pairs, R for Σ zi ri, j for 16 K − A,
-- g for Γ0 + Γ1 + 1

-- N against T
pub factor_least : (k j g S T X : ℤ) → pos 0 ≤ℤ j → pos 0 ≤ℤ g → (pos 8 *ℤ X) ≤ℤ (g *ℤ S) → (j *ℤ S) ≤ℤ (pos 16 *ℤ k *ℤ T)
    → (pos 16 *ℤ k *ℤ T *ℤ (j -ℤ g)) ≤ℤ (pos 8 *ℤ j *ℤ (pos 2 *ℤ k *ℤ T -ℤ X))
factor_least = prove 6
    (λ k j g S T X. record {
      given = (`0 :≤ j) ∷ (`0 :≤ g) ∷ (`8 :* X :≤ g :* S) ∷ (j :* S :≤ `16 :* k :* T) ∷ [];
      goal = `16 :* k :* T :* (j :- g) :≤ `8 :* j :* (`2 :* k :* T :- X);
      cert = hyp 0 ⊗ hyp 2 ⊕ hyp 1 ⊗ hyp 3;
    })
    refl

pub step_positive : (k j g T N : ℤ) → pos 0 <ℤ k → pos 0 ≤ℤ j → pos 0 <ℤ T → g <ℤ j → (pos 16 *ℤ k *ℤ T *ℤ (j -ℤ g)) ≤ℤ (pos 8 *ℤ j *ℤ N) → pos 0 <ℤ N
step_positive k j g T N k_positive j_nn T-positive below least = <ℤ-by-no
    (prove 5
    (λ k j g T N. record {
      given = (`0 :< k) ∷ (`0 :≤ j) ∷ (`0 :< T) ∷ (g :< j) ∷ (`16 :* k :* T :* (j :- g) :≤ `8 :* j :* N) ∷ (N :≤ `0) ∷ [];
      goal = `1 :≤ `0;
      cert = hyp 4 ⊕ nat 8 ⊗ hyp 1 ⊗ hyp 5 ⊕ nat 16 ⊗ (hyp 0 ⊗ (nat 1 ⊕ hyp 2) ⊗ (nat 1 ⊕ hyp 3) ⊕ hyp 2 ⊗ (nat 1 ⊕ hyp 3) ⊕ hyp 3) ⊕ nat 15;
    })
    refl k j g T N k_positive j_nn T-positive below least)

-- the next level's bounds are not negative
pub ahead_nn : (k u b h j g L : ℤ) → pos 0 ≤ℤ k → pos 0 ≤ℤ u → pos 0 ≤ℤ b → pos 0 <ℤ j → pos 0 ≤ℤ (g *ℤ L) → g <ℤ j
    → (pos 48 *ℤ k *ℤ (b *ℤ j) +ℤ pos 16 *ℤ k *ℤ (u *ℤ (g *ℤ L))) ≤ℤ (pos 3 *ℤ j *ℤ (h *ℤ (j -ℤ g))) → pos 0 ≤ℤ h
ahead_nn k u b h j g L k_nn u_nn b-nn j_positive g_l_nn below grows = ≤ℤ-by-no
    (prove 7
    (λ k u b h j g L. record {
      given = (`0 :≤ k) ∷ (`0 :≤ u) ∷ (`0 :≤ b) ∷ (`0 :< j) ∷ (`0 :≤ g :* L) ∷ (g :< j)
          ∷ (con (pos 48) :* k :* (b :* j) :+ `16 :* k :* (u :* (g :* L)) :≤ `3 :* j :* (h :* (j :- g))) ∷ (h :< `0) ∷ [];
      goal = `1 :≤ `0;
      cert = hyp 6 ⊕ nat 48 ⊗ hyp 0 ⊗ hyp 2 ⊗ (nat 1 ⊕ hyp 3) ⊕ nat 16 ⊗ hyp 0 ⊗ hyp 1 ⊗ hyp 4
          ⊕ nat 3 ⊗ (hyp 3 ⊗ (nat 1 ⊕ hyp 5) ⊗ (nat 1 ⊕ hyp 7) ⊕ hyp 5 ⊗ (nat 1 ⊕ hyp 7) ⊕ hyp 7) ⊕ nat 2;
    })
    refl k u b h j g L k_nn u_nn b-nn j_positive g_l_nn below grows)

pub held_nn : (m m' j g : ℤ) → pos 0 ≤ℤ m → pos 0 ≤ℤ j → g <ℤ j → (m *ℤ j) ≤ℤ (m' *ℤ (j -ℤ g)) → pos 0 ≤ℤ m'
held_nn m m' j g m_nn j_nn below grows = ≤ℤ-by-no
    (prove 4
    (λ m m' j g. record {
      given = (`0 :≤ m) ∷ (`0 :≤ j) ∷ (g :< j) ∷ (m :* j :≤ m' :* (j :- g)) ∷ (m' :< `0) ∷ [];
      goal = `1 :≤ `0;
      cert = hyp 3 ⊕ hyp 0 ⊗ hyp 1 ⊕ hyp 2 ⊗ hyp 4 ⊕ hyp 2 ⊕ hyp 4;
    })
    refl m m' j g m_nn j_nn below grows)

-- ahead, for b' = h
pub step_ahead : (k u b h j g L e l S T N P Q p B R : ℤ)
    → pos 0 ≤ℤ k → pos 0 ≤ℤ u → pos 0 ≤ℤ b → pos 0 ≤ℤ h → pos 0 ≤ℤ j → pos 0 ≤ℤ (g *ℤ L) → pos 0 ≤ℤ e → pos 0 ≤ℤ S → pos 0 ≤ℤ T
    → N *ℤ Q ≡ pos 2 *ℤ k *ℤ T *ℤ P +ℤ (B -ℤ T *ℤ R)
    → (u *ℤ (e *ℤ P -ℤ l *ℤ p)) ≤ℤ (b *ℤ e *ℤ S) → (pos 24 *ℤ B) ≤ℤ (g *ℤ L *ℤ (S *ℤ S)) → pos 0 ≤ℤ R
    → (j *ℤ S) ≤ℤ (pos 16 *ℤ k *ℤ T) → (pos 16 *ℤ k *ℤ T *ℤ (j -ℤ g)) ≤ℤ (pos 8 *ℤ j *ℤ N)
    → (pos 48 *ℤ k *ℤ (b *ℤ j) +ℤ pos 16 *ℤ k *ℤ (u *ℤ (g *ℤ L))) ≤ℤ (pos 3 *ℤ j *ℤ (h *ℤ (j -ℤ g)))
    → (pos 24 *ℤ j *ℤ j *ℤ (u *ℤ (e *ℤ N *ℤ Q -ℤ pos 2 *ℤ k *ℤ T *ℤ l *ℤ p))) ≤ℤ (pos 24 *ℤ j *ℤ j *ℤ (h *ℤ (e *ℤ N) *ℤ T))
step_ahead = prove 17
    (λ k u b h j g L e l S T N P Q p B R. record {
      given = (`0 :≤ k) ∷ (`0 :≤ u) ∷ (`0 :≤ b) ∷ (`0 :≤ h) ∷ (`0 :≤ j) ∷ (`0 :≤ g :* L) ∷ (`0 :≤ e) ∷ (`0 :≤ S) ∷ (`0 :≤ T)
          ∷ (N :* Q :≡ `2 :* k :* T :* P :+ (B :- T :* R))
          ∷ (u :* (e :* P :- l :* p) :≤ b :* e :* S) ∷ (con (pos 24) :* B :≤ g :* L :* (S :* S)) ∷ (`0 :≤ R)
          ∷ (j :* S :≤ `16 :* k :* T) ∷ (`16 :* k :* T :* (j :- g) :≤ `8 :* j :* N)
          ∷ (con (pos 48) :* k :* (b :* j) :+ `16 :* k :* (u :* (g :* L)) :≤ `3 :* j :* (h :* (j :- g))) ∷ [];
      goal = con (pos 24) :* j :* j :* (u :* (e :* N :* Q :- `2 :* k :* T :* l :* p)) :≤ con (pos 24) :* j :* j :* (h :* (e :* N) :* T);
      cert = eqn 9 (con (pos 24) :* j :* j :* u :* e) ⊕ nat 24 ⊗ hyp 4 ⊗ hyp 4 ⊗ hyp 1 ⊗ hyp 6 ⊗ hyp 8 ⊗ hyp 12
          ⊕ nat 48 ⊗ hyp 4 ⊗ hyp 4 ⊗ hyp 0 ⊗ hyp 8 ⊗ hyp 10 ⊕ hyp 4 ⊗ hyp 4 ⊗ hyp 1 ⊗ hyp 6 ⊗ hyp 11
          ⊕ (nat 48 ⊗ hyp 0 ⊗ hyp 8 ⊗ hyp 2 ⊗ hyp 6 ⊗ hyp 4 ⊕ hyp 1 ⊗ hyp 6 ⊗ hyp 5 ⊗ (hyp 4 ⊗ hyp 7 ⊕ nat 16 ⊗ hyp 0 ⊗ hyp 8)) ⊗ hyp 13
          ⊕ nat 16 ⊗ hyp 0 ⊗ hyp 6 ⊗ hyp 8 ⊗ hyp 8 ⊗ hyp 15 ⊕ nat 3 ⊗ hyp 4 ⊗ hyp 3 ⊗ hyp 6 ⊗ hyp 8 ⊗ hyp 14;
    })
    refl

-- behind, for b' = h
pub step_behind : (k u b h j g L e l S T N P Q p B R : ℤ)
    → pos 0 ≤ℤ k → pos 0 ≤ℤ u → pos 0 ≤ℤ b → u ≤ℤ h → pos 0 ≤ℤ j → pos 0 ≤ℤ (g *ℤ L) → pos 0 ≤ℤ e → pos 0 ≤ℤ S → pos 0 ≤ℤ T
    → N *ℤ Q ≡ pos 2 *ℤ k *ℤ T *ℤ P +ℤ (B -ℤ T *ℤ R)
    → neg_ℤ (b *ℤ e *ℤ S) ≤ℤ (u *ℤ (e *ℤ P -ℤ l *ℤ p)) → neg_ℤ (g *ℤ L *ℤ (S *ℤ S)) ≤ℤ (pos 24 *ℤ B) → R ≤ℤ N
    → (j *ℤ S) ≤ℤ (pos 16 *ℤ k *ℤ T) → (pos 16 *ℤ k *ℤ T *ℤ (j -ℤ g)) ≤ℤ (pos 8 *ℤ j *ℤ N)
    → (pos 48 *ℤ k *ℤ (b *ℤ j) +ℤ pos 16 *ℤ k *ℤ (u *ℤ (g *ℤ L))) ≤ℤ (pos 3 *ℤ j *ℤ ((h -ℤ u) *ℤ (j -ℤ g)))
    → (pos 24 *ℤ j *ℤ j *ℤ neg_ℤ (h *ℤ (e *ℤ N) *ℤ T)) ≤ℤ (pos 24 *ℤ j *ℤ j *ℤ (u *ℤ (e *ℤ N *ℤ Q -ℤ pos 2 *ℤ k *ℤ T *ℤ l *ℤ p)))
step_behind = prove 17
    (λ k u b h j g L e l S T N P Q p B R. record {
      given = (`0 :≤ k) ∷ (`0 :≤ u) ∷ (`0 :≤ b) ∷ (u :≤ h) ∷ (`0 :≤ j) ∷ (`0 :≤ g :* L) ∷ (`0 :≤ e) ∷ (`0 :≤ S) ∷ (`0 :≤ T)
          ∷ (N :* Q :≡ `2 :* k :* T :* P :+ (B :- T :* R))
          ∷ (:neg (b :* e :* S) :≤ u :* (e :* P :- l :* p)) ∷ (:neg (g :* L :* (S :* S)) :≤ con (pos 24) :* B) ∷ (R :≤ N)
          ∷ (j :* S :≤ `16 :* k :* T) ∷ (`16 :* k :* T :* (j :- g) :≤ `8 :* j :* N)
          ∷ (con (pos 48) :* k :* (b :* j) :+ `16 :* k :* (u :* (g :* L)) :≤ `3 :* j :* ((h :- u) :* (j :- g))) ∷ [];
      goal = con (pos 24) :* j :* j :* :neg (h :* (e :* N) :* T) :≤ con (pos 24) :* j :* j :* (u :* (e :* N :* Q :- `2 :* k :* T :* l :* p));
      cert = eqn 9 (:neg (con (pos 24) :* j :* j :* u :* e)) ⊕ nat 24 ⊗ hyp 4 ⊗ hyp 4 ⊗ hyp 1 ⊗ hyp 6 ⊗ hyp 8 ⊗ hyp 12
          ⊕ nat 48 ⊗ hyp 4 ⊗ hyp 4 ⊗ hyp 0 ⊗ hyp 8 ⊗ hyp 10 ⊕ hyp 4 ⊗ hyp 4 ⊗ hyp 1 ⊗ hyp 6 ⊗ hyp 11
          ⊕ (nat 48 ⊗ hyp 0 ⊗ hyp 8 ⊗ hyp 2 ⊗ hyp 6 ⊗ hyp 4 ⊕ hyp 1 ⊗ hyp 6 ⊗ hyp 5 ⊗ (hyp 4 ⊗ hyp 7 ⊕ nat 16 ⊗ hyp 0 ⊗ hyp 8)) ⊗ hyp 13
          ⊕ nat 16 ⊗ hyp 0 ⊗ hyp 6 ⊗ hyp 8 ⊗ hyp 8 ⊗ hyp 15 ⊕ nat 3 ⊗ hyp 4 ⊗ hyp 3 ⊗ hyp 6 ⊗ hyp 8 ⊗ hyp 14;
    })
    refl

-- D l / e at most m before, at most m' behind
pub step_held : (k j g D e l m m' T N : ℤ)
    → pos 0 ≤ℤ k → pos 0 ≤ℤ j → pos 0 ≤ℤ e → pos 0 ≤ℤ T → pos 0 ≤ℤ m'
    → (D *ℤ l) ≤ℤ (e *ℤ m) → (m *ℤ j) ≤ℤ (m' *ℤ (j -ℤ g)) → (pos 16 *ℤ k *ℤ T *ℤ (j -ℤ g)) ≤ℤ (pos 8 *ℤ j *ℤ N)
    → (pos 8 *ℤ j *ℤ (D *ℤ (pos 2 *ℤ k *ℤ T *ℤ l))) ≤ℤ (pos 8 *ℤ j *ℤ (e *ℤ N *ℤ m'))
step_held = prove 10
    (λ k j g D e l m m' T N. record {
      given = (`0 :≤ k) ∷ (`0 :≤ j) ∷ (`0 :≤ e) ∷ (`0 :≤ T) ∷ (`0 :≤ m')
          ∷ (D :* l :≤ e :* m) ∷ (m :* j :≤ m' :* (j :- g)) ∷ (`16 :* k :* T :* (j :- g) :≤ `8 :* j :* N) ∷ [];
      goal = `8 :* j :* (D :* (`2 :* k :* T :* l)) :≤ `8 :* j :* (e :* N :* m');
      cert = nat 16 ⊗ hyp 1 ⊗ hyp 0 ⊗ hyp 3 ⊗ hyp 5 ⊕ nat 16 ⊗ hyp 0 ⊗ hyp 3 ⊗ hyp 2 ⊗ hyp 6 ⊕ hyp 2 ⊗ hyp 4 ⊗ hyp 7;
    })
    refl
