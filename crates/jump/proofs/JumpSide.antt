-- The side of a cut by the jump's numbers. With c = w2 × w1 and f0 = d0 − d1 − d2, K c·P = K f0 c·v0 + d1 c·r2 + d2 c·r1; so where f0 is beyond a margin M,
-- c·p is beyond 3 times the largest component of c, with the sign of f0. Assumes nothing.
--   place      P = d0 v0 + d1 v1 + d2 v2
--   Taxi       the sum of the sizes of a vector's components is at most t
use mathlib.Core.Path.{◌≡◌, refl, subst, ◌∙◌, ap}
use mathlib.Core.List.{[], ◌∷◌}
use lib.IntN.{ℤ, pos, neg_ℤ, ◌+ℤ◌, ◌-ℤ◌, ◌*ℤ◌}
use lib.Signed.{◌≤ℤ◌, ◌<ℤ◌}
use Rattle.algebra.proofs.Ring.{Expr, con, ◌:+◌, ◌:-◌, ◌:*◌, :neg}
use Rattle.algebra.proofs.Claim.{◌:≤◌, ◌:<◌, ◌:≡◌, nat, hyp, eqn, ◌⊕◌, ◌⊗◌, prove}
use Rattle.algebra.proofs.Inequalities.{`0, `1, <ℤ-by-no}
use Rattle.algebra.proofs.Vec.{V3, E3, dot, cross, dot_e, cross_e, ring_v}
use Rattle.jump.proofs.Jump.{Size, size_mul}
use Rattle.jump.proofs.JumpInvariant.{Quotients, rests, both}

abbrev `2 : Expr
`2 = con (pos 2)

abbrev `3 : Expr
`3 = con (pos 3)

-- ---- P, and products with it

abbrev pub place : ℤ → ℤ → ℤ → V3 → V3 → V3 → V3
place d0 d1 d2 v0 v1 v2 = record {
  x = d0 *ℤ v0.x +ℤ d1 *ℤ v1.x +ℤ d2 *ℤ v2.x;
  y = d0 *ℤ v0.y +ℤ d1 *ℤ v1.y +ℤ d2 *ℤ v2.y;
  z = d0 *ℤ v0.z +ℤ d1 *ℤ v1.z +ℤ d2 *ℤ v2.z;
}

place_e : E3 → E3 → E3 → E3 → E3
place_e d v0 v1 v2 = record {
  x = d.x :* v0.x :+ d.y :* v1.x :+ d.z :* v2.x;
  y = d.x :* v0.y :+ d.y :* v1.y :+ d.z :* v2.y;
  z = d.x :* v0.z :+ d.y :* v1.z :+ d.z :* v2.z;
}

pub place_along : (c : V3) (d0 d1 d2 : ℤ) (v0 v1 v2 : V3) → dot c (place d0 d1 d2 v0 v1 v2) ≡ d0 *ℤ dot c v0 +ℤ d1 *ℤ dot c v1 +ℤ d2 *ℤ dot c v2
unfolding place_e
place_along c d0 d1 d2 v0 v1 v2 = ring_v 5
    (λ c d v0 v1 v2. dot_e c (place_e d v0 v1 v2) :≡ d.x :* dot_e c v0 :+ d.y :* dot_e c v1 :+ d.z :* dot_e c v2)
    refl c (record { x = d0; y = d1; z = d2 }) v0 v1 v2

along : (n k cx cy cz mx my mz wx wy wz rx ry rz : ℤ)
    → n *ℤ wx ≡ k *ℤ mx -ℤ rx → n *ℤ wy ≡ k *ℤ my -ℤ ry → n *ℤ wz ≡ k *ℤ mz -ℤ rz
    → n *ℤ (cx *ℤ wx +ℤ cy *ℤ wy +ℤ cz *ℤ wz) ≡ k *ℤ (cx *ℤ mx +ℤ cy *ℤ my +ℤ cz *ℤ mz) -ℤ (cx *ℤ rx +ℤ cy *ℤ ry +ℤ cz *ℤ rz)
along = prove 14
    (λ n k cx cy cz mx my mz wx wy wz rx ry rz. record {
      given = (n :* wx :≡ k :* mx :- rx) ∷ (n :* wy :≡ k :* my :- ry) ∷ (n :* wz :≡ k :* mz :- rz) ∷ [];
      goal = n :* (cx :* wx :+ cy :* wy :+ cz :* wz) :≡ k :* (cx :* mx :+ cy :* my :+ cz :* mz) :- (cx :* rx :+ cy :* ry :+ cz :* rz);
      cert = eqn 0 cx ⊕ eqn 1 cy ⊕ eqn 2 cz;
    })
    refl

-- a corner along c
pub made_along : {k h : ℤ} {m w : V3} (c : V3) (a : Quotients k h m w) → (pos 2 *ℤ k -ℤ h) *ℤ dot c w ≡ k *ℤ dot c m -ℤ dot c (rests a)
made_along {k} {h} {m} {w} c a = along (pos 2 *ℤ k -ℤ h) k c.x c.y c.z m.x m.y m.z w.x w.y w.z a.x.rest a.y.rest a.z.rest
    a.x.is a.y.is a.z.is

-- ---- the identity of the side

cross_first : (a b : V3) → dot (cross a b) a ≡ pos 0
cross_first = ring_v 2 (λ a b. dot_e (cross_e a b) a :≡ `0) refl

cross_second : (a b : V3) → dot (cross a b) b ≡ pos 0
cross_second = ring_v 2 (λ a b. dot_e (cross_e a b) b :≡ `0) refl

both_along : (c a b : V3) → dot c (both a b) ≡ dot c a +ℤ dot c b
both_along = ring_v 3 (λ c a b. dot_e c (record { x = a.x :+ b.x; y = a.y :+ b.y; z = a.z :+ b.z }) :≡ dot_e c a :+ dot_e c b) refl

-- x0 x1 x2 the corners along c, s2 and s1 the rests along c
side_of : (k d0 d1 d2 n1 n2 o1 o2 x0 x1 x2 s1 s2 : ℤ) → o1 ≡ pos 0 → o2 ≡ pos 0
    → n2 *ℤ o2 ≡ k *ℤ (x0 +ℤ x1) -ℤ s2 → n1 *ℤ o1 ≡ k *ℤ (x0 +ℤ x2) -ℤ s1
    → k *ℤ (d0 *ℤ x0 +ℤ d1 *ℤ x1 +ℤ d2 *ℤ x2) ≡ k *ℤ (d0 -ℤ d1 -ℤ d2) *ℤ x0 +ℤ (d1 *ℤ s2 +ℤ d2 *ℤ s1)
side_of = prove 13
    (λ k d0 d1 d2 n1 n2 o1 o2 x0 x1 x2 s1 s2. record {
      given = (o1 :≡ `0) ∷ (o2 :≡ `0) ∷ (n2 :* o2 :≡ k :* (x0 :+ x1) :- s2) ∷ (n1 :* o1 :≡ k :* (x0 :+ x2) :- s1) ∷ [];
      goal = k :* (d0 :* x0 :+ d1 :* x1 :+ d2 :* x2) :≡ k :* (d0 :- d1 :- d2) :* x0 :+ (d1 :* s2 :+ d2 :* s1);
      cert = eqn 2 (:neg d1) ⊕ eqn 3 (:neg d2) ⊕ eqn 1 (d1 :* n2) ⊕ eqn 0 (d2 :* n1);
    })
    refl

pub side_identity : {k h1 h2 : ℤ} (v0 v1 v2 : V3) {w1 w2 : V3} (d0 d1 d2 : ℤ) (c1 : Quotients k h1 (both v0 v2) w1) (c2 : Quotients k h2 (both v0 v1) w2)
    → k *ℤ dot (cross w2 w1) (place d0 d1 d2 v0 v1 v2)
    ≡ k *ℤ (d0 -ℤ d1 -ℤ d2) *ℤ dot (cross w2 w1) v0 +ℤ (d1 *ℤ dot (cross w2 w1) (rests c2) +ℤ d2 *ℤ dot (cross w2 w1) (rests c1))
side_identity {k} {h1} {h2} v0 v1 v2 {w1} {w2} d0 d1 d2 c1 c2 =
    let c : V3 = cross w2 w1 in
    ap (λ z. k *ℤ z) (place_along c d0 d1 d2 v0 v1 v2)
    ∙ side_of k d0 d1 d2 (pos 2 *ℤ k -ℤ h1) (pos 2 *ℤ k -ℤ h2) (dot c w1) (dot c w2) (dot c v0) (dot c v1) (dot c v2) (dot c (rests c1)) (dot c (rests c2))
    (cross_second w2 w1) (cross_first w2 w1)
    (subst (λ z. (pos 2 *ℤ k -ℤ h2) *ℤ dot c w2 ≡ k *ℤ z -ℤ dot c (rests c2)) (both_along c v0 v1) (made_along c c2))
    (subst (λ z. (pos 2 *ℤ k -ℤ h1) *ℤ dot c w1 ≡ k *ℤ z -ℤ dot c (rests c1)) (both_along c v0 v2) (made_along c c1))

-- ---- sizes of products: the sum of the sizes of c's components is at most t

pub record Taxi (t : ℤ) (c : V3) : Type 0 where
  pub ax : ℤ
  pub ay : ℤ
  pub az : ℤ
  pub x : Size ax c.x
  pub y : Size ay c.y
  pub z : Size az c.z
  pub sum : (ax +ℤ ay +ℤ az) ≤ℤ t

three_sized : (n t a b c x y z : ℤ) → pos 0 ≤ℤ n → (a +ℤ b +ℤ c) ≤ℤ t → Size (a *ℤ n) x → Size (b *ℤ n) y → Size (c *ℤ n) z → Size (t *ℤ n) (x +ℤ y +ℤ z)
three_sized n t a b c x y z h s p q r = record {
  low = prove 8
      (λ n t a b c x y z. record {
        given = (`0 :≤ n) ∷ (a :+ b :+ c :≤ t) ∷ (:neg (a :* n) :≤ x) ∷ (:neg (b :* n) :≤ y) ∷ (:neg (c :* n) :≤ z) ∷ [];
        goal = :neg (t :* n) :≤ x :+ y :+ z;
        cert = hyp 0 ⊗ hyp 1 ⊕ hyp 2 ⊕ hyp 3 ⊕ hyp 4;
      })
      refl n t a b c x y z h s p.low q.low r.low;
  high = prove 8
      (λ n t a b c x y z. record {
        given = (`0 :≤ n) ∷ (a :+ b :+ c :≤ t) ∷ (x :≤ a :* n) ∷ (y :≤ b :* n) ∷ (z :≤ c :* n) ∷ [];
        goal = x :+ y :+ z :≤ t :* n;
        cert = hyp 0 ⊗ hyp 1 ⊕ hyp 2 ⊕ hyp 3 ⊕ hyp 4;
      })
      refl n t a b c x y z h s p.high q.high r.high;
}

pub taxi_dot : {t n : ℤ} {c : V3} (r : V3) → pos 0 ≤ℤ n → Taxi t c → Size n r.x → Size n r.y → Size n r.z → Size (t *ℤ n) (dot c r)
taxi_dot {t} {n} {c} r h a p q s = three_sized n t a.ax a.ay a.az (c.x *ℤ r.x) (c.y *ℤ r.y) (c.z *ℤ r.z) h a.sum
    (size_mul a.x p) (size_mul a.y q) (size_mul a.z s)

-- ---- the margin

-- a positive factor goes
pub cancel-<ℤ : {a b c : ℤ} → pos 0 <ℤ c → (c *ℤ a) <ℤ (c *ℤ b) → a <ℤ b
cancel-<ℤ {a} {b} {c} h k = <ℤ-by-no
    (prove 3
    (λ a b c. record {
      given = (`0 :< c) ∷ (c :* a :< c :* b) ∷ (b :≤ a) ∷ [];
      goal = `1 :≤ `0;
      cert = hyp 1 ⊕ (hyp 0 ⊕ nat 1) ⊗ hyp 2;
    })
    refl a b c h k)

-- g = c·v0, o = c·p, i what else the numbers say along c, at most t E l in size after the factor s; m the largest of c's components, M the margin
pub beyond : (k u e l f g o i t m M s E D G : ℤ) → s *ℤ (u *ℤ k *ℤ l *ℤ o) ≡ s *ℤ (u *ℤ e *ℤ (k *ℤ f *ℤ g)) +ℤ i → neg_ℤ (t *ℤ (E *ℤ l)) ≤ℤ i → (D *ℤ l) ≤ℤ (e *ℤ G)
    → (G *ℤ (t *ℤ E +ℤ pos 3 *ℤ m *ℤ (s *ℤ u *ℤ k))) ≤ℤ (s *ℤ u *ℤ k *ℤ M *ℤ (D *ℤ g))
    → M <ℤ f → pos 0 ≤ℤ k → pos 0 ≤ℤ u → pos 0 ≤ℤ e → pos 0 ≤ℤ s → pos 0 ≤ℤ m → pos 0 ≤ℤ t → pos 0 ≤ℤ E → pos 0 ≤ℤ D → pos 0 <ℤ (D *ℤ s *ℤ u *ℤ k *ℤ e *ℤ g) → pos 0 ≤ℤ g
    → (D *ℤ s *ℤ u *ℤ k *ℤ l *ℤ (pos 3 *ℤ m)) <ℤ (D *ℤ s *ℤ u *ℤ k *ℤ l *ℤ o)
beyond = prove 15
    (λ k u e l f g o i t m M s E D G. record {
      given = (s :* (u :* k :* l :* o) :≡ s :* (u :* e :* (k :* f :* g)) :+ i) ∷ (:neg (t :* (E :* l)) :≤ i) ∷ (D :* l :≤ e :* G)
          ∷ (G :* (t :* E :+ `3 :* m :* (s :* u :* k)) :≤ s :* u :* k :* M :* (D :* g))
          ∷ (M :< f) ∷ (`0 :≤ k) ∷ (`0 :≤ u) ∷ (`0 :≤ e) ∷ (`0 :≤ s) ∷ (`0 :≤ m) ∷ (`0 :≤ t) ∷ (`0 :≤ E) ∷ (`0 :≤ D) ∷ (`0 :< D :* s :* u :* k :* e :* g) ∷ (`0 :≤ g) ∷ [];
      goal = D :* s :* u :* k :* l :* (`3 :* m) :< D :* s :* u :* k :* l :* o;
      cert = eqn 0 (:neg D) ⊕ hyp 12 ⊗ hyp 1 ⊕ (hyp 10 ⊗ hyp 11 ⊕ nat 3 ⊗ hyp 9 ⊗ hyp 8 ⊗ hyp 6 ⊗ hyp 5) ⊗ hyp 2 ⊕ hyp 7 ⊗ hyp 3
          ⊕ hyp 12 ⊗ hyp 8 ⊗ hyp 6 ⊗ hyp 5 ⊗ hyp 7 ⊗ hyp 14 ⊗ hyp 4 ⊕ hyp 13;
    })
    refl
