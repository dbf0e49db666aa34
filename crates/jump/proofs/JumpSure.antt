-- A number of the jump beyond its margin gives the side: with d0 − d1 − d2 > M, c·p > 3 m for the cut's normal c = w2 × w1 and its largest component m;
-- with d0 − d1 − d2 < −M, c·p < −3 m. Then Scale(c)·p has the sign of c·p. The numbers follow p moved outward by δ, which stands in the middle of what the
-- rests take. Assumes nothing.
--   Margin     what M has to be for the cut: s e S ≤ r l bounds S by l; E l / s bounds what else is there in each component; t and m bound c's components, their
--              sum and each; g = c·v0
use mathlib.Core.Path.{◌≡◌, refl, subst, sym, ◌∙◌}
use mathlib.Core.List.{[], ◌∷◌}
use lib.IntN.{ℤ, pos, neg_ℤ, ◌+ℤ◌, ◌-ℤ◌, ◌*ℤ◌}
use lib.Signed.{◌≤ℤ◌, ◌<ℤ◌}
use Rattle.algebra.proofs.Ring.{Expr, con, ◌:+◌, ◌:-◌, ◌:*◌, :neg}
use Rattle.algebra.proofs.Order.{nn_mul}
use Rattle.algebra.proofs.Claim.{◌:≤◌, ◌:≡◌, nat, hyp, eqn, ◌⊕◌, ◌⊗◌, ring, prove}
use Rattle.algebra.proofs.Inequalities.{`0, `1, <ℤ-mul, <ℤ→≤ℤ, <ℤ-turn}
use Rattle.algebra.proofs.Vec.{V3, E3, dot, cross, dot_e, ring_v}
use Rattle.jump.proofs.Jump.{Size}
use Rattle.jump.proofs.JumpInvariant.{Near, Cornered, Bounds, Follows, Made, rests, quotients, both, pushed}
use Rattle.jump.proofs.JumpSide.{Taxi, taxi_dot, place, side_identity, beyond, cancel-<ℤ}

abbrev `2 : Expr
`2 = con (pos 2)

size_neg : {a x : ℤ} → Size a x → Size a (neg_ℤ x)
size_neg {a} {x} s = record {
  low = prove 2 (λ a x. record { given = (x :≤ a) ∷ []; goal = :neg a :≤ :neg x; cert = hyp 0 }) refl a x s.high;
  high = prove 2 (λ a x. record { given = (:neg a :≤ x) ∷ []; goal = :neg x :≤ a; cert = hyp 0 }) refl a x s.low;
}

-- ---- the margin

pub record Margin (k u δ D s r E t m g M : ℤ) (b : Bounds) : Type 0 where
  pub k_positive : pos 0 <ℤ k
  pub u_positive : pos 0 <ℤ u
  pub D-positive : pos 0 <ℤ D
  pub s_positive : pos 0 <ℤ s
  pub g_positive : pos 0 <ℤ g
  pub low_nn : pos 0 ≤ℤ b.low
  pub high_nn : pos 0 ≤ℤ b.high
  pub E-nn : pos 0 ≤ℤ E
  pub t_nn : pos 0 ≤ℤ t
  pub m_nn : pos 0 ≤ℤ m
  pub behind : (r *ℤ (u *ℤ (pos 2 *ℤ k +ℤ pos 2) +ℤ k *ℤ b.low)) ≤ℤ (E +ℤ s *ℤ (k *ℤ u *ℤ δ))
  pub ahead : (r *ℤ (k *ℤ b.high) +ℤ s *ℤ (k *ℤ u *ℤ δ)) ≤ℤ E
  pub wide : (b.most *ℤ (t *ℤ E +ℤ pos 3 *ℤ m *ℤ (s *ℤ u *ℤ k))) ≤ℤ (s *ℤ u *ℤ k *ℤ M *ℤ (D *ℤ g))

-- ---- one component of what else there is: s (u e R − k u (e P − l p)), where R = d1 r2 + d2 r1 of the cut's own rests

abbrev pub else_of : (k u e l s P p R : ℤ) → ℤ
else_of k u e l s P p R = s *ℤ (u *ℤ e *ℤ R -ℤ k *ℤ (u *ℤ (e *ℤ P -ℤ l *ℤ p)))

else_high : (k u e l δ S P p R low s r E : ℤ) → neg_ℤ (low *ℤ e *ℤ S) ≤ℤ (u *ℤ (e *ℤ P -ℤ l *ℤ (p +ℤ δ))) → R ≤ℤ ((pos 2 *ℤ k +ℤ pos 2) *ℤ S)
    → (s *ℤ (e *ℤ S)) ≤ℤ (r *ℤ l) → (r *ℤ (u *ℤ (pos 2 *ℤ k +ℤ pos 2) +ℤ k *ℤ low)) ≤ℤ (E +ℤ s *ℤ (k *ℤ u *ℤ δ))
    → pos 0 ≤ℤ k → pos 0 ≤ℤ u → pos 0 ≤ℤ e → pos 0 ≤ℤ l → pos 0 ≤ℤ s → pos 0 ≤ℤ low → else_of k u e l s P p R ≤ℤ (E *ℤ l)
else_high = prove 13
    (λ k u e l δ S P p R low s r E. record {
      given = (:neg (low :* e :* S) :≤ u :* (e :* P :- l :* (p :+ δ))) ∷ (R :≤ (`2 :* k :+ `2) :* S) ∷ (s :* (e :* S) :≤ r :* l)
          ∷ (r :* (u :* (`2 :* k :+ `2) :+ k :* low) :≤ E :+ s :* (k :* u :* δ))
          ∷ (`0 :≤ k) ∷ (`0 :≤ u) ∷ (`0 :≤ e) ∷ (`0 :≤ l) ∷ (`0 :≤ s) ∷ (`0 :≤ low) ∷ [];
      goal = s :* (u :* e :* R :- k :* (u :* (e :* P :- l :* p))) :≤ E :* l;
      cert = hyp 8 ⊗ hyp 4 ⊗ hyp 0 ⊕ hyp 8 ⊗ hyp 5 ⊗ hyp 6 ⊗ hyp 1 ⊕ (hyp 5 ⊗ (nat 2 ⊗ hyp 4 ⊕ nat 2) ⊕ hyp 4 ⊗ hyp 9) ⊗ hyp 2 ⊕ hyp 7 ⊗ hyp 3;
    })
    refl

else_low : (k u e l δ S P p R high s r E : ℤ) → (u *ℤ (e *ℤ P -ℤ l *ℤ (p +ℤ δ))) ≤ℤ (high *ℤ e *ℤ S) → pos 0 ≤ℤ R
    → (s *ℤ (e *ℤ S)) ≤ℤ (r *ℤ l) → (r *ℤ (k *ℤ high) +ℤ s *ℤ (k *ℤ u *ℤ δ)) ≤ℤ E
    → pos 0 ≤ℤ k → pos 0 ≤ℤ u → pos 0 ≤ℤ e → pos 0 ≤ℤ l → pos 0 ≤ℤ s → pos 0 ≤ℤ high → neg_ℤ (E *ℤ l) ≤ℤ else_of k u e l s P p R
else_low = prove 13
    (λ k u e l δ S P p R high s r E. record {
      given = (u :* (e :* P :- l :* (p :+ δ)) :≤ high :* e :* S) ∷ (`0 :≤ R) ∷ (s :* (e :* S) :≤ r :* l)
          ∷ (r :* (k :* high) :+ s :* (k :* u :* δ) :≤ E)
          ∷ (`0 :≤ k) ∷ (`0 :≤ u) ∷ (`0 :≤ e) ∷ (`0 :≤ l) ∷ (`0 :≤ s) ∷ (`0 :≤ high) ∷ [];
      goal = :neg (E :* l) :≤ s :* (u :* e :* R :- k :* (u :* (e :* P :- l :* p)));
      cert = hyp 8 ⊗ hyp 4 ⊗ hyp 0 ⊕ hyp 8 ⊗ hyp 5 ⊗ hyp 6 ⊗ hyp 1 ⊕ hyp 4 ⊗ hyp 9 ⊗ hyp 2 ⊕ hyp 7 ⊗ hyp 3;
    })
    refl

-- R from 0 to (2 k + 2) S: the rests from 0 to n, n at most 2 k + 2, and d1 + d2 at most S
R-nn : (d1 d2 r1 r2 : ℤ) → pos 0 ≤ℤ d1 → pos 0 ≤ℤ d2 → pos 0 ≤ℤ r1 → pos 0 ≤ℤ r2 → pos 0 ≤ℤ (d1 *ℤ r2 +ℤ d2 *ℤ r1)
R-nn = prove 4 (λ d1 d2 r1 r2. record { given = (`0 :≤ d1) ∷ (`0 :≤ d2) ∷ (`0 :≤ r1) ∷ (`0 :≤ r2) ∷ []; goal = `0 :≤ d1 :* r2 :+ d2 :* r1; cert = hyp 0 ⊗ hyp 3 ⊕ hyp 1 ⊗ hyp 2 }) refl

R-most : (k h1 h2 d0 d1 d2 r1 r2 : ℤ) → neg_ℤ (pos 2) ≤ℤ h1 → neg_ℤ (pos 2) ≤ℤ h2 → pos 0 ≤ℤ d0 → pos 0 ≤ℤ d1 → pos 0 ≤ℤ d2 → r1 ≤ℤ (pos 2 *ℤ k -ℤ h1) → r2 ≤ℤ (pos 2 *ℤ k -ℤ h2) → pos 0 ≤ℤ k
    → (d1 *ℤ r2 +ℤ d2 *ℤ r1) ≤ℤ ((pos 2 *ℤ k +ℤ pos 2) *ℤ (d0 +ℤ d1 +ℤ d2))
R-most = prove 8
    (λ k h1 h2 d0 d1 d2 r1 r2. record {
      given = (:neg `2 :≤ h1) ∷ (:neg `2 :≤ h2) ∷ (`0 :≤ d0) ∷ (`0 :≤ d1) ∷ (`0 :≤ d2) ∷ (r1 :≤ `2 :* k :- h1) ∷ (r2 :≤ `2 :* k :- h2) ∷ (`0 :≤ k) ∷ [];
      goal = d1 :* r2 :+ d2 :* r1 :≤ (`2 :* k :+ `2) :* (d0 :+ d1 :+ d2);
      cert = hyp 3 ⊗ (hyp 6 ⊕ hyp 1) ⊕ hyp 4 ⊗ (hyp 5 ⊕ hyp 0) ⊕ (nat 2 ⊗ hyp 7 ⊕ nat 2) ⊗ hyp 2;
    })
    refl

-- ---- along the normal

abbrev weighed_e : E3 → E3 → E3 → E3
weighed_e d a b = record { x = d.x :* a.x :+ d.y :* b.x; y = d.x :* a.y :+ d.y :* b.y; z = d.x :* a.z :+ d.y :* b.z }

abbrev weighed : ℤ → ℤ → V3 → V3 → V3
weighed d1 d2 a b = record { x = d1 *ℤ a.x +ℤ d2 *ℤ b.x; y = d1 *ℤ a.y +ℤ d2 *ℤ b.y; z = d1 *ℤ a.z +ℤ d2 *ℤ b.z }

weighed_along : (c : V3) (d1 d2 : ℤ) (a b : V3) → dot c (weighed d1 d2 a b) ≡ d1 *ℤ dot c a +ℤ d2 *ℤ dot c b
weighed_along c d1 d2 a b = ring_v 4 (λ c d a b. dot_e c (weighed_e d a b) :≡ d.x :* dot_e c a :+ d.y :* dot_e c b) refl c (record { x = d1; y = d2; z = pos 0 }) a b

abbrev elses : (k u e l s : ℤ) → V3 → V3 → V3 → V3
elses k u e l s P p R = record { x = else_of k u e l s P.x p.x R.x; y = else_of k u e l s P.y p.y R.y; z = else_of k u e l s P.z p.z R.z }

elses_along : (k u e l s cx cy cz Px Py Pz px py pz Rx Ry Rz : ℤ)
    → cx *ℤ else_of k u e l s Px px Rx +ℤ cy *ℤ else_of k u e l s Py py Ry +ℤ cz *ℤ else_of k u e l s Pz pz Rz
    ≡ else_of k u e l s (cx *ℤ Px +ℤ cy *ℤ Py +ℤ cz *ℤ Pz) (cx *ℤ px +ℤ cy *ℤ py +ℤ cz *ℤ pz) (cx *ℤ Rx +ℤ cy *ℤ Ry +ℤ cz *ℤ Rz)
elses_along = ring 17
    (λ k u e l s cx cy cz Px Py Pz px py pz Rx Ry Rz.
    cx :* (s :* (u :* e :* Rx :- k :* (u :* (e :* Px :- l :* px)))) :+ cy :* (s :* (u :* e :* Ry :- k :* (u :* (e :* Py :- l :* py))))
    :+ cz :* (s :* (u :* e :* Rz :- k :* (u :* (e :* Pz :- l :* pz))))
    :≡ s :* (u :* e :* (cx :* Rx :+ cy :* Ry :+ cz :* Rz) :- k :* (u :* (e :* (cx :* Px :+ cy :* Py :+ cz :* Pz) :- l :* (cx :* px :+ cy :* py :+ cz :* pz)))))
    refl

-- a = c·P, o = c·p, y = c·R, k a = k f g + y
balance : (k u e l s f g a o y : ℤ) → k *ℤ a ≡ k *ℤ f *ℤ g +ℤ y → s *ℤ (u *ℤ k *ℤ l *ℤ o) ≡ s *ℤ (u *ℤ e *ℤ (k *ℤ f *ℤ g)) +ℤ else_of k u e l s a o y
balance = prove 10
    (λ k u e l s f g a o y. record {
      given = (k :* a :≡ k :* f :* g :+ y) ∷ [];
      goal = s :* (u :* k :* l :* o) :≡ s :* (u :* e :* (k :* f :* g)) :+ s :* (u :* e :* y :- k :* (u :* (e :* a :- l :* o)));
      cert = eqn 0 (s :* u :* e);
    })
    refl

-- the same with every sign turned
balance_neg : (k u e l s f g o i : ℤ) → s *ℤ (u *ℤ k *ℤ l *ℤ o) ≡ s *ℤ (u *ℤ e *ℤ (k *ℤ f *ℤ g)) +ℤ i
    → s *ℤ (u *ℤ k *ℤ l *ℤ neg_ℤ o) ≡ s *ℤ (u *ℤ e *ℤ (k *ℤ neg_ℤ f *ℤ g)) +ℤ neg_ℤ i
balance_neg = prove 9
    (λ k u e l s f g o i. record {
      given = (s :* (u :* k :* l :* o) :≡ s :* (u :* e :* (k :* f :* g)) :+ i) ∷ [];
      goal = s :* (u :* k :* l :* :neg o) :≡ s :* (u :* e :* (k :* :neg f :* g)) :+ :neg i;
      cert = eqn 0 (:neg `1);
    })
    refl

-- ---- the theorem

module _ {k u D s r E t m M d0 d1 d2 h1 h2 : ℤ} {b : Bounds} {v0 v1 v2 w1 w2 : V3} (δ : ℤ) (p : V3)
    (f : Follows u D b d0 d1 d2 v0 v1 v2 (pushed δ p)) (c1 : Made k h1 (both v0 v2) w1) (c2 : Made k h2 (both v0 v1) w2)
    (low1 : neg_ℤ (pos 2) ≤ℤ h1) (low2 : neg_ℤ (pos 2) ≤ℤ h2) (taxi : Taxi t (cross w2 w1)) (bounded : (s *ℤ (f.e *ℤ (d0 +ℤ d1 +ℤ d2))) ≤ℤ (r *ℤ f.l))
    (margin : Margin k u δ D s r E t m (dot (cross w2 w1) v0) M b) where
  abbrev c : V3
  c = cross w2 w1

  abbrev P : V3
  P = place d0 d1 d2 v0 v1 v2

  abbrev R : V3
  R = weighed d1 d2 (rests (quotients c2)) (rests (quotients c1))

  abbrev i : ℤ
  i = dot c (elses k u f.e f.l s P p R)

  k_nn : pos 0 ≤ℤ k
  k_nn = <ℤ→≤ℤ margin.k_positive

  u_nn : pos 0 ≤ℤ u
  u_nn = <ℤ→≤ℤ margin.u_positive

  e_nn : pos 0 ≤ℤ f.e
  e_nn = <ℤ→≤ℤ f.e_positive

  l_nn : pos 0 ≤ℤ f.l
  l_nn = <ℤ→≤ℤ f.l_positive

  s_nn : pos 0 ≤ℤ s
  s_nn = <ℤ→≤ℤ margin.s_positive

  -- a component as it is measured in S0
  sized : {m1 m2 x1 x2 : ℤ} (A a : ℤ) → Near u b.low b.high f.e f.l (d0 +ℤ d1 +ℤ d2) A (a +ℤ δ) → (a1 : Cornered k h1 m1 x1) (a2 : Cornered k h2 m2 x2)
      → Size (E *ℤ f.l) (else_of k u f.e f.l s A a (d1 *ℤ a2.rest +ℤ d2 *ℤ a1.rest))
  sized A a n a1 a2 =
      let r' : ℤ = d1 *ℤ a2.rest +ℤ d2 *ℤ a1.rest in
      record {
        low = else_low k u f.e f.l δ (d0 +ℤ d1 +ℤ d2) A a r' b.high s r E n.ahead (R-nn d1 d2 a1.rest a2.rest f.d1_nn f.d2_nn a1.nn a2.nn)
            bounded margin.ahead k_nn u_nn e_nn l_nn s_nn margin.high_nn;
        high = else_high k u f.e f.l δ (d0 +ℤ d1 +ℤ d2) A a r' b.low s r E n.behind
            (R-most k h1 h2 d0 d1 d2 a1.rest a2.rest low1 low2 f.d0_nn f.d1_nn f.d2_nn a1.most a2.most k_nn)
            bounded margin.behind k_nn u_nn e_nn l_nn s_nn margin.low_nn;
      }

  -- the last component is measured with its sign turned
  size_z : Size (E *ℤ f.l) (else_of k u f.e f.l s P.z p.z R.z)
  size_z = subst (λ z. Size (E *ℤ f.l) z) (back k u f.e f.l s d0 d1 d2 v0.z v1.z v2.z p.z c1.z.rest c2.z.rest)
      (size_neg (sized (d0 *ℤ neg_ℤ v0.z +ℤ d1 *ℤ neg_ℤ v1.z +ℤ d2 *ℤ neg_ℤ v2.z) (neg_ℤ p.z)
      (subst (λ z. Near u b.low b.high f.e f.l (d0 +ℤ d1 +ℤ d2) (d0 *ℤ neg_ℤ v0.z +ℤ d1 *ℤ neg_ℤ v1.z +ℤ d2 *ℤ neg_ℤ v2.z) z) (out p.z δ) f.z)
      c1.z c2.z))
    where
      out : (z δ : ℤ) → neg_ℤ (z -ℤ δ) ≡ neg_ℤ z +ℤ δ
      out = ring 2 (λ z δ. :neg (z :- δ) :≡ :neg z :+ δ) refl

      back : (k u e l s d0 d1 d2 a b c p r1 r2 : ℤ)
          → neg_ℤ (else_of k u e l s (d0 *ℤ neg_ℤ a +ℤ d1 *ℤ neg_ℤ b +ℤ d2 *ℤ neg_ℤ c) (neg_ℤ p) (d1 *ℤ r2 +ℤ d2 *ℤ r1))
          ≡ else_of k u e l s (d0 *ℤ a +ℤ d1 *ℤ b +ℤ d2 *ℤ c) p (d1 *ℤ neg_ℤ r2 +ℤ d2 *ℤ neg_ℤ r1)
      back = ring 14
          (λ k u e l s d0 d1 d2 a b c p r1 r2.
          :neg (s :* (u :* e :* (d1 :* r2 :+ d2 :* r1) :- k :* (u :* (e :* (d0 :* :neg a :+ d1 :* :neg b :+ d2 :* :neg c) :- l :* :neg p))))
          :≡ s :* (u :* e :* (d1 :* :neg r2 :+ d2 :* :neg r1) :- k :* (u :* (e :* (d0 :* a :+ d1 :* b :+ d2 :* c) :- l :* p))))
          refl

  i_size : Size (t *ℤ (E *ℤ f.l)) i
  i_size = taxi_dot (elses k u f.e f.l s P p R) (nn_mul margin.E-nn l_nn) taxi
      (sized P.x p.x f.x c1.x c2.x) (sized P.y p.y f.y c1.y c2.y) size_z

  balanced : s *ℤ (u *ℤ k *ℤ f.l *ℤ dot c p) ≡ s *ℤ (u *ℤ f.e *ℤ (k *ℤ (d0 -ℤ d1 -ℤ d2) *ℤ dot c v0)) +ℤ i
  balanced = balance k u f.e f.l s (d0 -ℤ d1 -ℤ d2) (dot c v0) (dot c P) (dot c p) (dot c R)
      (side_identity v0 v1 v2 d0 d1 d2 (quotients c1) (quotients c2) ∙ (λ j. k *ℤ (d0 -ℤ d1 -ℤ d2) *ℤ dot c v0 +ℤ sym (weighed_along c d1 d2 (rests (quotients c2)) (rests (quotients c1))) j))
      ∙ (λ j. s *ℤ (u *ℤ f.e *ℤ (k *ℤ (d0 -ℤ d1 -ℤ d2) *ℤ dot c v0)) +ℤ sym (elses_along k u f.e f.l s c.x c.y c.z P.x P.y P.z p.x p.y p.z R.x R.y R.z) j)

  some : pos 0 <ℤ (D *ℤ s *ℤ u *ℤ k *ℤ f.e *ℤ dot c v0)
  some = <ℤ-mul (<ℤ-mul (<ℤ-mul (<ℤ-mul (<ℤ-mul margin.D-positive margin.s_positive) margin.u_positive) margin.k_positive) f.e_positive) margin.g_positive

  some_l : pos 0 <ℤ (D *ℤ s *ℤ u *ℤ k *ℤ f.l)
  some_l = <ℤ-mul (<ℤ-mul (<ℤ-mul (<ℤ-mul margin.D-positive margin.s_positive) margin.u_positive) margin.k_positive) f.l_positive

  -- f, o, i as they are, or all turned
  from : (x o j : ℤ) → s *ℤ (u *ℤ k *ℤ f.l *ℤ o) ≡ s *ℤ (u *ℤ f.e *ℤ (k *ℤ x *ℤ dot c v0)) +ℤ j → neg_ℤ (t *ℤ (E *ℤ f.l)) ≤ℤ j → M <ℤ x → (pos 3 *ℤ m) <ℤ o
  from x o j e hj h = cancel-<ℤ some_l
      (beyond k u f.e f.l x (dot c v0) o j t m M s E D b.most e hj f.held margin.wide h k_nn u_nn e_nn s_nn margin.m_nn margin.t_nn margin.E-nn
      (<ℤ→≤ℤ margin.D-positive) some (<ℤ→≤ℤ margin.g_positive))

  pub sure_above : M <ℤ (d0 -ℤ d1 -ℤ d2) → (pos 3 *ℤ m) <ℤ dot (cross w2 w1) p
  sure_above h = from (d0 -ℤ d1 -ℤ d2) (dot c p) i balanced i_size.low h

  pub sure_below : M <ℤ neg_ℤ (d0 -ℤ d1 -ℤ d2) → dot (cross w2 w1) p <ℤ neg_ℤ (pos 3 *ℤ m)
  sure_below h = <ℤ-turn (from (neg_ℤ (d0 -ℤ d1 -ℤ d2)) (neg_ℤ (dot c p)) (neg_ℤ i)
      (balance_neg k u f.e f.l s (d0 -ℤ d1 -ℤ d2) (dot c v0) (dot c p) i balanced) (size_neg i_size).low h)
