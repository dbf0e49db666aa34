-- The jump's invariant over vectors: its step to each kind of child. The flat numbers of child 0 are d0 − d1 − d2, 2 d1, 2 d2, those of the middle child
-- d1 + d2 − d0 and so on; the child's own numbers are `Moved` from them. Children 1 and 2 by turning the corners round. Assumes nothing.
--   Bend          2 K − n of a new corner, from −2 to A − 2
--   kept_moved    the number at a corner that is kept
--   flat_moved    a number that is not bent
--   bent_moved    a number that is bent: z less a for every 16 K of it
--   kept_made     a corner that is kept
--   child_step    the step to child 0
--   middle_step   the step to the middle child
--   turned        the corners turned round
use mathlib.Core.Path.{◌≡◌, refl, sym, subst}
use mathlib.Core.List.{[], ◌∷◌}
use lib.IntN.{ℤ, pos, neg_ℤ, ◌+ℤ◌, ◌-ℤ◌, ◌*ℤ◌}
use lib.Signed.{◌≤ℤ◌, ◌<ℤ◌, ≤ℤ_refl}
use Rattle.algebra.proofs.Ring.{Expr, con, ◌:+◌, ◌:-◌, ◌:*◌, :neg}
use Rattle.algebra.proofs.Claim.{◌:≤◌, ◌:<◌, ◌:≡◌, nat, hyp, eqn, ◌⊕◌, ◌⊗◌, ring, prove}
use Rattle.algebra.proofs.Inequalities.{`0, <ℤ-mul, <ℤ→≤ℤ}
use Rattle.algebra.proofs.Vec.{V3}
use Rattle.jump.proofs.Jump.{Size, flat_child, flat_middle, flat_child_z, flat_middle_z}
use Rattle.jump.proofs.JumpInvariant.{Bend, Near, Cornered, Moved, Bounds, Level, Follows, Made, Apart, both, left_of}
use Rattle.jump.proofs.JumpStep.{Twice, factor_positive, sum_large, sum_positive, most_held, near_step}

abbrev `2 : Expr
`2 = con (pos 2)

abbrev `8 : Expr
`8 = con (pos 8)

abbrev `16 : Expr
`16 = con (pos 16)

-- ---- the numbers of a child

abbrev left_e : Expr → Expr → Expr → Expr → Expr
left_e k h z y = h :* z :- `2 :* k :* (z :- y)

lost_none : (k A z : ℤ) → pos 0 ≤ℤ A → pos 0 ≤ℤ z → ((pos 16 *ℤ k -ℤ A) *ℤ z) ≤ℤ (pos 16 *ℤ k *ℤ z)
lost_none = prove 3 (λ k A z. record { given = (`0 :≤ A) ∷ (`0 :≤ z) ∷ []; goal = (`16 :* k :- A) :* z :≤ `16 :* k :* z; cert = hyp 0 ⊗ hyp 1 }) refl

pub kept_moved : (k A Γ0 Γ1 z : ℤ) → pos 0 ≤ℤ k → pos 0 ≤ℤ A → pos 0 ≤ℤ Γ0 → pos 0 ≤ℤ Γ1 → pos 0 ≤ℤ z → Moved k A Γ0 Γ1 (pos 0) z z
kept_moved k A Γ0 Γ1 z k_nn A-nn Γ0-nn Γ1-nn z-nn = record {
  nn = z-nn;
  most = ≤ℤ_refl z;
  lost = lost_none k A z A-nn z-nn;
  low = prove 3
      (λ k a z. record { given = (`0 :≤ a) ∷ (`0 :≤ z) ∷ []; goal = :neg (a :* z) :≤ `8 :* left_e k `0 z z; cert = hyp 0 ⊗ hyp 1 })
      refl k Γ0 z Γ0-nn z-nn;
  high = prove 4
      (λ k A c z. record {
        given = (`0 :≤ k) ∷ (`0 :≤ A) ∷ (`0 :≤ c) ∷ (`0 :≤ z) ∷ [];
        goal = `8 :* left_e k `0 z z :≤ c :* z :+ `16 :* k :* A;
        cert = hyp 2 ⊗ hyp 3 ⊕ nat 16 ⊗ hyp 0 ⊗ hyp 1;
      })
      refl k A Γ1 z k_nn A-nn Γ1-nn z-nn;
}

-- a level without bending: the number is the flat one
pub flat_moved : (k A Γ0 Γ1 z : ℤ) {a h : ℤ} → Bend a h → pos 16 ≤ℤ Γ0 → (pos 8 *ℤ a) ≤ℤ Γ1 → pos 0 ≤ℤ k → pos 0 ≤ℤ A → pos 0 ≤ℤ z
    → Moved k A Γ0 Γ1 h z z
flat_moved k A Γ0 Γ1 z {a} {h} bend Γ0-large Γ1-large k_nn A-nn z-nn = record {
  nn = z-nn;
  most = ≤ℤ_refl z;
  lost = lost_none k A z A-nn z-nn;
  low = prove 4
      (λ k a h z. record {
        given = (:neg `2 :≤ h) ∷ (`16 :≤ a) ∷ (`0 :≤ z) ∷ [];
        goal = :neg (a :* z) :≤ `8 :* left_e k h z z;
        cert = (nat 8 ⊗ hyp 0 ⊕ hyp 1) ⊗ hyp 2;
      })
      refl k Γ0 h z bend.low Γ0-large z-nn;
  high = prove 6
      (λ k A c a h z. record {
        given = (`0 :≤ k) ∷ (`0 :≤ A) ∷ (h :+ `2 :≤ a) ∷ (`8 :* a :≤ c) ∷ (`0 :≤ z) ∷ [];
        goal = `8 :* left_e k h z z :≤ c :* z :+ `16 :* k :* A;
        cert = (nat 8 ⊗ hyp 2 ⊕ hyp 3 ⊕ nat 16) ⊗ hyp 4 ⊕ nat 16 ⊗ hyp 0 ⊗ hyp 1;
      })
      refl k A Γ1 a h z k_nn A-nn bend.high Γ1-large z-nn;
}

-- z is 16 K t + s; of every 16 K a is taken away: 8 x = z (8 h − a) + a s
pub bent_moved : (k A Γ0 Γ1 h z t s a : ℤ) → z ≡ pos 16 *ℤ k *ℤ t +ℤ s → pos 0 ≤ℤ s → s ≤ℤ (pos 16 *ℤ k) → pos 0 ≤ℤ t
    → pos 0 ≤ℤ a → a ≤ℤ A → A ≤ℤ (pos 16 *ℤ k) → neg_ℤ Γ0 ≤ℤ (pos 8 *ℤ h -ℤ a) → (pos 8 *ℤ h -ℤ a) ≤ℤ Γ1
    → Moved k A Γ0 Γ1 h z (z -ℤ t *ℤ a)
bent_moved k A Γ0 Γ1 h z t s a is s_nn s-most t_nn a-nn a-most A-most low high = record {
  nn = prove 6
      (λ k A z t s a. record {
        given = (z :≡ `16 :* k :* t :+ s) ∷ (`0 :≤ s) ∷ (`0 :≤ t) ∷ (a :≤ A) ∷ (A :≤ `16 :* k) ∷ [];
        goal = `0 :≤ z :- t :* a;
        cert = eqn 0 (con (neg_ℤ (pos 1))) ⊕ hyp 2 ⊗ (hyp 4 ⊕ hyp 3) ⊕ hyp 1;
      })
      refl k A z t s a is s_nn t_nn a-most A-most;
  most = prove 3 (λ z t a. record { given = (`0 :≤ t) ∷ (`0 :≤ a) ∷ []; goal = z :- t :* a :≤ z; cert = hyp 0 ⊗ hyp 1 }) refl z t a t_nn a-nn;
  lost = prove 6
      (λ k A z t s a. record {
        given = (z :≡ `16 :* k :* t :+ s) ∷ (`0 :≤ s) ∷ (`0 :≤ t) ∷ (`0 :≤ a) ∷ (a :≤ A) ∷ (A :≤ `16 :* k) ∷ [];
        goal = (`16 :* k :- A) :* z :≤ `16 :* k :* (z :- t :* a);
        cert = eqn 0 (:neg A) ⊕ (hyp 5 ⊕ hyp 4 ⊕ hyp 3) ⊗ hyp 2 ⊗ hyp 4 ⊕ (hyp 4 ⊕ hyp 3) ⊗ hyp 1;
      })
      refl k A z t s a is s_nn t_nn a-nn a-most A-most;
  low = prove 8
      (λ k A g h z t s a. record {
        given = (z :≡ `16 :* k :* t :+ s) ∷ (`0 :≤ s) ∷ (`0 :≤ t) ∷ (`0 :≤ a) ∷ (a :≤ A) ∷ (A :≤ `16 :* k) ∷ (:neg g :≤ `8 :* h :- a) ∷ [];
        goal = :neg (g :* z) :≤ `8 :* left_e k h z (z :- t :* a);
        cert = eqn 0 (:neg (`8 :* h :+ g)) ⊕ ((hyp 5 ⊕ hyp 4 ⊕ hyp 3) ⊗ hyp 2 ⊕ hyp 1) ⊗ hyp 6 ⊕ hyp 3 ⊗ hyp 1;
      })
      refl k A Γ0 h z t s a is s_nn t_nn a-nn a-most A-most low;
  high = prove 8
      (λ k A g h z t s a. record {
        given = (z :≡ `16 :* k :* t :+ s) ∷ (`0 :≤ s) ∷ (s :≤ `16 :* k) ∷ (`0 :≤ t) ∷ (`0 :≤ a) ∷ (a :≤ A) ∷ (A :≤ `16 :* k) ∷ (`8 :* h :- a :≤ g) ∷ [];
        goal = `8 :* left_e k h z (z :- t :* a) :≤ g :* z :+ `16 :* k :* A;
        cert = eqn 0 (`8 :* h :- g) ⊕ ((hyp 6 ⊕ hyp 5 ⊕ hyp 4) ⊗ hyp 3 ⊕ hyp 1) ⊗ hyp 7 ⊕ (hyp 5 ⊕ hyp 4) ⊗ hyp 2 ⊕ hyp 1 ⊗ hyp 5;
      })
      refl k A Γ1 h z t s a is s_nn s-most t_nn a-nn a-most A-most high;
}

-- ---- a corner that is kept

twice_nn : (k : ℤ) → pos 0 <ℤ k → pos 0 ≤ℤ (pos 2 *ℤ k -ℤ pos 0)
twice_nn = prove 1 (λ k. record { given = (`0 :< k) ∷ []; goal = `0 :≤ `2 :* k :- `0; cert = nat 2 ⊗ hyp 0 ⊕ nat 2 }) refl

kept_one : (k v : ℤ) → pos 0 <ℤ k → Cornered k (pos 0) (v +ℤ v) v
kept_one k v h = record {
  rest = pos 0;
  is = ring 2 (λ k v. (`2 :* k :- `0) :* v :≡ k :* (v :+ v) :- `0) refl k v;
  nn = ≤ℤ_refl (pos 0);
  most = twice_nn k h;
}

kept_z : (k v : ℤ) → pos 0 <ℤ k → Cornered k (pos 0) (neg_ℤ (v +ℤ v)) (neg_ℤ v)
kept_z k v h = record {
  rest = pos 0;
  is = ring 2 (λ k v. (`2 :* k :- `0) :* :neg v :≡ k :* :neg (v :+ v) :- `0) refl k v;
  nn = ≤ℤ_refl (pos 0);
  most = twice_nn k h;
}

pub kept_made : (k : ℤ) (v : V3) → pos 0 <ℤ k → Made k (pos 0) (both v v) v
kept_made k v h = record { x = kept_one k v.x h; y = kept_one k v.y h; z = kept_z k v.z h }

-- ---- one level: the flat numbers z at the flat points m give back twice P; the child's numbers are y

-- the component z is measured as −z
apart_z : {L : ℤ} (a b : ℤ) → Size L (a -ℤ b) → Size L (neg_ℤ a -ℤ neg_ℤ b)
apart_z {L} a b s = record {
  low = prove 3 (λ L a b. record { given = (a :- b :≤ L) ∷ []; goal = :neg L :≤ :neg a :- :neg b; cert = hyp 0 }) refl L a b s.high;
  high = prove 3 (λ L a b. record { given = (:neg L :≤ a :- b) ∷ []; goal = :neg a :- :neg b :≤ L; cert = hyp 0 }) refl L a b s.low;
}

module _ {k u L A Γ0 Γ1 D : ℤ} {b b' : Bounds} (c : Level k u L A Γ0 Γ1 b b') {d0 d1 d2 : ℤ} {v0 v1 v2 p : V3} (f : Follows u D b d0 d1 d2 v0 v1 v2 p) where
  level_step : {z0 z1 z2 y0 y1 y2 h0 h1 h2 : ℤ} {n0 n1 n2 w0 w1 w2 : V3} → z0 +ℤ z1 +ℤ z2 ≡ d0 +ℤ d1 +ℤ d2
      → Moved k A Γ0 Γ1 h0 z0 y0 → Moved k A Γ0 Γ1 h1 z1 y1 → Moved k A Γ0 Γ1 h2 z2 y2
      → Made k h0 n0 w0 → Made k h1 n1 w1 → Made k h2 n2 w2 → Apart L w0 w1 → Apart L w0 w2 → Apart L w1 w2
      → Twice z0 z1 z2 n0.x n1.x n2.x (d0 *ℤ v0.x +ℤ d1 *ℤ v1.x +ℤ d2 *ℤ v2.x)
      → Twice z0 z1 z2 n0.y n1.y n2.y (d0 *ℤ v0.y +ℤ d1 *ℤ v1.y +ℤ d2 *ℤ v2.y)
      → Twice z0 z1 z2 (neg_ℤ n0.z) (neg_ℤ n1.z) (neg_ℤ n2.z) (d0 *ℤ neg_ℤ v0.z +ℤ d1 *ℤ neg_ℤ v1.z +ℤ d2 *ℤ neg_ℤ v2.z)
      → Follows u D b' y0 y1 y2 w0 w1 w2 p
  level_step {z0} {z1} {z2} {y0} {y1} {y2} {h0} {h1} {h2} {n0} {n1} {n2} {w0} {w1} {w2} s m0 m1 m2 c0 c1 c2 a01 a02 a12 tx ty tz =
      let S : ℤ = z0 +ℤ z1 +ℤ z2 in
      let T : ℤ = y0 +ℤ y1 +ℤ y2 in
      let large : b.floor ≤ℤ S = subst (λ t. b.floor ≤ℤ t) (sym s) f.large in
      let e_nn : pos 0 ≤ℤ f.e = <ℤ→≤ℤ f.e_positive in
      record {
        e = f.e *ℤ (pos 2 *ℤ k *ℤ T -ℤ (left_of k h0 z0 y0 +ℤ left_of k h1 z1 y1 +ℤ left_of k h2 z2 y2));
        l = pos 2 *ℤ k *ℤ T *ℤ f.l;
        e_positive = <ℤ-mul f.e_positive (factor_positive c m0 m1 m2 large);
        l_positive = <ℤ-mul (<ℤ-mul (<ℤ-mul two c.k_positive) (sum_positive c m0 m1 m2 large)) f.l_positive;
        held = most_held c m0 m1 m2 large D f.e f.l e_nn f.held;
        d0_nn = m0.nn;
        d1_nn = m1.nn;
        d2_nn = m2.nn;
        large = sum_large c m0 m1 m2 large;
        x = near_step c m0 m1 m2 large (d0 *ℤ v0.x +ℤ d1 *ℤ v1.x +ℤ d2 *ℤ v2.x) c0.x c1.x c2.x a01.x a02.x a12.x tx e_nn
            (subst (λ t. Near u b.low b.high f.e f.l t (d0 *ℤ v0.x +ℤ d1 *ℤ v1.x +ℤ d2 *ℤ v2.x) p.x) (sym s) f.x);
        y = near_step c m0 m1 m2 large (d0 *ℤ v0.y +ℤ d1 *ℤ v1.y +ℤ d2 *ℤ v2.y) c0.y c1.y c2.y a01.y a02.y a12.y ty e_nn
            (subst (λ t. Near u b.low b.high f.e f.l t (d0 *ℤ v0.y +ℤ d1 *ℤ v1.y +ℤ d2 *ℤ v2.y) p.y) (sym s) f.y);
        z = near_step c m0 m1 m2 large (d0 *ℤ neg_ℤ v0.z +ℤ d1 *ℤ neg_ℤ v1.z +ℤ d2 *ℤ neg_ℤ v2.z) c0.z c1.z c2.z
            (apart_z w0.z w1.z a01.z) (apart_z w0.z w2.z a02.z) (apart_z w1.z w2.z a12.z) tz e_nn
            (subst (λ t. Near u b.low b.high f.e f.l t (d0 *ℤ neg_ℤ v0.z +ℤ d1 *ℤ neg_ℤ v1.z +ℤ d2 *ℤ neg_ℤ v2.z) (neg_ℤ p.z))
            (sym s) f.z);
      }
    where
      two : pos 0 <ℤ pos 2
      two = prove 0 (record { given = []; goal = `0 :< `2; cert = nat 1 }) refl

  -- child 0: the corner v0 is kept, w2 is made of v0 + v1, w1 of v0 + v2
  pub child_step : {h1 h2 y1 y2 : ℤ} {w1 w2 : V3} → pos 0 ≤ℤ (d0 -ℤ d1 -ℤ d2)
      → Moved k A Γ0 Γ1 h2 (pos 2 *ℤ d1) y1 → Moved k A Γ0 Γ1 h1 (pos 2 *ℤ d2) y2
      → Made k h2 (both v0 v1) w2 → Made k h1 (both v0 v2) w1 → Apart L v0 w2 → Apart L v0 w1 → Apart L w2 w1
      → Follows u D b' (d0 -ℤ d1 -ℤ d2) y1 y2 v0 w2 w1 p
  child_step nn m1 m2 c2 c1 a02 a01 a21 = level_step (same d0 d1 d2)
      (kept_moved k A Γ0 Γ1 (d0 -ℤ d1 -ℤ d2) (<ℤ→≤ℤ c.k_positive) c.A-nn c.Γ0-nn c.Γ1-nn nn) m1 m2
      (kept_made k v0 c.k_positive) c2 c1 a02 a01 a21
      (flat_child v0.x v1.x v2.x d0 d1 d2) (flat_child v0.y v1.y v2.y d0 d1 d2) (flat_child_z v0.z v1.z v2.z d0 d1 d2)
    where
      same : (a b c : ℤ) → a -ℤ b -ℤ c +ℤ pos 2 *ℤ b +ℤ pos 2 *ℤ c ≡ a +ℤ b +ℤ c
      same = ring 3 (λ a b c. a :- b :- c :+ `2 :* b :+ `2 :* c :≡ a :+ b :+ c) refl

  -- the middle child: w0 is made of v1 + v2, w1 of v0 + v2, w2 of v0 + v1
  pub middle_step : {h0 h1 h2 y0 y1 y2 : ℤ} {w0 w1 w2 : V3}
      → Moved k A Γ0 Γ1 h0 (d1 +ℤ d2 -ℤ d0) y0 → Moved k A Γ0 Γ1 h1 (d0 +ℤ d2 -ℤ d1) y1 → Moved k A Γ0 Γ1 h2 (d0 +ℤ d1 -ℤ d2) y2
      → Made k h0 (both v1 v2) w0 → Made k h1 (both v0 v2) w1 → Made k h2 (both v0 v1) w2
      → Apart L w0 w1 → Apart L w0 w2 → Apart L w1 w2
      → Follows u D b' y0 y1 y2 w0 w1 w2 p
  middle_step m0 m1 m2 c0 c1 c2 a01 a02 a12 = level_step (same d0 d1 d2) m0 m1 m2 c0 c1 c2 a01 a02 a12
      (flat_middle v0.x v1.x v2.x d0 d1 d2) (flat_middle v0.y v1.y v2.y d0 d1 d2) (flat_middle_z v0.z v1.z v2.z d0 d1 d2)
    where
      same : (a b c : ℤ) → b +ℤ c -ℤ a +ℤ (a +ℤ c -ℤ b) +ℤ (a +ℤ b -ℤ c) ≡ a +ℤ b +ℤ c
      same = ring 3 (λ a b c. b :+ c :- a :+ (a :+ c :- b) :+ (a :+ b :- c) :≡ a :+ b :+ c) refl

-- ---- the corners turned round: child 1 of v0 v1 v2 is child 0 of v1 v2 v0

turned_sum : (a b c : ℤ) → a +ℤ b +ℤ c ≡ b +ℤ c +ℤ a
turned_sum = ring 3 (λ a b c. a :+ b :+ c :≡ b :+ c :+ a) refl

turned_near : {u low high e l p : ℤ} (d0 d1 d2 P0 P1 P2 : ℤ)
    → Near u low high e l (d0 +ℤ d1 +ℤ d2) (P0 +ℤ P1 +ℤ P2) p → Near u low high e l (d1 +ℤ d2 +ℤ d0) (P1 +ℤ P2 +ℤ P0) p
turned_near {u} {low} {high} {e} {l} {p} d0 d1 d2 P0 P1 P2 n = subst (λ S. Near u low high e l S (P1 +ℤ P2 +ℤ P0) p) (turned_sum d0 d1 d2)
    (subst (λ P. Near u low high e l (d0 +ℤ d1 +ℤ d2) P p) (turned_sum P0 P1 P2) n)

pub turned : {u D d0 d1 d2 : ℤ} {b : Bounds} {v0 v1 v2 p : V3} → Follows u D b d0 d1 d2 v0 v1 v2 p → Follows u D b d1 d2 d0 v1 v2 v0 p
turned {u} {D} {d0} {d1} {d2} {b} {v0} {v1} {v2} {p} f = record {
  e = f.e;
  l = f.l;
  e_positive = f.e_positive;
  l_positive = f.l_positive;
  held = f.held;
  d0_nn = f.d1_nn;
  d1_nn = f.d2_nn;
  d2_nn = f.d0_nn;
  large = subst (λ S. b.floor ≤ℤ S) (turned_sum d0 d1 d2) f.large;
  x = turned_near d0 d1 d2 (d0 *ℤ v0.x) (d1 *ℤ v1.x) (d2 *ℤ v2.x) f.x;
  y = turned_near d0 d1 d2 (d0 *ℤ v0.y) (d1 *ℤ v1.y) (d2 *ℤ v2.y) f.y;
  z = turned_near d0 d1 d2 (d0 *ℤ neg_ℤ v0.z) (d1 *ℤ neg_ℤ v1.z) (d2 *ℤ neg_ℤ v2.z) f.z;
}
