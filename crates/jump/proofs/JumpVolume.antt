-- The volume det(v0, v1, v2) of a trixel's corners from level to level: that of a child is a fourth, less what the rests take. And the size of a cut's
-- normal. Assumes nothing.
use mathlib.Core.Path.{◌≡◌, refl, sym, subst, ◌∙◌, ap₂}
use mathlib.Core.List.{[], ◌∷◌}
use lib.IntN.{ℤ, pos, neg_ℤ, ◌+ℤ◌, ◌-ℤ◌, ◌*ℤ◌}
use lib.Signed.{◌≤ℤ◌, ◌<ℤ◌}
use Rattle.algebra.proofs.Ring.{Expr, con, ◌:+◌, ◌:-◌, ◌:*◌, :neg}
use Rattle.algebra.proofs.Order.{nn_mul, by_order}
use Rattle.algebra.proofs.Claim.{◌:≤◌, ◌:<◌, ◌:≡◌, nat, hyp, sq, eqn, ◌⊕◌, ◌⊗◌, ring, prove}
use Rattle.algebra.proofs.Inequalities.{`0, `1, ≤ℤ-by-no, ≤ℤ-mul, sq-≤ℤ, <ℤ-mul, <ℤ→≤ℤ}
use Rattle.algebra.proofs.Vec.{V3, E3, dot, cross, dot_e, cross_e, ring_v}
use Rattle.jump.proofs.Jump.{Size, det}
use Rattle.jump.proofs.JumpInvariant.{Quotients, rests, Bend, both}
use Rattle.jump.proofs.JumpSide.{Taxi}
use Rattle.jump.proofs.Lengths.{Long, difference_of, flip, times, long_dot, long_sum, long_cross}
use Rattle.jump.proofs.JumpShape.{Corner, Shaping, corner_long, rest_long, same_vector}

abbrev `2 : Expr
`2 = con (pos 2)

abbrev `3 : Expr
`3 = con (pos 3)

-- ---- vectors

pub made_vector : {k h : ℤ} {m w : V3} (a : Quotients k h m w) → times (pos 2 *ℤ k -ℤ h) w ≡ difference_of (times k m) (rests a)
made_vector a = same_vector a.x.is a.y.is a.z.is

abbrev det_e : E3 → E3 → E3 → Expr
det_e a b c = dot_e (cross_e a b) c

abbrev both_e : E3 → E3 → E3
both_e a b = record { x = a.x :+ b.x; y = a.y :+ b.y; z = a.z :+ b.z }

-- k a − r
abbrev less_e : Expr → E3 → E3 → E3
less_e k a r = record { x = k :* a.x :- r.x; y = k :* a.y :- r.y; z = k :* a.z :- r.z }

-- cross a b by the difference of b and a
pub cross_edge : (a b : V3) → cross a (difference_of b a) ≡ cross a b
cross_edge a b = same_vector (e a.y a.z b.y b.z) (e a.z a.x b.z b.x) (e a.x a.y b.x b.y)
  where
    e : (p q r s : ℤ) → p *ℤ (s -ℤ q) -ℤ q *ℤ (r -ℤ p) ≡ p *ℤ s -ℤ q *ℤ r
    e = ring 4 (λ p q r s. p :* (s :- q) :- q :* (r :- p) :≡ p :* s :- q :* r) refl

-- two vectors that are at most l long and c apart: their product is at most l c long
pub cross_long : {l c : ℤ} (a b : V3) → Long l a → Long c (difference_of b a) → Long (l *ℤ c) (cross a b)
cross_long {l} {c} a b p q = subst (λ v. Long (l *ℤ c) v) (cross_edge a b) (long_cross p q)

-- ---- child 0

two_times : (n o : ℤ) (a b v : V3) → det (times n a) (times o b) v ≡ n *ℤ o *ℤ det a b v
two_times n o a b v = ring_v 4
    (λ s a b v. det_e (record { x = s.x :* a.x; y = s.x :* a.y; z = s.x :* a.z }) (record { x = s.y :* b.x; y = s.y :* b.y; z = s.y :* b.z }) v :≡ s.x :* s.y :* det_e a b v)
    refl (record { x = n; y = o; z = pos 0 }) a b v

child_volume : (k : ℤ) (v0 v1 v2 r1 r2 : V3)
    → det (difference_of (times k (both v0 v1)) r2) (difference_of (times k (both v0 v2)) r1) v0
    ≡ k *ℤ k *ℤ det v0 v1 v2 -ℤ k *ℤ (dot r1 (cross v0 v1) +ℤ dot r2 (cross v2 v0)) +ℤ dot v0 (cross r2 r1)
child_volume k v0 v1 v2 r1 r2 = ring_v 6
    (λ s v0 v1 v2 r1 r2. det_e (less_e s.x (both_e v0 v1) r2) (less_e s.x (both_e v0 v2) r1) v0
    :≡ s.x :* s.x :* det_e v0 v1 v2 :- s.x :* (dot_e r1 (cross_e v0 v1) :+ dot_e r2 (cross_e v2 v0)) :+ dot_e v0 (cross_e r2 r1))
    refl (record { x = k; y = pos 0; z = pos 0 }) v0 v1 v2 r1 r2

-- n o g is at least N² G, and n, o are at most N: g is at least G
two_divided : (n o N g G : ℤ) → pos 0 ≤ℤ n → n ≤ℤ N → pos 0 ≤ℤ o → o ≤ℤ N → pos 0 <ℤ N → pos 0 <ℤ G → (N *ℤ N *ℤ G) ≤ℤ (n *ℤ o *ℤ g) → G ≤ℤ g
two_divided n o N g G a b c d p q h = ≤ℤ-by-no
    (prove 5
    (λ n o N g G. record {
      given = (`0 :≤ n) ∷ (n :≤ N) ∷ (`0 :≤ o) ∷ (o :≤ N) ∷ (`0 :< N) ∷ (`0 :< G) ∷ (N :* N :* G :≤ n :* o :* g) ∷ (g :< G) ∷ [];
      goal = `1 :≤ `0;
      cert = hyp 6 ⊕ hyp 0 ⊗ hyp 2 ⊗ hyp 7 ⊕ hyp 5 ⊗ (hyp 1 ⊗ hyp 3 ⊕ hyp 1 ⊗ hyp 2 ⊕ hyp 0 ⊗ hyp 3) ⊕ hyp 4 ⊗ hyp 4 ⊕ nat 2 ⊗ hyp 4;
    })
    refl n o N g G a b c d p q h)

three_divided : (n o i N g G : ℤ) → pos 0 ≤ℤ n → n ≤ℤ N → pos 0 ≤ℤ o → o ≤ℤ N → pos 0 ≤ℤ i → i ≤ℤ N → pos 0 <ℤ N → pos 0 <ℤ G
    → (N *ℤ N *ℤ N *ℤ G) ≤ℤ (n *ℤ o *ℤ i *ℤ g) → G ≤ℤ g
three_divided n o i N g G a b c d e f p q h =
    two_divided (n *ℤ o) i' (N *ℤ N) g G (nn_mul a c) (≤ℤ-mul a b c d) i'_nn i'_most (<ℤ-mul p p) q
    (prove 6
    (λ n o i N g G. record {
      given = (`0 :≤ N) ∷ (N :* N :* N :* G :≤ n :* o :* i :* g) ∷ [];
      goal = N :* N :* (N :* N) :* G :≤ n :* o :* (N :* i) :* g;
      cert = hyp 0 ⊗ hyp 1;
    })
    refl n o i N g G (<ℤ→≤ℤ p) h)
  where
    i' : ℤ
    i' = N *ℤ i

    i'_nn : pos 0 ≤ℤ i'
    i'_nn = nn_mul (<ℤ→≤ℤ p) e

    i'_most : i' ≤ℤ (N *ℤ N)
    i'_most = prove 2 (λ N i. record { given = (`0 :≤ N) ∷ (i :≤ N) ∷ []; goal = N :* i :≤ N :* N; cert = hyp 0 ⊗ hyp 1 }) refl N i (<ℤ→≤ℤ p) f

-- ---- the constants: D times a volume of at least G gives children of at least G'

pub record Shrinking (k c j D G G' : ℤ) : Type 0 where
  pub D-nn : pos 0 ≤ℤ D
  pub some : pos 0 <ℤ G'
  pub child : ((pos 2 *ℤ k +ℤ pos 2) *ℤ (pos 2 *ℤ k +ℤ pos 2) *ℤ G' +ℤ D *ℤ (pos 2 *ℤ k *ℤ (j *ℤ ((k +ℤ pos 1) *ℤ c)) +ℤ (k +ℤ pos 1) *ℤ (j *ℤ j))) ≤ℤ (k *ℤ k *ℤ G)
  pub middle : ((pos 2 *ℤ k +ℤ pos 2) *ℤ (pos 2 *ℤ k +ℤ pos 2) *ℤ (pos 2 *ℤ k +ℤ pos 2) *ℤ G'
      +ℤ D *ℤ (pos 3 *ℤ k *ℤ k *ℤ (j *ℤ ((k +ℤ pos 1 +ℤ (k +ℤ pos 1)) *ℤ c)) +ℤ pos 3 *ℤ k *ℤ ((k +ℤ pos 1 +ℤ (k +ℤ pos 1)) *ℤ (j *ℤ j)) +ℤ j *ℤ (j *ℤ j)))
      ≤ℤ (pos 2 *ℤ k *ℤ k *ℤ k *ℤ G)

child_least : (k D G G' g a b x y z N n o f : ℤ) → n *ℤ o *ℤ f ≡ k *ℤ k *ℤ g -ℤ k *ℤ (x +ℤ y) +ℤ z → x ≤ℤ a → y ≤ℤ a → neg_ℤ b ≤ℤ z → G ≤ℤ (D *ℤ g)
    → pos 0 ≤ℤ k → pos 0 ≤ℤ D → (N *ℤ N *ℤ G' +ℤ D *ℤ (pos 2 *ℤ k *ℤ a +ℤ b)) ≤ℤ (k *ℤ k *ℤ G) → (N *ℤ N *ℤ G') ≤ℤ (n *ℤ o *ℤ (D *ℤ f))
child_least = prove 14
    (λ k D G G' g a b x y z N n o f. record {
      given = (n :* o :* f :≡ k :* k :* g :- k :* (x :+ y) :+ z) ∷ (x :≤ a) ∷ (y :≤ a) ∷ (:neg b :≤ z) ∷ (G :≤ D :* g) ∷ (`0 :≤ k) ∷ (`0 :≤ D)
          ∷ (N :* N :* G' :+ D :* (`2 :* k :* a :+ b) :≤ k :* k :* G) ∷ [];
      goal = N :* N :* G' :≤ n :* o :* (D :* f);
      cert = eqn 0 (:neg D) ⊕ hyp 6 ⊗ (hyp 5 ⊗ hyp 1 ⊕ hyp 5 ⊗ hyp 2 ⊕ hyp 3) ⊕ hyp 5 ⊗ hyp 5 ⊗ hyp 4 ⊕ hyp 7;
    })
    refl

middle_volume : (k : ℤ) (s0 s1 s2 r0 r1 r2 : V3)
    → det (difference_of (times k s0) r0) (difference_of (times k s1) r1) (difference_of (times k s2) r2)
    ≡ k *ℤ k *ℤ k *ℤ det s0 s1 s2 -ℤ k *ℤ k *ℤ (dot r0 (cross s1 s2) +ℤ dot r1 (cross s2 s0) +ℤ dot r2 (cross s0 s1))
    +ℤ k *ℤ (dot s0 (cross r1 r2) +ℤ dot s1 (cross r2 r0) +ℤ dot s2 (cross r0 r1)) -ℤ dot r0 (cross r1 r2)
middle_volume k s0 s1 s2 r0 r1 r2 = ring_v 7
    (λ s s0 s1 s2 r0 r1 r2. det_e (less_e s.x s0 r0) (less_e s.x s1 r1) (less_e s.x s2 r2)
    :≡ s.x :* s.x :* s.x :* det_e s0 s1 s2 :- s.x :* s.x :* (dot_e r0 (cross_e s1 s2) :+ dot_e r1 (cross_e s2 s0) :+ dot_e r2 (cross_e s0 s1))
    :+ s.x :* (dot_e s0 (cross_e r1 r2) :+ dot_e s1 (cross_e r2 r0) :+ dot_e s2 (cross_e r0 r1)) :- dot_e r0 (cross_e r1 r2))
    refl (record { x = k; y = pos 0; z = pos 0 }) s0 s1 s2 r0 r1 r2

sums_volume : (v0 v1 v2 : V3) → det (both v1 v2) (both v0 v2) (both v0 v1) ≡ pos 2 *ℤ det v0 v1 v2
sums_volume = ring_v 3 (λ v0 v1 v2. det_e (both_e v1 v2) (both_e v0 v2) (both_e v0 v1) :≡ `2 :* det_e v0 v1 v2) refl

three_times : (n o i : ℤ) (a b c : V3) → det (times n a) (times o b) (times i c) ≡ n *ℤ o *ℤ i *ℤ det a b c
three_times n o i a b c = ring_v 4
    (λ s a b c. det_e (record { x = s.x :* a.x; y = s.x :* a.y; z = s.x :* a.z }) (record { x = s.y :* b.x; y = s.y :* b.y; z = s.y :* b.z }) (record { x = s.z :* c.x; y = s.z :* c.y; z = s.z :* c.z })
    :≡ s.x :* s.y :* s.z :* det_e a b c)
    refl (record { x = n; y = o; z = i }) a b c

middle_least : (k D G G' g a b d x0 x1 x2 y0 y1 y2 z N n o i f s : ℤ)
    → n *ℤ o *ℤ i *ℤ f ≡ k *ℤ k *ℤ k *ℤ s -ℤ k *ℤ k *ℤ (x0 +ℤ x1 +ℤ x2) +ℤ k *ℤ (y0 +ℤ y1 +ℤ y2) -ℤ z → s ≡ pos 2 *ℤ g
    → x0 ≤ℤ a → x1 ≤ℤ a → x2 ≤ℤ a → neg_ℤ b ≤ℤ y0 → neg_ℤ b ≤ℤ y1 → neg_ℤ b ≤ℤ y2 → z ≤ℤ d → G ≤ℤ (D *ℤ g) → pos 0 ≤ℤ k → pos 0 ≤ℤ D
    → (N *ℤ N *ℤ N *ℤ G' +ℤ D *ℤ (pos 3 *ℤ k *ℤ k *ℤ a +ℤ pos 3 *ℤ k *ℤ b +ℤ d)) ≤ℤ (pos 2 *ℤ k *ℤ k *ℤ k *ℤ G) → (N *ℤ N *ℤ N *ℤ G') ≤ℤ (n *ℤ o *ℤ i *ℤ (D *ℤ f))
middle_least = prove 21
    (λ k D G G' g a b d x0 x1 x2 y0 y1 y2 z N n o i f s. record {
      given = (n :* o :* i :* f :≡ k :* k :* k :* s :- k :* k :* (x0 :+ x1 :+ x2) :+ k :* (y0 :+ y1 :+ y2) :- z) ∷ (s :≡ `2 :* g)
          ∷ (x0 :≤ a) ∷ (x1 :≤ a) ∷ (x2 :≤ a) ∷ (:neg b :≤ y0) ∷ (:neg b :≤ y1) ∷ (:neg b :≤ y2) ∷ (z :≤ d) ∷ (G :≤ D :* g) ∷ (`0 :≤ k) ∷ (`0 :≤ D)
          ∷ (N :* N :* N :* G' :+ D :* (`3 :* k :* k :* a :+ `3 :* k :* b :+ d) :≤ `2 :* k :* k :* k :* G) ∷ [];
      goal = N :* N :* N :* G' :≤ n :* o :* i :* (D :* f);
      cert = eqn 0 (:neg D) ⊕ eqn 1 (:neg (D :* k :* k :* k)) ⊕ hyp 11 ⊗ (hyp 10 ⊗ hyp 10 ⊗ (hyp 2 ⊕ hyp 3 ⊕ hyp 4) ⊕ hyp 10 ⊗ (hyp 5 ⊕ hyp 6 ⊕ hyp 7) ⊕ hyp 8)
          ⊕ nat 2 ⊗ hyp 10 ⊗ hyp 10 ⊗ hyp 10 ⊗ hyp 9 ⊕ hyp 12;
    })
    refl

-- a trixel whose corners are long enough and whose edges are at most c long, both ways round
pub record Shape (k c : ℤ) (v0 v1 v2 : V3) : Type 0 where
  pub corner0 : Corner k v0
  pub corner1 : Corner k v1
  pub corner2 : Corner k v2
  pub edge01 : Long c (difference_of v0 v1)
  pub edge12 : Long c (difference_of v1 v2)
  pub edge20 : Long c (difference_of v2 v0)

-- sums of two corners that share one
pub sums_apart : (a b d : V3) → difference_of b d ≡ difference_of (both a b) (both a d)
sums_apart a b d = same_vector (e a.x b.x d.x) (e a.y b.y d.y) (e a.z b.z d.z)
  where
    e : (a b d : ℤ) → b -ℤ d ≡ a +ℤ b -ℤ (a +ℤ d)
    e = ring 3 (λ a b d. b :- d :≡ a :+ b :- (a :+ d)) refl

pub sums_apart_right : (a b d : V3) → difference_of b d ≡ difference_of (both b a) (both d a)
sums_apart_right a b d = same_vector (e a.x b.x d.x) (e a.y b.y d.y) (e a.z b.z d.z)
  where
    e : (a b d : ℤ) → b -ℤ d ≡ b +ℤ a -ℤ (d +ℤ a)
    e = ring 3 (λ a b d. b :- d :≡ b :+ a :- (d :+ a)) refl

pub sums_apart_cross : (a b d : V3) → difference_of b d ≡ difference_of (both a b) (both d a)
sums_apart_cross a b d = same_vector (e a.x b.x d.x) (e a.y b.y d.y) (e a.z b.z d.z)
  where
    e : (a b d : ℤ) → b -ℤ d ≡ a +ℤ b -ℤ (d +ℤ a)
    e = ring 3 (λ a b d. b :- d :≡ a :+ b :- (d :+ a)) refl

module _ {k A c c' j D G G' : ℤ} (l : Shaping k A c c' j) (v : Shrinking k c j D G G') {v0 v1 v2 : V3} (t : Shape k c v0 v1 v2) (large : G ≤ℤ (D *ℤ det v0 v1 v2)) where
  k_nn : pos 0 ≤ℤ k
  k_nn = prove 1 (λ k. record { given = (con (pos 4) :≤ k) ∷ []; goal = `0 :≤ k; cert = hyp 0 ⊕ nat 4 }) refl k l.k_some

  N-positive : pos 0 <ℤ (pos 2 *ℤ k +ℤ pos 2)
  N-positive = prove 1 (λ k. record { given = (`0 :≤ k) ∷ []; goal = `0 :< `2 :* k :+ `2; cert = nat 2 ⊗ hyp 0 ⊕ nat 1 }) refl k k_nn

  n_nn : {h : ℤ} → Bend A h → pos 0 ≤ℤ (pos 2 *ℤ k -ℤ h)
  n_nn {h} b = prove 3 (λ k A h. record { given = (h :+ `2 :≤ A) ∷ (`0 :< `2 :* k :- A) ∷ []; goal = `0 :≤ `2 :* k :- h; cert = hyp 0 ⊕ hyp 1 ⊕ nat 3 }) refl k A h b.high l.A-below

  n_most : {h : ℤ} → Bend A h → (pos 2 *ℤ k -ℤ h) ≤ℤ (pos 2 *ℤ k +ℤ pos 2)
  n_most {h} b = prove 2 (λ k h. record { given = (:neg `2 :≤ h) ∷ []; goal = `2 :* k :- h :≤ `2 :* k :+ `2; cert = hyp 0 }) refl k h b.low

  -- child 0, with the normal of its cut: det(w2, w1, v0)
  pub child_large : {h1 h2 : ℤ} {w1 w2 : V3} → Bend A h1 → Bend A h2 → (c1 : Quotients k h1 (both v0 v2) w1) → (c2 : Quotients k h2 (both v0 v1) w2) → G' ≤ℤ (D *ℤ det w2 w1 v0)
  child_large {h1} {h2} {w1} {w2} b1 b2 c1 c2 =
      two_divided (pos 2 *ℤ k -ℤ h2) (pos 2 *ℤ k -ℤ h1) (pos 2 *ℤ k +ℤ pos 2) (D *ℤ det w2 w1 v0) G' (n_nn b2) (n_most b2) (n_nn b1) (n_most b1) N-positive v.some
      (child_least k D G G' (det v0 v1 v2) (j *ℤ ((k +ℤ pos 1) *ℤ c)) ((k +ℤ pos 1) *ℤ (j *ℤ j)) (dot (rests c1) (cross v0 v1)) (dot (rests c2) (cross v2 v0)) (dot v0 (cross (rests c2) (rests c1)))
      (pos 2 *ℤ k +ℤ pos 2) (pos 2 *ℤ k -ℤ h2) (pos 2 *ℤ k -ℤ h1) (det w2 w1 v0)
      (sym (two_times (pos 2 *ℤ k -ℤ h2) (pos 2 *ℤ k -ℤ h1) w2 w1 v0) ∙ ap₂ (λ a b. det a b v0) (made_vector c2) (made_vector c1) ∙ child_volume k v0 v1 v2 (rests c1) (rests c2))
      (long_dot (rest_long l b1 c1) (cross_long v0 v1 (corner_long l t.corner0) (flip v0 v1 t.edge01))).high
      (long_dot (rest_long l b2 c2) (cross_long v2 v0 (corner_long l t.corner2) (flip v2 v0 t.edge20))).high
      (long_dot (corner_long l t.corner0) (long_cross (rest_long l b2 c2) (rest_long l b1 c1))).low
      large k_nn v.D-nn v.child)

  -- the middle child
  pub middle_large : {h0 h1 h2 : ℤ} {w0 w1 w2 : V3} → Bend A h0 → Bend A h1 → Bend A h2
      → (c0 : Quotients k h0 (both v1 v2) w0) → (c1 : Quotients k h1 (both v0 v2) w1) → (c2 : Quotients k h2 (both v0 v1) w2) → G' ≤ℤ (D *ℤ det w0 w1 w2)
  middle_large {h0} {h1} {h2} {w0} {w1} {w2} b0 b1 b2 c0 c1 c2 =
      let s0 : V3 = both v1 v2 in
      let s1 : V3 = both v0 v2 in
      let s2 : V3 = both v0 v1 in
      let r0 : V3 = rests c0 in
      let r1 : V3 = rests c1 in
      let r2 : V3 = rests c2 in
      let n0 : ℤ = pos 2 *ℤ k -ℤ h0 in
      let n1 : ℤ = pos 2 *ℤ k -ℤ h1 in
      let n2 : ℤ = pos 2 *ℤ k -ℤ h2 in
      let l0 : Long (k +ℤ pos 1 +ℤ (k +ℤ pos 1)) s0 = long_sum (corner_long l t.corner1) (corner_long l t.corner2) in
      let l1 : Long (k +ℤ pos 1 +ℤ (k +ℤ pos 1)) s1 = long_sum (corner_long l t.corner0) (corner_long l t.corner2) in
      let l2 : Long (k +ℤ pos 1 +ℤ (k +ℤ pos 1)) s2 = long_sum (corner_long l t.corner0) (corner_long l t.corner1) in
      let a0 : Long j r0 = rest_long l b0 c0 in
      let a1 : Long j r1 = rest_long l b1 c1 in
      let a2 : Long j r2 = rest_long l b2 c2 in
      let e12 : Long c (difference_of s2 s1) = subst (λ z. Long c z) (sums_apart v0 v1 v2) t.edge12 in
      let e20 : Long c (difference_of s0 s2) = subst (λ z. Long c z) (sums_apart_cross v1 v2 v0) t.edge20 in
      let e01 : Long c (difference_of s1 s0) = subst (λ z. Long c z) (sums_apart_right v2 v0 v1) t.edge01 in
      three_divided n0 n1 n2 (pos 2 *ℤ k +ℤ pos 2) (D *ℤ det w0 w1 w2) G' (n_nn b0) (n_most b0) (n_nn b1) (n_most b1) (n_nn b2) (n_most b2) N-positive v.some
      (middle_least k D G G' (det v0 v1 v2) (j *ℤ ((k +ℤ pos 1 +ℤ (k +ℤ pos 1)) *ℤ c)) ((k +ℤ pos 1 +ℤ (k +ℤ pos 1)) *ℤ (j *ℤ j)) (j *ℤ (j *ℤ j))
      (dot r0 (cross s1 s2)) (dot r1 (cross s2 s0)) (dot r2 (cross s0 s1)) (dot s0 (cross r1 r2)) (dot s1 (cross r2 r0)) (dot s2 (cross r0 r1)) (dot r0 (cross r1 r2))
      (pos 2 *ℤ k +ℤ pos 2) n0 n1 n2 (det w0 w1 w2) (det s0 s1 s2)
      (sym (three_times n0 n1 n2 w0 w1 w2) ∙ (λ i. det (made_vector c0 i) (made_vector c1 i) (made_vector c2 i)) ∙ middle_volume k s0 s1 s2 r0 r1 r2)
      (sums_volume v0 v1 v2)
      (long_dot a0 (cross_long s1 s2 l1 e12)).high (long_dot a1 (cross_long s2 s0 l2 e20)).high (long_dot a2 (cross_long s0 s1 l0 e01)).high
      (long_dot l0 (long_cross a1 a2)).low (long_dot l1 (long_cross a2 a0)).low (long_dot l2 (long_cross a0 a1)).low
      (long_dot a0 (long_cross a1 a2)).high large k_nn v.D-nn v.middle)

-- ---- the size of a cut's normal: the sum of its components' sizes, by 3 a² ≤ t²

record Abs (x : ℤ) : Type 0 where
  pub a : ℤ
  pub size : Size a x
  pub same : a *ℤ a ≡ x *ℤ x

abs : (x : ℤ) → Abs x
abs x = by_order (pos 0) x
    (λ h. record {
      a = x;
      size = record {
        low = prove 1 (λ x. record { given = (`0 :< x) ∷ []; goal = :neg x :≤ x; cert = nat 2 ⊗ hyp 0 ⊕ nat 2 }) refl x h;
        high = prove 1 (λ x. record { given = []; goal = x :≤ x; cert = nat 0 }) refl x;
      };
      same = refl;
    })
    (λ h. record {
      a = neg_ℤ x;
      size = record {
        low = prove 1 (λ x. record { given = []; goal = :neg (:neg x) :≤ x; cert = nat 0 }) refl x;
        high = prove 1 (λ x. record { given = (x :≤ `0) ∷ []; goal = x :≤ :neg x; cert = nat 2 ⊗ hyp 0 }) refl x h;
      };
      same = ring 1 (λ x. :neg x :* :neg x :≡ x :* x) refl x;
    })

pub taxi : {a t : ℤ} {c : V3} → Long a c → pos 0 ≤ℤ t → (pos 3 *ℤ (a *ℤ a)) ≤ℤ (t *ℤ t) → Taxi t c
taxi {a} {t} {c} p h k =
    let x : Abs c.x = abs c.x in
    let y : Abs c.y = abs c.y in
    let z : Abs c.z = abs c.z in
    record {
      ax = x.a;
      ay = y.a;
      az = z.a;
      x = x.size;
      y = y.size;
      z = z.size;
      sum = sq-≤ℤ h
          (prove 8
          (λ a t x y z p q r. record {
            given = (x :* x :≡ p :* p) ∷ (y :* y :≡ q :* q) ∷ (z :* z :≡ r :* r) ∷ (p :* p :+ q :* q :+ r :* r :≤ a :* a) ∷ (`3 :* (a :* a) :≤ t :* t) ∷ [];
            goal = (x :+ y :+ z) :* (x :+ y :+ z) :≤ t :* t;
            cert = eqn 0 `3 ⊕ eqn 1 `3 ⊕ eqn 2 `3 ⊕ nat 3 ⊗ hyp 3 ⊕ hyp 4 ⊕ sq (x :- y) ⊕ sq (x :- z) ⊕ sq (y :- z);
          })
          refl a t x.a y.a z.a c.x c.y c.z x.same y.same z.same p.square k);
    }
