-- One level of the jump, put together: numbers that follow p at the corners of a trixel of known shape give the side of every cut where they are beyond the
-- margin, and the numbers of the child follow p at its corners. Assumes nothing.
--   New        w is Unit of m: n w = K m − rest, n the root of m·m, the rest with the signs of w
--   Pointing   p is nearly K long, and its components at most K
--   InS0       a corner in the octant of S0: x and y not below 0, z not above
--   Here       the numbers follow p, pushed outward by δ, at such a trixel
--   Stands     a trixel of the shape and at least the volume of its level, in S0's octant
--   Cut        what the side of the cut at v0 needs of its ends w1 and w2
--   Wide       the margin M of a level
--   Halving    the constants of a level at which shape and volume of a child follow from those of the trixel
use mathlib.Core.Path.{◌≡◌, refl, sym, subst}
use mathlib.Core.List.{[], ◌∷◌}
use lib.IntN.{ℤ, pos, neg_ℤ, ◌+ℤ◌, ◌-ℤ◌, ◌*ℤ◌}
use lib.Signed.{◌≤ℤ◌, ◌<ℤ◌, <ℤ-≤ℤ_trans}
use Rattle.algebra.proofs.Ring.{Expr, con, ◌:+◌, ◌:-◌, ◌:*◌, :neg}
use Rattle.algebra.proofs.Order.{nn_mul, ≤ℤ-trans}
use Rattle.algebra.proofs.Claim.{◌:≤◌, ◌:<◌, ◌:≡◌, nat, hyp, sq, eqn, ◌⊕◌, ◌⊗◌, ring, prove}
use Rattle.algebra.proofs.Inequalities.{`0, `1, cancel-≤ℤ, <ℤ→≤ℤ, <ℤ-by-no}
use Rattle.algebra.proofs.Vec.{V3, dot, cross, dot_e, cross_e, ring_v}
use Rattle.jump.proofs.Jump.{Size, det}
use Rattle.jump.proofs.JumpInvariant.{Cornered, Moved, Bounds, Level, Follows, Made, Quotients, rests, quotients, Bend, Apart, both, pushed}
use Rattle.jump.proofs.JumpChild.{kept_made, child_step, middle_step, turned}
use Rattle.jump.proofs.JumpSide.{place, place_along}
use Rattle.jump.proofs.JumpSure.{Margin, sure_above, sure_below}
use Rattle.jump.proofs.Lengths.{Long, difference_of, flip, long_x, long_y, long_z}
use Rattle.jump.proofs.JumpShape.{Rooted, Corner, Shaping, new_corner, bend, edge_halved, same_vector}
use Rattle.jump.proofs.JumpVolume.{Shape, Shrinking, child_large, middle_large, taxi, cross_long, sums_apart, sums_apart_cross, sums_apart_right}

abbrev `2 : Expr
`2 = con (pos 2)

abbrev `3 : Expr
`3 = con (pos 3)

pub record New (k : ℤ) (m w : V3) : Type 0 where
  pub h : ℤ
  pub made : Made k h m w
  pub rooted : Rooted k h m
  pub sign : pos 0 ≤ℤ dot w (rests (quotients made))

pub record Pointing (k : ℤ) (p : V3) : Type 0 where
  pub x : Size k p.x
  pub y : Size k p.y
  pub z : Size k p.z
  pub least : ((k -ℤ pos 2) *ℤ (k -ℤ pos 2)) ≤ℤ dot p p
  pub most : dot p p ≤ℤ ((k +ℤ pos 2) *ℤ (k +ℤ pos 2))

pub record InS0 (v : V3) : Type 0 where
  pub x : pos 0 ≤ℤ v.x
  pub y : pos 0 ≤ℤ v.y
  pub z : pos 0 ≤ℤ neg_ℤ v.z

pub record Stands (k c D G : ℤ) (v0 v1 v2 : V3) : Type 0 where
  pub shape : Shape k c v0 v1 v2
  pub large : G ≤ℤ (D *ℤ det v0 v1 v2)
  pub octant0 : InS0 v0
  pub octant1 : InS0 v1
  pub octant2 : InS0 v2

pub record Here (k u δ D c G : ℤ) (b : Bounds) (d0 d1 d2 : ℤ) (v0 v1 v2 p : V3) : Type 0 where
  pub follows : Follows u D b d0 d1 d2 v0 v1 v2 (pushed δ p)
  pub stands : Stands k c D G v0 v1 v2

pub record Cut (k c' D G' : ℤ) (v0 w1 w2 : V3) : Type 0 where
  pub corner : Corner k w2
  pub edge : Long c' (difference_of w2 w1)
  pub large : G' ≤ℤ (D *ℤ det w2 w1 v0)

pub turned_det : (a b c : V3) → det a b c ≡ det b c a
turned_det = ring_v 3 (λ a b c. dot_e (cross_e a b) c :≡ dot_e (cross_e b c) a) refl

-- ---- turning the corners round

pub shape_turned : {k c : ℤ} {v0 v1 v2 : V3} → Shape k c v0 v1 v2 → Shape k c v1 v2 v0
shape_turned t = record { corner0 = t.corner1; corner1 = t.corner2; corner2 = t.corner0; edge01 = t.edge12; edge12 = t.edge20; edge20 = t.edge01 }

pub stands_turned : {k c D G : ℤ} {v0 v1 v2 : V3} → Stands k c D G v0 v1 v2 → Stands k c D G v1 v2 v0
stands_turned {D = D} {G = G} {v0 = v0} {v1 = v1} {v2 = v2} h = record {
  shape = shape_turned h.shape;
  large = subst (λ z. G ≤ℤ (D *ℤ z)) (turned_det v0 v1 v2) h.large;
  octant0 = h.octant1;
  octant1 = h.octant2;
  octant2 = h.octant0;
}

pub here_turned : {k u D c G d0 d1 d2 : ℤ} {b : Bounds} {v0 v1 v2 : V3} (δ : ℤ) (p : V3) → Here k u δ D c G b d0 d1 d2 v0 v1 v2 p → Here k u δ D c G b d1 d2 d0 v1 v2 v0 p
here_turned δ p h = record { follows = turned h.follows; stands = stands_turned h.stands }

-- the child at v0 has the cut as an edge
pub cut_of : {k c D G : ℤ} {v0 w1 w2 : V3} → Stands k c D G v0 w2 w1 → Cut k c D G v0 w1 w2
cut_of {D = D} {G = G} {v0 = v0} {w1 = w1} {w2 = w2} h = record {
  corner = h.shape.corner1;
  edge = h.shape.edge12;
  large = subst (λ z. G ≤ℤ (D *ℤ z)) (turned_det v0 w2 w1) h.large;
}

-- the sum of two corners does not ask which is first
swapped_corner : {k h : ℤ} (a b : ℤ) {w : ℤ} → Cornered k h (a +ℤ b) w → Cornered k h (b +ℤ a) w
swapped_corner {k} {h} a b {w} c = record { rest = c.rest; is = subst (λ m. (pos 2 *ℤ k -ℤ h) *ℤ w ≡ k *ℤ m -ℤ c.rest) (e a b) c.is; nn = c.nn; most = c.most }
  where
    e : (x y : ℤ) → x +ℤ y ≡ y +ℤ x
    e = ring 2 (λ x y. x :+ y :≡ y :+ x) refl

turned_corner : {k h : ℤ} (a b : ℤ) {w : ℤ} → Cornered k h (neg_ℤ (a +ℤ b)) w → Cornered k h (neg_ℤ (b +ℤ a)) w
turned_corner {k} {h} a b {w} c = record { rest = c.rest; is = subst (λ m. (pos 2 *ℤ k -ℤ h) *ℤ w ≡ k *ℤ m -ℤ c.rest) (e a b) c.is; nn = c.nn; most = c.most }
  where
    e : (x y : ℤ) → neg_ℤ (x +ℤ y) ≡ neg_ℤ (y +ℤ x)
    e = ring 2 (λ x y. :neg (x :+ y) :≡ :neg (y :+ x)) refl

unfoldable pub new_swapped : {k : ℤ} (a b : V3) {w : V3} → New k (both a b) w → New k (both b a) w
unfolding swapped_corner turned_corner
new_swapped {k} a b {w} n = record {
  h = n.h;
  made = record { x = swapped_corner a.x b.x n.made.x; y = swapped_corner a.y b.y n.made.y; z = turned_corner a.z b.z n.made.z };
  rooted = subst (λ m. Rooted k n.h m) (same_vector (e a.x b.x) (e a.y b.y) (e a.z b.z)) n.rooted;
  sign = n.sign;
}
  where
    e : (x y : ℤ) → x +ℤ y ≡ y +ℤ x
    e = ring 2 (λ x y. x :+ y :≡ y :+ x) refl

-- ---- S is at most about l / e

pub meet : (k : ℤ) (p v : V3) → pos 0 ≤ℤ k → dot p p ≤ℤ ((k +ℤ pos 2) *ℤ (k +ℤ pos 2)) → dot v v ≤ℤ ((k +ℤ pos 1) *ℤ (k +ℤ pos 1)) → dot p v ≤ℤ ((k +ℤ pos 2) *ℤ (k +ℤ pos 2))
meet k p v h a b = cancel-≤ℤ {c = pos 2} (prove 0 (record { given = []; goal = `0 :< `2; cert = nat 1 }) refl)
    (prove 7
    (λ k x y z p q r. record {
      given = (`0 :≤ k) ∷ (x :* x :+ y :* y :+ z :* z :≤ (k :+ `2) :* (k :+ `2)) ∷ (p :* p :+ q :* q :+ r :* r :≤ (k :+ `1) :* (k :+ `1)) ∷ [];
      goal = `2 :* (x :* p :+ y :* q :+ z :* r) :≤ `2 :* ((k :+ `2) :* (k :+ `2));
      cert = hyp 1 ⊕ hyp 2 ⊕ sq (x :- p) ⊕ sq (y :- q) ⊕ sq (z :- r) ⊕ nat 2 ⊗ hyp 0 ⊕ nat 3;
    })
    refl k p.x p.y p.z v.x v.y v.z h a b)

-- two corners at most c apart
near_product : (k c : ℤ) (a b : V3) → Corner k a → Corner k b → Long c (difference_of a b) → (pos 2 *ℤ ((k -ℤ pos 2) *ℤ (k -ℤ pos 2)) -ℤ c *ℤ c) ≤ℤ (pos 2 *ℤ dot a b)
near_product k c a b p q e = prove 8
    (λ k c x y z p q r. record {
      given = ((k :- `2) :* (k :- `2) :≤ x :* x :+ y :* y :+ z :* z) ∷ ((k :- `2) :* (k :- `2) :≤ p :* p :+ q :* q :+ r :* r)
          ∷ ((x :- p) :* (x :- p) :+ (y :- q) :* (y :- q) :+ (z :- r) :* (z :- r) :≤ c :* c) ∷ [];
      goal = `2 :* ((k :- `2) :* (k :- `2)) :- c :* c :≤ `2 :* (x :* p :+ y :* q :+ z :* r);
      cert = hyp 0 ⊕ hyp 1 ⊕ hyp 2;
    })
    refl k c a.x a.y a.z b.x b.y b.z p.least q.least e.square

own_product : (k c : ℤ) (a : V3) → Corner k a → (pos 2 *ℤ ((k -ℤ pos 2) *ℤ (k -ℤ pos 2)) -ℤ c *ℤ c) ≤ℤ (pos 2 *ℤ dot a a)
own_product k c a p = prove 3
    (λ k c s. record { given = ((k :- `2) :* (k :- `2) :≤ s) ∷ []; goal = `2 :* ((k :- `2) :* (k :- `2)) :- c :* c :≤ `2 :* s; cert = nat 2 ⊗ hyp 0 ⊕ sq c })
    refl k c (dot a a) p.least

-- a component of a corner, from 0 to k + 1, times what P is ahead in it
times_most : (k a n h : ℤ) → pos 0 ≤ℤ a → a ≤ℤ (k +ℤ pos 1) → n ≤ℤ h → pos 0 ≤ℤ h → (a *ℤ n) ≤ℤ ((k +ℤ pos 1) *ℤ h)
times_most = prove 4 (λ k a n h. record { given = (`0 :≤ a) ∷ (a :≤ k :+ `1) ∷ (n :≤ h) ∷ (`0 :≤ h) ∷ []; goal = a :* n :≤ (k :+ `1) :* h; cert = hyp 0 ⊗ hyp 2 ⊕ hyp 1 ⊗ hyp 3 }) refl

-- what P is ahead along v, by components
ahead_along : (u e l vx vy vz Px Py Pz px py pz : ℤ)
    → vx *ℤ (u *ℤ (e *ℤ Px -ℤ l *ℤ px)) +ℤ vy *ℤ (u *ℤ (e *ℤ Py -ℤ l *ℤ py)) +ℤ neg_ℤ vz *ℤ (u *ℤ (e *ℤ neg_ℤ Pz -ℤ l *ℤ neg_ℤ pz))
    ≡ u *ℤ (e *ℤ (vx *ℤ Px +ℤ vy *ℤ Py +ℤ vz *ℤ Pz) -ℤ l *ℤ (vx *ℤ px +ℤ vy *ℤ py +ℤ vz *ℤ pz))
ahead_along = ring 12
    (λ u e l vx vy vz Px Py Pz px py pz.
    vx :* (u :* (e :* Px :- l :* px)) :+ vy :* (u :* (e :* Py :- l :* py)) :+ :neg vz :* (u :* (e :* :neg Pz :- l :* :neg pz))
    :≡ u :* (e :* (vx :* Px :+ vy :* Py :+ vz :* Pz) :- l :* (vx :* px :+ vy :* py :+ vz :* pz)))
    refl

held_by : (k u e l d0 d1 d2 x0 x1 x2 X o q W n a b c : ℤ) → X ≡ d0 *ℤ x0 +ℤ d1 *ℤ x1 +ℤ d2 *ℤ x2 → W ≤ℤ (pos 2 *ℤ x0) → W ≤ℤ (pos 2 *ℤ x1) → W ≤ℤ (pos 2 *ℤ x2)
    → pos 0 ≤ℤ d0 → pos 0 ≤ℤ d1 → pos 0 ≤ℤ d2 → o ≤ℤ q → a +ℤ b +ℤ c ≡ u *ℤ (e *ℤ X -ℤ l *ℤ o) → a ≤ℤ ((k +ℤ pos 1) *ℤ (n *ℤ e *ℤ (d0 +ℤ d1 +ℤ d2)))
    → b ≤ℤ ((k +ℤ pos 1) *ℤ (n *ℤ e *ℤ (d0 +ℤ d1 +ℤ d2))) → c ≤ℤ ((k +ℤ pos 1) *ℤ (n *ℤ e *ℤ (d0 +ℤ d1 +ℤ d2))) → pos 0 ≤ℤ u → pos 0 ≤ℤ e → pos 0 ≤ℤ l
    → ((u *ℤ W -ℤ pos 6 *ℤ (k +ℤ pos 1) *ℤ n) *ℤ (e *ℤ (d0 +ℤ d1 +ℤ d2))) ≤ℤ (pos 2 *ℤ u *ℤ q *ℤ l)
held_by = prove 18
    (λ k u e l d0 d1 d2 x0 x1 x2 X o q W n a b c. record {
      given = (X :≡ d0 :* x0 :+ d1 :* x1 :+ d2 :* x2) ∷ (W :≤ `2 :* x0) ∷ (W :≤ `2 :* x1) ∷ (W :≤ `2 :* x2) ∷ (`0 :≤ d0) ∷ (`0 :≤ d1) ∷ (`0 :≤ d2) ∷ (o :≤ q)
          ∷ (a :+ b :+ c :≡ u :* (e :* X :- l :* o)) ∷ (a :≤ (k :+ `1) :* (n :* e :* (d0 :+ d1 :+ d2))) ∷ (b :≤ (k :+ `1) :* (n :* e :* (d0 :+ d1 :+ d2)))
          ∷ (c :≤ (k :+ `1) :* (n :* e :* (d0 :+ d1 :+ d2))) ∷ (`0 :≤ u) ∷ (`0 :≤ e) ∷ (`0 :≤ l) ∷ [];
      goal = (u :* W :- con (pos 6) :* (k :+ `1) :* n) :* (e :* (d0 :+ d1 :+ d2)) :≤ `2 :* u :* q :* l;
      cert = hyp 12 ⊗ hyp 13 ⊗ (hyp 4 ⊗ hyp 1 ⊕ hyp 5 ⊗ hyp 2 ⊕ hyp 6 ⊗ hyp 3) ⊕ eqn 0 (:neg (`2 :* u :* e)) ⊕ nat 2 ⊗ (hyp 9 ⊕ hyp 10 ⊕ hyp 11) ⊕ eqn 8 (:neg `2) ⊕ nat 2 ⊗ hyp 12 ⊗ hyp 14 ⊗ hyp 7;
    })
    refl

-- p, pushed, along a corner in S0's octant
pushed_along : (k δ : ℤ) (p v : V3) → dot p v ≤ℤ ((k +ℤ pos 2) *ℤ (k +ℤ pos 2)) → pos 0 ≤ℤ δ → v.x ≤ℤ (k +ℤ pos 1) → v.y ≤ℤ (k +ℤ pos 1) → neg_ℤ v.z ≤ℤ (k +ℤ pos 1)
    → dot v (pushed δ p) ≤ℤ ((k +ℤ pos 2) *ℤ (k +ℤ pos 2) +ℤ pos 3 *ℤ (k +ℤ pos 1) *ℤ δ)
pushed_along k δ p v h d a b c = prove 8
    (λ k δ px py pz vx vy vz. record {
      given = (px :* vx :+ py :* vy :+ pz :* vz :≤ (k :+ `2) :* (k :+ `2)) ∷ (`0 :≤ δ) ∷ (vx :≤ k :+ `1) ∷ (vy :≤ k :+ `1) ∷ (:neg vz :≤ k :+ `1) ∷ [];
      goal = vx :* (px :+ δ) :+ vy :* (py :+ δ) :+ vz :* (pz :- δ) :≤ (k :+ `2) :* (k :+ `2) :+ `3 :* (k :+ `1) :* δ;
      cert = hyp 0 ⊕ hyp 1 ⊗ (hyp 2 ⊕ hyp 3 ⊕ hyp 4);
    })
    refl k δ p.x p.y p.z v.x v.y v.z h d a b c

-- the factors of S and of l
abbrev pub part_s : (k u c : ℤ) → Bounds → ℤ
part_s k u c b = u *ℤ (pos 2 *ℤ ((k -ℤ pos 2) *ℤ (k -ℤ pos 2)) -ℤ c *ℤ c) -ℤ pos 6 *ℤ (k +ℤ pos 1) *ℤ b.high

abbrev pub part_l : (k u δ : ℤ) → ℤ
part_l k u δ = pos 2 *ℤ u *ℤ ((k +ℤ pos 2) *ℤ (k +ℤ pos 2) +ℤ pos 3 *ℤ (k +ℤ pos 1) *ℤ δ)

module _ {k u D c G d0 d1 d2 : ℤ} {b : Bounds} {v0 v1 v2 : V3} (δ : ℤ) (p : V3) (k_nn : pos 0 ≤ℤ k) (u_nn : pos 0 ≤ℤ u) (δ_nn : pos 0 ≤ℤ δ) (high_nn : pos 0 ≤ℤ b.high)
    (floor_nn : pos 0 ≤ℤ b.floor) (pt : Pointing k p) (here : Here k u δ D c G b d0 d1 d2 v0 v1 v2 p) where
  abbrev f : Follows u D b d0 d1 d2 v0 v1 v2 (pushed δ p)
  f = here.follows

  corner_most : {v : V3} → Corner k v → Long (k +ℤ pos 1) v
  corner_most q = record { nn = prove 1 (λ k. record { given = (`0 :≤ k) ∷ []; goal = `0 :≤ k :+ `1; cert = hyp 0 ⊕ nat 1 }) refl k k_nn; square = q.most }

  e_nn : pos 0 ≤ℤ f.e
  e_nn = <ℤ→≤ℤ f.e_positive

  some_nn : pos 0 ≤ℤ (b.high *ℤ f.e *ℤ (d0 +ℤ d1 +ℤ d2))
  some_nn = nn_mul (nn_mul high_nn e_nn) (≤ℤ-trans floor_nn f.large)

  pub sum_held : (part_s k u c b *ℤ (f.e *ℤ (d0 +ℤ d1 +ℤ d2))) ≤ℤ (part_l k u δ *ℤ f.l)
  sum_held =
      let l0 : Long (k +ℤ pos 1) v0 = corner_most here.stands.shape.corner0 in
      let z-most : neg_ℤ v0.z ≤ℤ (k +ℤ pos 1) = other (k +ℤ pos 1) v0.z (long_z l0).low in
      held_by k u f.e f.l d0 d1 d2 (dot v0 v0) (dot v0 v1) (dot v0 v2) (dot v0 (place d0 d1 d2 v0 v1 v2)) (dot v0 (pushed δ p)) _ _ b.high
      (v0.x *ℤ (u *ℤ (f.e *ℤ (d0 *ℤ v0.x +ℤ d1 *ℤ v1.x +ℤ d2 *ℤ v2.x) -ℤ f.l *ℤ (p.x +ℤ δ))))
      (v0.y *ℤ (u *ℤ (f.e *ℤ (d0 *ℤ v0.y +ℤ d1 *ℤ v1.y +ℤ d2 *ℤ v2.y) -ℤ f.l *ℤ (p.y +ℤ δ))))
      (neg_ℤ v0.z *ℤ (u *ℤ (f.e *ℤ neg_ℤ (d0 *ℤ v0.z +ℤ d1 *ℤ v1.z +ℤ d2 *ℤ v2.z) -ℤ f.l *ℤ neg_ℤ (p.z -ℤ δ))))
      (place_along v0 d0 d1 d2 v0 v1 v2)
      (own_product k c v0 here.stands.shape.corner0) (near_product k c v0 v1 here.stands.shape.corner0 here.stands.shape.corner1 here.stands.shape.edge01)
      (near_product k c v0 v2 here.stands.shape.corner0 here.stands.shape.corner2 (flip v2 v0 here.stands.shape.edge20))
      f.d0_nn f.d1_nn f.d2_nn
      (pushed_along k δ p v0 (meet k p v0 k_nn pt.most here.stands.shape.corner0.most) δ_nn (long_x l0).high (long_y l0).high z-most)
      (ahead_along u f.e f.l v0.x v0.y v0.z (d0 *ℤ v0.x +ℤ d1 *ℤ v1.x +ℤ d2 *ℤ v2.x) (d0 *ℤ v0.y +ℤ d1 *ℤ v1.y +ℤ d2 *ℤ v2.y) (d0 *ℤ v0.z +ℤ d1 *ℤ v1.z +ℤ d2 *ℤ v2.z)
      (p.x +ℤ δ) (p.y +ℤ δ) (p.z -ℤ δ))
      (times_most k v0.x _ _ here.stands.octant0.x (long_x l0).high f.x.ahead some_nn)
      (times_most k v0.y _ _ here.stands.octant0.y (long_y l0).high f.y.ahead some_nn)
      (times_most k (neg_ℤ v0.z) _ _ here.stands.octant0.z z-most
      (subst (λ z. (u *ℤ (f.e *ℤ z -ℤ f.l *ℤ neg_ℤ (p.z -ℤ δ))) ≤ℤ (b.high *ℤ f.e *ℤ (d0 +ℤ d1 +ℤ d2))) (out d0 d1 d2 v0.z v1.z v2.z) f.z.ahead) some_nn)
      u_nn e_nn (<ℤ→≤ℤ f.l_positive)
    where
      other : (a z : ℤ) → neg_ℤ a ≤ℤ z → neg_ℤ z ≤ℤ a
      other = prove 2 (λ a z. record { given = (:neg a :≤ z) ∷ []; goal = :neg z :≤ a; cert = hyp 0 }) refl

      out : (d0 d1 d2 a b c : ℤ) → d0 *ℤ neg_ℤ a +ℤ d1 *ℤ neg_ℤ b +ℤ d2 *ℤ neg_ℤ c ≡ neg_ℤ (d0 *ℤ a +ℤ d1 *ℤ b +ℤ d2 *ℤ c)
      out = ring 6 (λ d0 d1 d2 a b c. d0 :* :neg a :+ d1 :* :neg b :+ d2 :* :neg c :≡ :neg (d0 :* a :+ d1 :* b :+ d2 :* c)) refl

-- ---- the margin of a level: t bounds the sum of the components of a cut's normal, (k + 1) c' each

pub record Wide (k u δ D c c' G' t E M : ℤ) (b : Bounds) : Type 0 where
  pub k_some : pos 4 ≤ℤ k
  pub u_positive : pos 0 <ℤ u
  pub δ_nn : pos 0 ≤ℤ δ
  pub D-positive : pos 0 <ℤ D
  pub S-positive : pos 0 <ℤ part_s k u c b
  pub G'-positive : pos 0 <ℤ G'
  pub low_nn : pos 0 ≤ℤ b.low
  pub high_nn : pos 0 ≤ℤ b.high
  pub floor_nn : pos 0 ≤ℤ b.floor
  pub E-nn : pos 0 ≤ℤ E
  pub t_nn : pos 0 ≤ℤ t
  pub M-nn : pos 0 ≤ℤ M
  pub t_large : (pos 3 *ℤ ((k +ℤ pos 1) *ℤ c' *ℤ ((k +ℤ pos 1) *ℤ c'))) ≤ℤ (t *ℤ t)
  pub behind : (part_l k u δ *ℤ (u *ℤ (pos 2 *ℤ k +ℤ pos 2) +ℤ k *ℤ b.low)) ≤ℤ (E +ℤ part_s k u c b *ℤ (k *ℤ u *ℤ δ))
  pub ahead : (part_l k u δ *ℤ (k *ℤ b.high) +ℤ part_s k u c b *ℤ (k *ℤ u *ℤ δ)) ≤ℤ E
  pub wide : (b.most *ℤ (t *ℤ E +ℤ pos 3 *ℤ ((k +ℤ pos 1) *ℤ c') *ℤ (part_s k u c b *ℤ u *ℤ k))) ≤ℤ (part_s k u c b *ℤ u *ℤ k *ℤ M *ℤ G')

-- ---- the side of the cut at v0

module _ {k u D c c' G G' t E M d0 d1 d2 : ℤ} {b : Bounds} {v0 v1 v2 w1 w2 : V3} (δ : ℤ) (p : V3) (wide : Wide k u δ D c c' G' t E M b) (pt : Pointing k p)
    (here : Here k u δ D c G b d0 d1 d2 v0 v1 v2 p) (n1 : New k (both v0 v2) w1) (n2 : New k (both v0 v1) w2) (low1 : neg_ℤ (pos 2) ≤ℤ n1.h) (low2 : neg_ℤ (pos 2) ≤ℤ n2.h)
    (cut : Cut k c' D G' v0 w1 w2) where
  k_nn : pos 0 ≤ℤ k
  k_nn = prove 1 (λ k. record { given = (con (pos 4) :≤ k) ∷ []; goal = `0 :≤ k; cert = hyp 0 ⊕ nat 4 }) refl k wide.k_some

  k_positive : pos 0 <ℤ k
  k_positive = prove 1 (λ k. record { given = (con (pos 4) :≤ k) ∷ []; goal = `0 :< k; cert = hyp 0 ⊕ nat 3 }) refl k wide.k_some

  pub normal_long : Long ((k +ℤ pos 1) *ℤ c') (cross w2 w1)
  normal_long = cross_long w2 w1 (record { nn = prove 1 (λ k. record { given = (`0 :≤ k) ∷ []; goal = `0 :≤ k :+ `1; cert = hyp 0 ⊕ nat 1 }) refl k k_nn; square = cut.corner.most }) (flip w2 w1 cut.edge)

  cut_positive : pos 0 <ℤ det w2 w1 v0
  cut_positive = positive wide.D-positive (<ℤ-≤ℤ_trans wide.G'-positive cut.large)
    where
      positive : {D g : ℤ} → pos 0 <ℤ D → pos 0 <ℤ (D *ℤ g) → pos 0 <ℤ g
      positive {D} {g} h k = <ℤ-by-no
          (prove 2 (λ D g. record { given = (`0 :< D) ∷ (`0 :< D :* g) ∷ (g :≤ `0) ∷ []; goal = `1 :≤ `0; cert = hyp 1 ⊕ (hyp 0 ⊕ nat 1) ⊗ hyp 2 }) refl D g h k)

  margin : Margin k u δ D (part_s k u c b) (part_l k u δ) E t ((k +ℤ pos 1) *ℤ c') (dot (cross w2 w1) v0) M b
  margin = record {
    k_positive = k_positive;
    u_positive = wide.u_positive;
    D-positive = wide.D-positive;
    s_positive = wide.S-positive;
    g_positive = cut_positive;
    low_nn = wide.low_nn;
    high_nn = wide.high_nn;
    E-nn = wide.E-nn;
    t_nn = wide.t_nn;
    m_nn = normal_long.nn;
    behind = wide.behind;
    ahead = wide.ahead;
    wide = ≤ℤ-trans wide.wide
        (scaled (part_s k u c b *ℤ u *ℤ k) M G' (D *ℤ det w2 w1 v0) (nn_mul (nn_mul (<ℤ→≤ℤ wide.S-positive) (<ℤ→≤ℤ wide.u_positive)) k_nn) wide.M-nn cut.large);
  }
    where
      scaled : (a M G g : ℤ) → pos 0 ≤ℤ a → pos 0 ≤ℤ M → G ≤ℤ g → (a *ℤ M *ℤ G) ≤ℤ (a *ℤ M *ℤ g)
      scaled = prove 4 (λ a M G g. record { given = (`0 :≤ a) ∷ (`0 :≤ M) ∷ (G :≤ g) ∷ []; goal = a :* M :* G :≤ a :* M :* g; cert = hyp 0 ⊗ hyp 1 ⊗ hyp 2 }) refl

  held : (part_s k u c b *ℤ (here.follows.e *ℤ (d0 +ℤ d1 +ℤ d2))) ≤ℤ (part_l k u δ *ℤ here.follows.l)
  held = sum_held δ p k_nn (<ℤ→≤ℤ wide.u_positive) wide.δ_nn wide.high_nn wide.floor_nn pt here

  pub here_above : M <ℤ (d0 -ℤ d1 -ℤ d2) → (pos 3 *ℤ ((k +ℤ pos 1) *ℤ c')) <ℤ dot (cross w2 w1) p
  here_above h = sure_above δ p here.follows n1.made n2.made low1 low2 (taxi normal_long wide.t_nn wide.t_large) held margin h

  pub here_below : M <ℤ neg_ℤ (d0 -ℤ d1 -ℤ d2) → dot (cross w2 w1) p <ℤ neg_ℤ (pos 3 *ℤ ((k +ℤ pos 1) *ℤ c'))
  here_below h = sure_below δ p here.follows n1.made n2.made low1 low2 (taxi normal_long wide.t_nn wide.t_large) held margin h

-- ---- the numbers of a child follow p, whose shape is known

apart : {L : ℤ} {v w : V3} → Long L (difference_of v w) → Apart L v w
apart p = record { x = long_x p; y = long_y p; z = long_z p }

module _ {k u D c' A Γ0 Γ1 d0 d1 d2 : ℤ} {b b' : Bounds} {v0 v1 v2 p : V3} (level : Level k u c' A Γ0 Γ1 b b') (f : Follows u D b d0 d1 d2 v0 v1 v2 p) where
  pub child_follows : {y1 y2 : ℤ} {w1 w2 : V3} → pos 0 ≤ℤ (d0 -ℤ d1 -ℤ d2) → (n1 : New k (both v0 v2) w1) (n2 : New k (both v0 v1) w2)
      → Moved k A Γ0 Γ1 n2.h (pos 2 *ℤ d1) y1 → Moved k A Γ0 Γ1 n1.h (pos 2 *ℤ d2) y2 → Shape k c' v0 w2 w1 → Follows u D b' (d0 -ℤ d1 -ℤ d2) y1 y2 v0 w2 w1 p
  child_follows {w1 = w1} nn n1 n2 m1 m2 t =
      child_step level f nn m1 m2 n2.made n1.made (apart t.edge01) (apart (flip w1 v0 t.edge20)) (apart t.edge12)

  pub middle_follows : {y0 y1 y2 : ℤ} {w0 w1 w2 : V3} → (n0 : New k (both v1 v2) w0) (n1 : New k (both v0 v2) w1) (n2 : New k (both v0 v1) w2)
      → Moved k A Γ0 Γ1 n0.h (d1 +ℤ d2 -ℤ d0) y0 → Moved k A Γ0 Γ1 n1.h (d0 +ℤ d2 -ℤ d1) y1 → Moved k A Γ0 Γ1 n2.h (d0 +ℤ d1 -ℤ d2) y2 → Shape k c' w0 w1 w2
      → Follows u D b' y0 y1 y2 w0 w1 w2 p
  middle_follows {w0 = w0} {w2 = w2} n0 n1 n2 m0 m1 m2 t =
      middle_step level f m0 m1 m2 n0.made n1.made n2.made (apart t.edge01) (apart (flip w2 w0 t.edge20)) (apart t.edge12)

-- ---- shape and volume of a child, from those of the trixel

pub record Halving (k A c c' j D G G' : ℤ) : Type 0 where
  pub shaping : Shaping k A c c' j
  pub shrinking : Shrinking k c j D G G'
  pub half : A ≤ℤ k
  pub two : (pos 0 +ℤ pos 2) ≤ℤ A

module _ {k A c c' j D G G' : ℤ} (s : Halving k A c c' j D G G') where
  K-nn : pos 0 ≤ℤ k
  K-nn = prove 1 (λ k. record { given = (con (pos 4) :≤ k) ∷ []; goal = `0 :≤ k; cert = hyp 0 ⊕ nat 4 }) refl k s.shaping.k_some

  K-positive : pos 0 <ℤ k
  K-positive = prove 1 (λ k. record { given = (con (pos 4) :≤ k) ∷ []; goal = `0 :< k; cert = hyp 0 ⊕ nat 3 }) refl k s.shaping.k_some

  pub new_bend : (v w : V3) {x : V3} (n : New k (both v w) x) → Corner k v → Corner k w → Long c (difference_of v w) → Bend A n.h
  new_bend v w n p q e = bend v w K-nn p q e n.rooted s.shaping.bent

  corner_new : {m x : V3} (n : New k m x) → Bend A n.h → Corner k x
  corner_new n b = new_corner (quotients n.made) s.shaping.k_some
      (prove 3 (λ k A h. record { given = (h :+ `2 :≤ A) ∷ (A :≤ k) ∷ []; goal = k :≤ `2 :* k :- h; cert = hyp 0 ⊕ hyp 1 ⊕ nat 2 }) refl k A n.h b.high s.half)
      n.rooted n.sign

  module _ {v0 v1 v2 : V3} (here : Stands k c D G v0 v1 v2) where
    abbrev t : Shape k c v0 v1 v2
    t = here.shape

    module _ {w1 w2 : V3} (n1 : New k (both v0 v2) w1) (n2 : New k (both v0 v1) w2) (o1 : InS0 w1) (o2 : InS0 w2) where
      bend1 : Bend A n1.h
      bend1 = new_bend v0 v2 n1 t.corner0 t.corner2 (flip v2 v0 t.edge20)

      bend2 : Bend A n2.h
      bend2 = new_bend v0 v1 n2 t.corner0 t.corner1 t.edge01

      child_shape : Shape k c' v0 w2 w1
      child_shape =
          let p1 : Corner k w1 = corner_new n1 bend1 in
          let p2 : Corner k w2 = corner_new n2 bend2 in
          let kept : Quotients k (pos 0) (both v0 v0) v0 = quotients (kept_made k v0 K-positive) in
          let kept-bend : Bend A (pos 0) = record { low = prove 0 (record { given = []; goal = :neg `2 :≤ `0; cert = nat 2 }) refl; high = s.two } in
          record {
            corner0 = t.corner0;
            corner1 = p2;
            corner2 = p1;
            edge01 = edge_halved s.shaping kept-bend bend2 kept (quotients n2.made) p2 (subst (λ z. Long c z) (sums_apart v0 v0 v1) t.edge01);
            edge12 = edge_halved s.shaping bend2 bend1 (quotients n2.made) (quotients n1.made) p1 (subst (λ z. Long c z) (sums_apart v0 v1 v2) t.edge12);
            edge20 = edge_halved s.shaping bend1 kept-bend (quotients n1.made) kept t.corner0 (subst (λ z. Long c z) (sums_apart v0 v2 v0) t.edge20);
          }

      pub stands_child : Stands k c' D G' v0 w2 w1
      stands_child = record {
        shape = child_shape;
        large = subst (λ z. G' ≤ℤ (D *ℤ z)) (sym (turned_det v0 w2 w1))
            (child_large s.shaping s.shrinking t here.large bend1 bend2 (quotients n1.made) (quotients n2.made));
        octant0 = here.octant0;
        octant1 = o2;
        octant2 = o1;
      }

      module _ {w0 : V3} (n0 : New k (both v1 v2) w0) (o0 : InS0 w0) where
        bend0 : Bend A n0.h
        bend0 = new_bend v1 v2 n0 t.corner1 t.corner2 t.edge12

        middle_shape : Shape k c' w0 w1 w2
        middle_shape =
            let p0 : Corner k w0 = corner_new n0 bend0 in
            let p1 : Corner k w1 = corner_new n1 bend1 in
            let p2 : Corner k w2 = corner_new n2 bend2 in
            let q0 = quotients n0.made in
            let q1 = quotients n1.made in
            let q2 = quotients n2.made in
            record {
              corner0 = p0;
              corner1 = p1;
              corner2 = p2;
              edge01 = edge_halved s.shaping bend0 bend1 q0 q1 p1 (subst (λ z. Long c z) (sums_apart_right v2 v1 v0) (flip v0 v1 t.edge01));
              edge12 = edge_halved s.shaping bend1 bend2 q1 q2 p2 (subst (λ z. Long c z) (sums_apart v0 v2 v1) (flip v1 v2 t.edge12));
              edge20 = edge_halved s.shaping bend2 bend0 q2 q0 p0 (flip (both v1 v2) (both v0 v1) (subst (λ z. Long c z) (sums_apart_cross v1 v2 v0) t.edge20));
            }

        pub stands_middle : Stands k c' D G' w0 w1 w2
        stands_middle = record {
          shape = middle_shape;
          large = middle_large s.shaping s.shrinking t here.large bend0 bend1 bend2 (quotients n0.made) (quotients n1.made) (quotients n2.made);
          octant0 = o0;
          octant1 = o1;
          octant2 = o2;
        }
