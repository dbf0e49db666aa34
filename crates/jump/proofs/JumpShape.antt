-- The shape of a trixel from level to level: corners are nearly K long, 2 K − n is small where edges are short, and the edges of a child are about half as
-- long. w is made of m by n w = K m − rest, n the root of m·m; the rest has the sign of w. Assumes nothing.
--   Rooted     n = 2 K − h is the root of m·m
--   Corner     from K − 2 to K + 1 long
use mathlib.Core.Path.{◌≡◌, refl, subst}
use mathlib.Core.List.{[], ◌∷◌}
use lib.IntN.{ℤ, pos, neg_ℤ, ◌+ℤ◌, ◌-ℤ◌, ◌*ℤ◌}
use lib.Signed.{◌≤ℤ◌, ◌<ℤ◌}
use Rattle.algebra.proofs.Ring.{Expr, con, ◌:+◌, ◌:-◌, ◌:*◌, :neg}
use Rattle.algebra.proofs.Claim.{◌:≤◌, ◌:<◌, ◌:≡◌, nat, hyp, sq, eqn, ◌⊕◌, ◌⊗◌, ring, prove}
use Rattle.algebra.proofs.Inequalities.{`0, `1, ≤ℤ-by-no, sq-≤ℤ, cancel-≤ℤ, <ℤ-mul, <ℤ→≤ℤ}
use Rattle.algebra.proofs.Vec.{V3, dot, dot_nn}
use Rattle.jump.proofs.Jump.{Size}
use Rattle.jump.proofs.JumpInvariant.{Quotients, rests, Bend, both}
use Rattle.jump.proofs.Lengths.{Long, sum_of, difference_of, times, long_sum, long_times, long_divided, long_components}

abbrev `2 : Expr
`2 = con (pos 2)

abbrev `3 : Expr
`3 = con (pos 3)

abbrev `4 : Expr
`4 = con (pos 4)

pub record Rooted (k h : ℤ) (m : V3) : Type 0 where
  pub nn : pos 0 ≤ℤ (pos 2 *ℤ k -ℤ h)
  pub low : ((pos 2 *ℤ k -ℤ h) *ℤ (pos 2 *ℤ k -ℤ h)) ≤ℤ dot m m
  pub high : dot m m <ℤ ((pos 2 *ℤ k -ℤ h +ℤ pos 1) *ℤ (pos 2 *ℤ k -ℤ h +ℤ pos 1))

pub record Corner (k : ℤ) (v : V3) : Type 0 where
  pub least : ((k -ℤ pos 2) *ℤ (k -ℤ pos 2)) ≤ℤ dot v v
  pub most : dot v v ≤ℤ ((k +ℤ pos 1) *ℤ (k +ℤ pos 1))

-- ---- how long a new corner is

made_square : (n k mx my mz wx wy wz rx ry rz : ℤ) → n *ℤ wx ≡ k *ℤ mx -ℤ rx → n *ℤ wy ≡ k *ℤ my -ℤ ry → n *ℤ wz ≡ k *ℤ mz -ℤ rz
    → k *ℤ k *ℤ (mx *ℤ mx +ℤ my *ℤ my +ℤ mz *ℤ mz)
    ≡ n *ℤ n *ℤ (wx *ℤ wx +ℤ wy *ℤ wy +ℤ wz *ℤ wz) +ℤ pos 2 *ℤ n *ℤ (wx *ℤ rx +ℤ wy *ℤ ry +ℤ wz *ℤ rz) +ℤ (rx *ℤ rx +ℤ ry *ℤ ry +ℤ rz *ℤ rz)
made_square = prove 11
    (λ n k mx my mz wx wy wz rx ry rz. record {
      given = (n :* wx :≡ k :* mx :- rx) ∷ (n :* wy :≡ k :* my :- ry) ∷ (n :* wz :≡ k :* mz :- rz) ∷ [];
      goal = k :* k :* (mx :* mx :+ my :* my :+ mz :* mz)
          :≡ n :* n :* (wx :* wx :+ wy :* wy :+ wz :* wz) :+ `2 :* n :* (wx :* rx :+ wy :* ry :+ wz :* rz) :+ (rx :* rx :+ ry :* ry :+ rz :* rz);
      cert = eqn 0 (:neg (k :* mx :+ n :* wx :+ rx)) ⊕ eqn 1 (:neg (k :* my :+ n :* wy :+ ry)) ⊕ eqn 2 (:neg (k :* mz :+ n :* wz :+ rz));
    })
    refl

not_longer : (n k mm ww wr rr : ℤ) → k *ℤ k *ℤ mm ≡ n *ℤ n *ℤ ww +ℤ pos 2 *ℤ n *ℤ wr +ℤ rr → pos 0 ≤ℤ wr → pos 0 ≤ℤ rr
    → mm <ℤ ((n +ℤ pos 1) *ℤ (n +ℤ pos 1)) → k ≤ℤ n → pos 0 ≤ℤ k → pos 0 ≤ℤ n → (n *ℤ n *ℤ ww) ≤ℤ (n *ℤ n *ℤ ((k +ℤ pos 1) *ℤ (k +ℤ pos 1)))
not_longer = prove 6
    (λ n k mm ww wr rr. record {
      given = (k :* k :* mm :≡ n :* n :* ww :+ `2 :* n :* wr :+ rr) ∷ (`0 :≤ wr) ∷ (`0 :≤ rr) ∷ (mm :< (n :+ `1) :* (n :+ `1)) ∷ (k :≤ n) ∷ (`0 :≤ k) ∷ (`0 :≤ n) ∷ [];
      goal = n :* n :* ww :≤ n :* n :* ((k :+ `1) :* (k :+ `1));
      cert = eqn 0 (:neg `1) ⊕ hyp 4 ⊗ (nat 2 ⊗ hyp 6 ⊗ hyp 5 ⊕ hyp 6 ⊕ hyp 5) ⊕ hyp 5 ⊗ hyp 5 ⊗ hyp 3 ⊕ hyp 5 ⊗ hyp 5 ⊕ nat 2 ⊗ hyp 6 ⊗ hyp 1 ⊕ hyp 2;
    })
    refl

not_shorter : (n k mm ww wr rr : ℤ) → k *ℤ k *ℤ mm ≡ n *ℤ n *ℤ ww +ℤ pos 2 *ℤ n *ℤ wr +ℤ rr
    → pos 0 ≤ℤ (pos 4 *ℤ n *ℤ n *ℤ ww -ℤ pos 4 *ℤ n *ℤ k *ℤ wr +ℤ k *ℤ k *ℤ rr) → rr ≤ℤ (pos 3 *ℤ (n *ℤ n)) → (n *ℤ n) ≤ℤ mm → pos 4 ≤ℤ k
    → (n *ℤ n *ℤ (pos 2 *ℤ k +ℤ pos 4) *ℤ ((k -ℤ pos 2) *ℤ (k -ℤ pos 2))) ≤ℤ (n *ℤ n *ℤ (pos 2 *ℤ k +ℤ pos 4) *ℤ ww)
not_shorter = prove 6
    (λ n k mm ww wr rr. record {
      given = (k :* k :* mm :≡ n :* n :* ww :+ `2 :* n :* wr :+ rr)
          ∷ (`0 :≤ `4 :* n :* n :* ww :- `4 :* n :* k :* wr :+ k :* k :* rr) ∷ (rr :≤ `3 :* (n :* n)) ∷ (n :* n :≤ mm) ∷ (`4 :≤ k) ∷ [];
      goal = n :* n :* (`2 :* k :+ `4) :* ((k :- `2) :* (k :- `2)) :≤ n :* n :* (`2 :* k :+ `4) :* ww;
      cert = eqn 0 (`2 :* k) ⊕ hyp 1 ⊕ ((hyp 4 ⊕ nat 4) ⊗ (hyp 4 ⊕ nat 4) ⊕ nat 2 ⊗ (hyp 4 ⊕ nat 4)) ⊗ hyp 2
          ⊕ nat 2 ⊗ (hyp 4 ⊕ nat 4) ⊗ (hyp 4 ⊕ nat 4) ⊗ (hyp 4 ⊕ nat 4) ⊗ hyp 3
          ⊕ sq n ⊗ (hyp 4 ⊗ hyp 4 ⊕ nat 10 ⊗ hyp 4 ⊕ nat 8);
    })
    refl

turned_square : (n k : ℤ) (w r : V3) → pos 0 ≤ℤ (pos 4 *ℤ n *ℤ n *ℤ dot w w -ℤ pos 4 *ℤ n *ℤ k *ℤ dot w r +ℤ k *ℤ k *ℤ dot r r)
turned_square n k w r = prove 8
    (λ n k wx wy wz rx ry rz. record {
      given = [];
      goal = `0 :≤ `4 :* n :* n :* (wx :* wx :+ wy :* wy :+ wz :* wz) :- `4 :* n :* k :* (wx :* rx :+ wy :* ry :+ wz :* rz) :+ k :* k :* (rx :* rx :+ ry :* ry :+ rz :* rz);
      cert = sq (`2 :* n :* wx :- k :* rx) ⊕ sq (`2 :* n :* wy :- k :* ry) ⊕ sq (`2 :* n :* wz :- k :* rz);
    })
    refl n k w.x w.y w.z r.x r.y r.z

rest_square : {n : ℤ} (r : V3) → Size n r.x → Size n r.y → Size n r.z → dot r r ≤ℤ (pos 3 *ℤ (n *ℤ n))
rest_square {n} r p q s = prove 4
    (λ n x y z. record {
      given = (:neg n :≤ x) ∷ (x :≤ n) ∷ (:neg n :≤ y) ∷ (y :≤ n) ∷ (:neg n :≤ z) ∷ (z :≤ n) ∷ [];
      goal = x :* x :+ y :* y :+ z :* z :≤ `3 :* (n :* n);
      cert = hyp 0 ⊗ hyp 1 ⊕ hyp 2 ⊗ hyp 3 ⊕ hyp 4 ⊗ hyp 5;
    })
    refl n r.x r.y r.z p.low p.high q.low q.high s.low s.high

-- the rests have the signs of w: w·rest is not negative
pub new_corner : {k h : ℤ} {m w : V3} (a : Quotients k h m w) → pos 4 ≤ℤ k → k ≤ℤ (pos 2 *ℤ k -ℤ h) → Rooted k h m → pos 0 ≤ℤ dot w (rests a) → Corner k w
new_corner {k} {h} {m} {w} a k4 kn root sign =
    let n : ℤ = pos 2 *ℤ k -ℤ h in
    let r : V3 = rests a in
    let e = made_square n k m.x m.y m.z w.x w.y w.z a.x.rest a.y.rest a.z.rest a.x.is a.y.is a.z.is in
    let k_nn : pos 0 ≤ℤ k = least_nn k k4 in
    let n-positive : pos 0 <ℤ n = positive k n k4 kn in
    record {
      least = cancel-≤ℤ (<ℤ-mul (<ℤ-mul n-positive n-positive) (more k k4))
          (not_shorter n k (dot m m) (dot w w) (dot w r) (dot r r) e (turned_square n k w r) (rest_square r a.x.size a.y.size a.z.size) root.low k4);
      most = cancel-≤ℤ (<ℤ-mul n-positive n-positive)
          (not_longer n k (dot m m) (dot w w) (dot w r) (dot r r) e sign (dot_nn r) root.high kn k_nn (<ℤ→≤ℤ n-positive));
    }
  where
    least_nn : (k : ℤ) → pos 4 ≤ℤ k → pos 0 ≤ℤ k
    least_nn = prove 1 (λ k. record { given = (`4 :≤ k) ∷ []; goal = `0 :≤ k; cert = hyp 0 ⊕ nat 4 }) refl

    positive : (k n : ℤ) → pos 4 ≤ℤ k → k ≤ℤ n → pos 0 <ℤ n
    positive = prove 2 (λ k n. record { given = (`4 :≤ k) ∷ (k :≤ n) ∷ []; goal = `0 :< n; cert = hyp 0 ⊕ hyp 1 ⊕ nat 3 }) refl

    more : (k : ℤ) → pos 4 ≤ℤ k → pos 0 <ℤ (pos 2 *ℤ k +ℤ pos 4)
    more = prove 1 (λ k. record { given = (`4 :≤ k) ∷ []; goal = `0 :< `2 :* k :+ `4; cert = nat 2 ⊗ hyp 0 ⊕ nat 11 }) refl

-- ---- 2 K − n, from the corners and the edge between them

both_square : (a b : V3) → dot (both a b) (both a b) +ℤ dot (difference_of a b) (difference_of a b) ≡ pos 2 *ℤ (dot a a +ℤ dot b b)
both_square a b = ring 6
    (λ x y z p q r. (x :+ p) :* (x :+ p) :+ (y :+ q) :* (y :+ q) :+ (z :+ r) :* (z :+ r) :+ ((x :- p) :* (x :- p) :+ (y :- q) :* (y :- q) :+ (z :- r) :* (z :- r))
    :≡ `2 :* (x :* x :+ y :* y :+ z :* z :+ (p :* p :+ q :* q :+ r :* r)))
    refl a.x a.y a.z b.x b.y b.z

-- s = a·a, t = b·b, o the square of the edge, at most c²
bend_low : (k h s t o mm : ℤ) → mm +ℤ o ≡ pos 2 *ℤ (s +ℤ t) → pos 0 ≤ℤ o → s ≤ℤ ((k +ℤ pos 1) *ℤ (k +ℤ pos 1)) → t ≤ℤ ((k +ℤ pos 1) *ℤ (k +ℤ pos 1))
    → ((pos 2 *ℤ k -ℤ h) *ℤ (pos 2 *ℤ k -ℤ h)) ≤ℤ mm
    → ((pos 2 *ℤ k -ℤ h) *ℤ (pos 2 *ℤ k -ℤ h)) ≤ℤ ((pos 2 *ℤ k +ℤ pos 2) *ℤ (pos 2 *ℤ k +ℤ pos 2))
bend_low = prove 6
    (λ k h s t o mm. record {
      given = (mm :+ o :≡ `2 :* (s :+ t)) ∷ (`0 :≤ o) ∷ (s :≤ (k :+ `1) :* (k :+ `1)) ∷ (t :≤ (k :+ `1) :* (k :+ `1)) ∷ ((`2 :* k :- h) :* (`2 :* k :- h) :≤ mm) ∷ [];
      goal = (`2 :* k :- h) :* (`2 :* k :- h) :≤ (`2 :* k :+ `2) :* (`2 :* k :+ `2);
      cert = eqn 0 `1 ⊕ hyp 1 ⊕ nat 2 ⊗ hyp 2 ⊕ nat 2 ⊗ hyp 3 ⊕ hyp 4;
    })
    refl

-- i = 2 K + 2 − A: if n + 1 ≤ i then m·m < i², too small
bend_high : (k i n c s t o mm : ℤ) → mm +ℤ o ≡ pos 2 *ℤ (s +ℤ t) → o ≤ℤ (c *ℤ c) → ((k -ℤ pos 2) *ℤ (k -ℤ pos 2)) ≤ℤ s → ((k -ℤ pos 2) *ℤ (k -ℤ pos 2)) ≤ℤ t
    → mm <ℤ ((n +ℤ pos 1) *ℤ (n +ℤ pos 1)) → (i *ℤ i +ℤ c *ℤ c) ≤ℤ (pos 4 *ℤ ((k -ℤ pos 2) *ℤ (k -ℤ pos 2))) → pos 0 ≤ℤ n → n <ℤ i → pos 1 ≤ℤ pos 0
bend_high = prove 8
    (λ k i n c s t o mm. record {
      given = (mm :+ o :≡ `2 :* (s :+ t)) ∷ (o :≤ c :* c) ∷ ((k :- `2) :* (k :- `2) :≤ s) ∷ ((k :- `2) :* (k :- `2) :≤ t)
          ∷ (mm :< (n :+ `1) :* (n :+ `1)) ∷ (i :* i :+ c :* c :≤ `4 :* ((k :- `2) :* (k :- `2))) ∷ (`0 :≤ n) ∷ (n :< i) ∷ [];
      goal = `1 :≤ `0;
      cert = eqn 0 (:neg `1) ⊕ hyp 1 ⊕ nat 2 ⊗ hyp 2 ⊕ nat 2 ⊗ hyp 3 ⊕ hyp 4 ⊕ hyp 5 ⊕ hyp 7 ⊗ (hyp 7 ⊕ nat 2 ⊗ hyp 6 ⊕ nat 2);
    })
    refl

pub bend : {k h A c : ℤ} (a b : V3) → pos 0 ≤ℤ k → Corner k a → Corner k b → Long c (difference_of a b) → Rooted k h (both a b)
    → ((pos 2 *ℤ k +ℤ pos 2 -ℤ A) *ℤ (pos 2 *ℤ k +ℤ pos 2 -ℤ A) +ℤ c *ℤ c) ≤ℤ (pos 4 *ℤ ((k -ℤ pos 2) *ℤ (k -ℤ pos 2))) → Bend A h
bend {k} {h} {A} {c} a b k_nn pa pb edge root enough = record {
  low = turn_low k h (sq-≤ℤ (even k k_nn)
      (bend_low k h (dot a a) (dot b b) (dot (difference_of a b) (difference_of a b)) (dot (both a b) (both a b)) (both_square a b) (dot_nn (difference_of a b)) pa.most pb.most root.low));
  high = turn_high k h A (≤ℤ-by-no
      (bend_high k (pos 2 *ℤ k +ℤ pos 2 -ℤ A) (pos 2 *ℤ k -ℤ h) c (dot a a) (dot b b) (dot (difference_of a b) (difference_of a b)) (dot (both a b) (both a b))
      (both_square a b) edge.square pa.least pb.least root.high enough root.nn));
}
  where
    even : (k : ℤ) → pos 0 ≤ℤ k → pos 0 ≤ℤ (pos 2 *ℤ k +ℤ pos 2)
    even = prove 1 (λ k. record { given = (`0 :≤ k) ∷ []; goal = `0 :≤ `2 :* k :+ `2; cert = nat 2 ⊗ hyp 0 ⊕ nat 2 }) refl

    turn_low : (k h : ℤ) → (pos 2 *ℤ k -ℤ h) ≤ℤ (pos 2 *ℤ k +ℤ pos 2) → neg_ℤ (pos 2) ≤ℤ h
    turn_low = prove 2 (λ k h. record { given = (`2 :* k :- h :≤ `2 :* k :+ `2) ∷ []; goal = :neg `2 :≤ h; cert = hyp 0 }) refl

    turn_high : (k h A : ℤ) → (pos 2 *ℤ k +ℤ pos 2 -ℤ A) ≤ℤ (pos 2 *ℤ k -ℤ h) → (h +ℤ pos 2) ≤ℤ A
    turn_high = prove 3 (λ k h A. record { given = (`2 :* k :+ `2 :- A :≤ `2 :* k :- h) ∷ []; goal = h :+ `2 :≤ A; cert = hyp 0 }) refl

-- ---- the edges of a child

-- vectors by their components
pub same_vector : {a b : V3} → a.x ≡ b.x → a.y ≡ b.y → a.z ≡ b.z → a ≡ b
same_vector p q r = λ i. record { x = p i; y = q i; z = r i }

edge_identity : (k h i m n v w r s : ℤ) → (pos 2 *ℤ k -ℤ h) *ℤ v ≡ k *ℤ m -ℤ r → (pos 2 *ℤ k -ℤ i) *ℤ w ≡ k *ℤ n -ℤ s
    → k *ℤ (m -ℤ n) +ℤ ((h -ℤ i) *ℤ w +ℤ (s -ℤ r)) ≡ (pos 2 *ℤ k -ℤ h) *ℤ (v -ℤ w)
edge_identity = prove 9
    (λ k h i m n v w r s. record {
      given = ((`2 :* k :- h) :* v :≡ k :* m :- r) ∷ ((`2 :* k :- i) :* w :≡ k :* n :- s) ∷ [];
      goal = k :* (m :- n) :+ ((h :- i) :* w :+ (s :- r)) :≡ (`2 :* k :- h) :* (v :- w);
      cert = eqn 0 (:neg `1) ⊕ eqn 1 `1;
    })
    refl

-- the constants of a level's shape: edges at most c long, those of the children c'; A bounds 2 K − n, j the length of a rest
pub record Shaping (k A c c' j : ℤ) : Type 0 where
  pub k_some : pos 4 ≤ℤ k
  pub c'_nn : pos 0 ≤ℤ c'
  pub j_nn : pos 0 ≤ℤ j
  pub rest : (pos 3 *ℤ ((pos 2 *ℤ k +ℤ pos 2) *ℤ (pos 2 *ℤ k +ℤ pos 2))) ≤ℤ (j *ℤ j)
  pub A-nn : pos 0 ≤ℤ A
  pub A-below : pos 0 <ℤ (pos 2 *ℤ k -ℤ A)
  pub bent : ((pos 2 *ℤ k +ℤ pos 2 -ℤ A) *ℤ (pos 2 *ℤ k +ℤ pos 2 -ℤ A) +ℤ c *ℤ c) ≤ℤ (pos 4 *ℤ ((k -ℤ pos 2) *ℤ (k -ℤ pos 2)))
  pub halved : (k *ℤ c +ℤ (A *ℤ (k +ℤ pos 1) +ℤ (j +ℤ j))) ≤ℤ ((pos 2 *ℤ k -ℤ A) *ℤ c')

module _ {k A c c' j : ℤ} (l : Shaping k A c c' j) where
  k_nn : pos 0 ≤ℤ k
  k_nn = prove 1 (λ k. record { given = (`4 :≤ k) ∷ []; goal = `0 :≤ k; cert = hyp 0 ⊕ nat 4 }) refl k l.k_some

  pub corner_long : {v : V3} → Corner k v → Long (k +ℤ pos 1) v
  corner_long p = record { nn = prove 1 (λ k. record { given = (`0 :≤ k) ∷ []; goal = `0 :≤ k :+ `1; cert = hyp 0 ⊕ nat 1 }) refl k k_nn; square = p.most }

  rest_one : {h r : ℤ} → Bend A h → Size (pos 2 *ℤ k -ℤ h) r → Size (pos 2 *ℤ k +ℤ pos 2) r
  rest_one {h} {r} b s = record {
    low = prove 3 (λ k h r. record { given = (:neg `2 :≤ h) ∷ (:neg (`2 :* k :- h) :≤ r) ∷ []; goal = :neg (`2 :* k :+ `2) :≤ r; cert = hyp 0 ⊕ hyp 1 }) refl k h r b.low s.low;
    high = prove 3 (λ k h r. record { given = (:neg `2 :≤ h) ∷ (r :≤ `2 :* k :- h) ∷ []; goal = r :≤ `2 :* k :+ `2; cert = hyp 0 ⊕ hyp 1 }) refl k h r b.low s.high;
  }

  pub rest_long : {h : ℤ} {m w : V3} → Bend A h → (a : Quotients k h m w) → Long j (rests a)
  rest_long b a = long_components l.j_nn l.rest (rest_one b a.x.size) (rest_one b a.y.size) (rest_one b a.z.size)

  negative_long : {t : ℤ} {r : V3} → Long t r → Long t (times (neg_ℤ (pos 1)) r)
  negative_long {t} {r} p = record {
    nn = p.nn;
    square = subst (λ z. z ≤ℤ (t *ℤ t))
        (ring 3 (λ a b c. a :* a :+ b :* b :+ c :* c :≡ :neg `1 :* a :* (:neg `1 :* a) :+ :neg `1 :* b :* (:neg `1 :* b) :+ :neg `1 :* c :* (:neg `1 :* c)) refl r.x r.y r.z)
        p.square;
  }

  pub difference_long : {a b : ℤ} {r s : V3} → Long a r → Long b s → Long (a +ℤ b) (difference_of r s)
  difference_long {a} {b} {r} {s} p q = subst (λ v. Long (a +ℤ b) v) (same_vector (e r.x s.x) (e r.y s.y) (e r.z s.z)) (long_sum p (negative_long q))
    where
      e : (x y : ℤ) → x +ℤ neg_ℤ (pos 1) *ℤ y ≡ x -ℤ y
      e = ring 2 (λ x y. x :+ :neg `1 :* y :≡ x :- y) refl

  -- an edge between two new corners, one of which may be an old one
  pub edge_halved : {h i : ℤ} {m n v w : V3} → Bend A h → Bend A i → (a : Quotients k h m v) → (b : Quotients k i n w) → Corner k w → Long c (difference_of m n) → Long c' (difference_of v w)
  edge_halved {h} {i} {m} {n} {v} {w} bh bi a b cw e =
      let sum : Long (k *ℤ c +ℤ (A *ℤ (k +ℤ pos 1) +ℤ (j +ℤ j))) (sum_of (times k (difference_of m n)) (sum_of (times (h -ℤ i) w) (difference_of (rests b) (rests a)))) =
      long_sum (long_times k_nn (itself k k_nn) e) (long_sum (long_times l.A-nn (apart bh bi) (corner_long cw)) (difference_long (rest_long bi b) (rest_long bh a))) in
      long_divided l.A-below (prove 3 (λ k A h. record { given = (h :+ `2 :≤ A) ∷ []; goal = `2 :* k :- A :≤ `2 :* k :- h; cert = hyp 0 ⊕ nat 2 }) refl k A h bh.high) l.halved l.c'_nn
      (subst (λ z. Long (k *ℤ c +ℤ (A *ℤ (k +ℤ pos 1) +ℤ (j +ℤ j))) z)
      (same_vector (edge_identity k h i m.x n.x v.x w.x a.x.rest b.x.rest a.x.is b.x.is)
      (edge_identity k h i m.y n.y v.y w.y a.y.rest b.y.rest a.y.is b.y.is)
      (edge_identity k h i m.z n.z v.z w.z a.z.rest b.z.rest a.z.is b.z.is)) sum)
    where
      itself : (k : ℤ) → pos 0 ≤ℤ k → Size k k
      itself k h = record {
        low = prove 1 (λ k. record { given = (`0 :≤ k) ∷ []; goal = :neg k :≤ k; cert = nat 2 ⊗ hyp 0 }) refl k h;
        high = prove 1 (λ k. record { given = []; goal = k :≤ k; cert = nat 0 }) refl k;
      }

      apart : {h i : ℤ} → Bend A h → Bend A i → Size A (h -ℤ i)
      apart {h} {i} p q = record {
        low = prove 3 (λ A h i. record { given = (:neg `2 :≤ h) ∷ (i :+ `2 :≤ A) ∷ []; goal = :neg A :≤ h :- i; cert = hyp 0 ⊕ hyp 1 }) refl A h i p.low q.high;
        high = prove 3 (λ A h i. record { given = (:neg `2 :≤ i) ∷ (h :+ `2 :≤ A) ∷ []; goal = h :- i :≤ A; cert = hyp 0 ⊕ hyp 1 }) refl A h i q.low p.high;
      }
