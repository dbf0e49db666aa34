-- Cutting and descent look at corners only: the same digits, and children with the same corners, come from a trixel and from its corners alone.
-- Assumes nothing.
use Prim.Native.Nat.{ℕ, zero, suc, ◌+◌, ◌-◌, ◌*◌, ◌/◌, ◌%◌, ◌^◌, ◌≤◌, ◌<◌}
use native.Mathlib.Nat.{pow-suc}
use native.Mathlib.Omega.{arith}
use mathlib.Core.Path.{◌≡◌, refl, sym, ap, subst, ◌∙◌}
use mathlib.Core.Bool.{Bool, true, false, cond}
use lib.Dec.{eqb, ltb}
use borrow.Author.Tests.{eq-eqb, ne_eqb, ltb-true, ltb-false, lt-ltb, le-ltb, lt-leb, le-leb}
use Rattle.algebra.proofs.Tests.{split}
use Rattle.answer.specs.Answer.{refused, gives, Name}
use Rattle.vector.specs.declared.Vec3.{Vec3}
use Rattle.vector.specs.Numbers.{is_depth}
use Rattle.vector.specs.Vectors.{plus, unit}
use Rattle.vector.proofs.DepthLaws.{depth_range, depth_beyond}
use Rattle.mesh.specs.declared.Trixel.{Trixel}
use Rattle.mesh.specs.declared.Corners.{Corners}
use Rattle.mesh.specs.declared.Cut.{Cut}
use Rattle.mesh.specs.Trixels.{root_of, S0, S1, S2, S3, N0, N1, N2, N3, root_trixel, cut, child0, child1, child2, child3, child}
use Rattle.mesh.specs.Identifiers.{identifier_at, depth_of, trixel, corners_of, corners}
use Rattle.mesh.specs.Lookup.{digit, descend}
use Rattle.mesh_trixels.specs.Corners.{bare, SmallCorners}
use Rattle.mesh.proofs.NameLaws.{at_low, at_high, depth_found, next_power, last_power}
use Rattle.mesh_trixels.proofs.SmallTrixels.{roots_small}

pub digit_corners : (p : Vec3) (t : Trixel) → digit p (bare (corners_of t)) ≡ digit p t
unfolding digit cut
digit_corners p t = refl

-- of a trixel with the cut k, whatever its normals
child_of_law : (t u : Trixel) (k : Cut) (a b c : Bool) → corners_of t ≡ corners_of u
    → corners_of (cond a (child0 t k) (cond b (child1 t k) (cond c (child2 t k) (child3 t k))))
    ≡ corners_of (cond a (child0 u k) (cond b (child1 u k) (cond c (child2 u k) (child3 u k))))
child_of_law t u k true b c e = λ i. record { v0 = (e i).v0; v1 = k.w2; v2 = k.w1 }
child_of_law t u k false true c e = λ i. record { v0 = (e i).v1; v1 = k.w0; v2 = k.w2 }
child_of_law t u k false false true e = λ i. record { v0 = (e i).v2; v1 = k.w1; v2 = k.w0 }
child_of_law t u k false false false e = refl

pub child_corners : (k : ℕ) (t : Trixel) → corners_of (child k (bare (corners_of t))) ≡ corners_of (child k t)
unfolding child cut
child_corners k t = child_of_law (bare (corners_of t)) t (cut t) (eqb k 0) (eqb k 1) (eqb k 2) refl

pub descend_corners : (p : Vec3) (n : ℕ) (t u : Trixel) (i : ℕ) → corners_of t ≡ corners_of u → descend p n t i ≡ descend p n u i
unfolding descend
descend_corners p zero t u i e = refl
descend_corners p (suc n) t u i e =
    let d : digit p t ≡ digit p u = sym (digit_corners p t) ∙ ap (λ c. digit p (bare c)) e ∙ digit_corners p u in
    let c : corners_of (child (digit p t) t) ≡ corners_of (child (digit p u) u) =
    sym (child_corners (digit p t) t) ∙ (λ j. corners_of (child (d j) (bare (e j)))) ∙ child_corners (digit p u) u in
    descend_corners p n (child (digit p t) t) (child (digit p u) u) (4 * i + digit p t) c ∙ ap (λ k. descend p n (child (digit p u) u) (4 * i + k)) d

-- ---- the corners of each child, from the midpoints w0 w1 w2

module _ (c : Corners) {k : ℕ} where
  pub child_0 : {w1 w2 : Vec3} → k ≡ 0 → w1 ≡ unit (plus c.v0 c.v2) → w2 ≡ unit (plus c.v0 c.v1) → record { v0 = c.v0; v1 = w2; v2 = w1 } ≡ corners_of (child k (bare c))
  unfolding child cut
  child_0 e e1 e2 = rw (eq-eqb k 0 e) (λ i. record { v0 = c.v0; v1 = e2 i; v2 = e1 i })

  pub child_1 : {w0 w2 : Vec3} → k ≡ 1 → w0 ≡ unit (plus c.v1 c.v2) → w2 ≡ unit (plus c.v0 c.v1) → record { v0 = c.v1; v1 = w0; v2 = w2 } ≡ corners_of (child k (bare c))
  unfolding child cut
  child_1 e e0 e2 = rw (ne_eqb k 0 (λ z. omega arith), eq-eqb k 1 e) (λ i. record { v0 = c.v1; v1 = e0 i; v2 = e2 i })

  pub child_2 : {w0 w1 : Vec3} → k ≡ 2 → w0 ≡ unit (plus c.v1 c.v2) → w1 ≡ unit (plus c.v0 c.v2) → record { v0 = c.v2; v1 = w1; v2 = w0 } ≡ corners_of (child k (bare c))
  unfolding child cut
  child_2 e e0 e1 = rw (ne_eqb k 0 (λ z. omega arith), ne_eqb k 1 (λ z. omega arith), eq-eqb k 2 e) (λ i. record { v0 = c.v2; v1 = e1 i; v2 = e0 i })

  pub child_3 : {w0 w1 w2 : Vec3} → 2 < k → w0 ≡ unit (plus c.v1 c.v2) → w1 ≡ unit (plus c.v0 c.v2) → w2 ≡ unit (plus c.v0 c.v1)
      → record { v0 = w0; v1 = w1; v2 = w2 } ≡ corners_of (child k (bare c))
  unfolding child cut
  child_3 h e0 e1 e2 =
      rw (ne_eqb k 0 (λ z. omega arith), ne_eqb k 1 (λ z. omega arith), ne_eqb k 2 (λ z. omega arith)) (λ i. record { v0 = e0 i; v1 = e1 i; v2 = e2 i })

-- ---- the corners of a root

pub root_corners_small : (k : ℕ) → SmallCorners (corners_of (root_trixel k))
root_corners_small k = let s = roots_small k in record { v0 = s.v0; v1 = s.v1; v2 = s.v2 }

pub root_is : (k n : ℕ) → k ≡ n → corners_of (root_trixel n) ≡ corners_of (root_trixel k)
root_is k n e = ap (λ m. corners_of (root_trixel m)) (sym e)

-- ---- from a trixel up to its root

module _ (n i : ℕ) (low : 8 * 4 ^ n ≤ i) (high : i < 16 * 4 ^ n) where
  pub at_root : n ≡ 0 → (8 ≤ i) × (i - 8 < 8)
  at_root e =
      let p : 4 ^ n ≡ 1 = ap (λ m. 4 ^ m) e in
      (omega arith, omega arith)

  pub one_up : (n ≡ 0 → ⊥) → (8 * 4 ^ (n - 1) ≤ i / 4) × (i / 4 < 16 * 4 ^ (n - 1))
  one_up f =
      let s : n ≡ suc (n - 1) = omega arith in
      let p : 4 ^ n ≡ 4 ^ (n - 1) * 4 = ap (λ m. 4 ^ m) s ∙ pow-suc 4 (n - 1) in
      (omega arith, omega arith)

pub trixel_root : (n i : ℕ) → n ≡ 0 → root_trixel (i - 8) ≡ trixel n i
unfolding trixel
trixel_root n i e = ap (λ m. trixel m i) (sym e)

pub trixel_child : (n i : ℕ) → (n ≡ 0 → ⊥) → child (i % 4) (trixel (n - 1) (i / 4)) ≡ trixel n i
unfolding trixel
trixel_child n i f = let s : suc (n - 1) ≡ n = omega arith in ap (λ m. trixel m i) s

-- ---- the answer, by the depth

module _ (i d : ℕ) (is : d ≡ depth_of i) where
  pub corners_none : is_depth d ≡ false → refused Name ≡ corners i
  unfolding corners
  corners_none e =
      split (ltb 0 d)
      (λ t. rw (lt-ltb 0 (depth_of i) (omega (arith, ltb-true 0 d t)), lt-leb (depth_of i) 12 (omega (arith, depth_beyond d e (ltb-true 0 d t)))))
      (λ f. rw (le-ltb 0 (depth_of i) (omega (arith, ltb-false 0 d f))))

  pub corners_given_law : (c : Corners) → is_depth d ≡ true → c ≡ corners_of (trixel (d - 1) i) → gives c ≡ corners i
  unfolding corners
  corners_given_law c t e =
      let h = depth_range d t in
      rw (lt-ltb 0 (depth_of i) (omega arith), le-leb (depth_of i) 12 (omega arith)) (ap gives e ∙ ap (λ m. gives (corners_of (trixel (m - 1) i))) is)

  pub level_range : 1 ≤ d → (8 * 4 ^ (d - 1) ≤ i) × (i < 16 * 4 ^ (d - 1))
  level_range f =
      let t : identifier_at (depth_of i) i ≡ true = depth_found i (lt-ltb 0 (depth_of i) (omega arith)) in
      let at : identifier_at d i ≡ true = subst (λ m. identifier_at m i ≡ true) (sym is) t in
      let s : d ≡ suc (d - 1) = omega arith in
      let p : 4 ^ d ≡ 4 ^ (d - 1) * 4 = ap (λ m. 4 ^ m) s ∙ pow-suc 4 (d - 1) in
      (omega (arith, at_low d i at, next_power d), omega (arith, at_high d i at, last_power d))

-- ---- a root's normals are its corners

abbrev Own : Trixel → Type 0
Own t = root_of t.v0 t.v1 t.v2 ≡ t

own_either : (b : Bool) (s t : Trixel) → Own s → Own t → Own (cond b s t)
own_either true s t h k = h
own_either false s t h k = k

pub root_own : (k : ℕ) → Own (root_trixel k)
unfolding root_trixel
root_own k =
    own_either (eqb k 0) S0 _ refl (own_either (eqb k 1) S1 _ refl (own_either (eqb k 2) S2 _ refl (own_either (eqb k 3) S3 _ refl
    (own_either (eqb k 4) N0 _ refl (own_either (eqb k 5) N1 _ refl (own_either (eqb k 6) N2 N3 refl refl))))))
