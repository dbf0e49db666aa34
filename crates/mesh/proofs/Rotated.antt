-- At every depth the trixels of a root are those of S0, turned: the corners of the roots are, and cutting, which is made of sum, cross product, Unit and
-- Scale, commutes with a rotation. Assumes nothing.
use Prim.Native.Nat.{ℕ, zero, suc, ◌+◌, ◌-◌, ◌*◌, ◌/◌, ◌%◌, ◌^◌, ◌<◌}
use native.Mathlib.Nat.{mul_assoc, pow-suc}
use native.Mathlib.Omega.{arith}
use mathlib.Core.Path.{◌≡◌, refl, sym, ap, ◌∙◌}
use mathlib.Core.Bool.{Bool, true, false, cond}
use lib.Dec.{eqb}
use Rattle.vector.specs.declared.Vec3.{Vec3}
use Rattle.vector.specs.Vectors.{plus, cross, unit, scale}
use Rattle.mesh.specs.declared.Trixel.{Trixel}
use Rattle.mesh.specs.declared.Cut.{Cut}
use Rattle.mesh.specs.Trixels.{root_trixel, cut_at, cut, child0, child1, child2, child3, child_of, child}
use Rattle.mesh.specs.Identifiers.{trixel}
use Rattle.mesh.specs.Rotations.{rotation, turned_trixel, Rotated}
use Rattle.mesh.proofs.RotationLaws.{Rotates, turned_unit, turned_scale, by_root, turned_rotates}

-- ---- cutting

module _ {f : Vec3 → Vec3} (h : Rotates f) where
  -- each vector of a trixel, and of a cut
  abbrev trixel_by : Trixel → Trixel
  trixel_by t = record { v0 = f t.v0; v1 = f t.v1; v2 = f t.v2; p0 = f t.p0; p1 = f t.p1; p2 = f t.p2 }

  abbrev cut_by : Cut → Cut
  cut_by c = record { w0 = f c.w0; w1 = f c.w1; w2 = f c.w2; c0 = f c.c0; c1 = f c.c1; c2 = f c.c2 }

  middle_by : (a b : Vec3) → unit (plus (f a) (f b)) ≡ f (unit (plus a b))
  middle_by a b = ap unit (sym (h.sum a b)) ∙ turned_unit h (plus a b)

  normal_by : (a b : Vec3) → scale (cross (f a) (f b)) ≡ f (scale (cross a b))
  normal_by a b = ap scale (sym (h.product a b)) ∙ turned_scale h (cross a b)

  cut_at_by : (a b c : Vec3) → cut_at (f a) (f b) (f c) ≡ cut_by (cut_at a b c)
  cut_at_by a b c = λ j. record { w0 = f a; w1 = f b; w2 = f c; c0 = normal_by c b j; c1 = normal_by a c j; c2 = normal_by b a j }

  pub cut_by_law : (t : Trixel) → cut (trixel_by t) ≡ cut_by (cut t)
  unfolding cut
  cut_by_law t = (λ j. cut_at (middle_by t.v1 t.v2 j) (middle_by t.v0 t.v2 j) (middle_by t.v0 t.v1 j)) ∙ cut_at_by _ _ _

  -- by the tests of the number
  abbrev among : Bool → Bool → Bool → Trixel → Cut → Trixel
  among b0 b1 b2 t c = cond b0 (child0 t c) (cond b1 (child1 t c) (cond b2 (child2 t c) (child3 t c)))

  among_by : (b0 b1 b2 : Bool) (t : Trixel) (c : Cut) → among b0 b1 b2 (trixel_by t) (cut_by c) ≡ trixel_by (among b0 b1 b2 t c)
  among_by true b1 b2 t c = refl
  among_by false true b2 t c = refl
  among_by false false true t c = refl
  among_by false false false t c =
      let turn = h.opposite in
      sym (λ j. record { v0 = f c.w0; v1 = f c.w1; v2 = f c.w2; p0 = turn c.c0 j; p1 = turn c.c1 j; p2 = turn c.c2 j })

  pub child_by : (k : ℕ) (t : Trixel) → child k (trixel_by t) ≡ trixel_by (child k t)
  unfolding child
  child_by k t = ap (child_of k (trixel_by t)) (cut_by_law t) ∙ among_by (eqb k 0) (eqb k 1) (eqb k 2) t (cut t)

-- ---- the roots

root_turned : (r : ℕ) → r < 8 → root_trixel r ≡ turned_trixel r (root_trixel 0)
unfolding rotation root_trixel
root_turned = by_root (λ r. root_trixel r ≡ turned_trixel r (root_trixel 0)) refl refl refl refl refl refl refl refl

-- ---- level by level

above : (s i j : ℕ) → j ≡ s * 4 + i → (j % 4 ≡ i % 4) × (j / 4 ≡ s + i / 4)
above s i j e = (omega arith, omega arith)

-- the trixel i of the 4^(n + 1) from m·4^(n + 1) on
trixel_above : (m n i : ℕ) → trixel (suc n) (m * 4 ^ suc n + i) ≡ child (i % 4) (trixel n (m * 4 ^ n + i / 4))
unfolding trixel
trixel_above m n i =
    let four : m * 4 ^ suc n ≡ m * 4 ^ n * 4 = ap (λ q. m * q) (pow-suc 4 n) ∙ sym (mul_assoc m (4 ^ n) 4) in
    let e = above (m * 4 ^ n) i (m * 4 ^ suc n + i) (ap (λ q. q + i) four) in
    λ j. child (e.0 j) (trixel n (e.1 j))

quarter_less : (i p q : ℕ) → p ≡ q * 4 → i < p → i / 4 < q
quarter_less i p q e h = omega arith

pub rotated : Rotated
unfolding trixel
rotated r zero i l h =
    let none : i ≡ 0 = omega arith in
    let a : (8 + r) * 1 + i - 8 ≡ r = omega arith in
    let b : 8 * 1 + i - 8 ≡ 0 = omega arith in
    ap root_trixel a ∙ root_turned r l ∙ ap (λ k. turned_trixel r (root_trixel k)) (sym b)
rotated r (suc n) i l h =
    let up = rotated r n (i / 4) l (quarter_less i (4 ^ suc n) (4 ^ n) (pow-suc 4 n) h) in
    trixel_above (8 + r) n i
    ∙ ap (child (i % 4)) up
    ∙ child_by (turned_rotates r l) (i % 4) (trixel n (8 * 4 ^ n + i / 4))
    ∙ ap (turned_trixel r) (sym (trixel_above 8 n i))
