-- The path of a point: the three normals of every trixel that the descent of p passes are not negative at p.
-- A root's normals are its corners, and the signs of p choose the root; a child's are the normal whose test chose it and two of its parent's,
-- or, of the child in the middle, the three whose tests all failed, negated. Assumes nothing.
use Prim.Native.Nat.{ℕ, suc, ◌+◌, ◌*◌, ◌/◌, ◌%◌, ◌<◌}
use native.Mathlib.Omega.{arith}
use lib.Dec.{lit<}
use mathlib.Core.Path.{◌≡◌, refl}
use mathlib.Core.Bool.{Bool, true, false, cond}
use mathlib.Core.List.{[], ◌∷◌}
use lib.IntN.{pos, negsuc}
use lib.Signed.{◌≤ℤ◌}
use Rattle.algebra.proofs.Ring.{Expr, con, ◌:+◌, ◌:*◌, :neg}
use Rattle.algebra.proofs.Claim.{◌:≤◌, ◌:<◌, nat, hyp, ◌⊕◌, ◌⊗◌, Claim, prove}
use Rattle.algebra.proofs.Inequalities.{`0}
use Rattle.algebra.proofs.Tests.{le_yes, no_le}
use Rattle.vector.specs.declared.Vec3.{Vec3}
use Rattle.vector.specs.Vectors.{dot, minus}
use Rattle.mesh.specs.declared.Trixel.{Trixel}
use Rattle.mesh.specs.declared.Cut.{Cut}
use Rattle.mesh.specs.Trixels.{a0, a1, a2, a3, a4, a5, cut, child_of, child, root_trixel}
use Rattle.mesh.specs.Identifiers.{trixel}
use Rattle.mesh.specs.Lookup.{not_negative, north_root, south_root, root_number, digit}

-- p is on the inner side of all three edges
pub record Inside (p : Vec3) (t : Trixel) : Type 0 where
  pub in0 : pos 0 ≤ℤ dot t.p0 p
  pub in1 : pos 0 ≤ℤ dot t.p1 p
  pub in2 : pos 0 ≤ℤ dot t.p2 p

-- ---- the axes: d, which is K times the coordinate s or −K times it, is not negative

abbrev along : Expr → Expr → Claim
along s d = record { given = (`0 :≤ s) ∷ []; goal = `0 :≤ d; cert = nat 1048576 ⊗ hyp 0 }

abbrev against : Expr → Expr → Claim
against s d = record { given = (s :< `0) ∷ []; goal = `0 :≤ d; cert = nat 1048576 ⊗ hyp 0 ⊕ nat 1048576 }

abbrev K⁺ : Expr
K⁺ = con (pos 1048576)

abbrev K⁻ : Expr
K⁻ = con (negsuc 1048575)

module _ (p : Vec3) where
  at_a0 : not_negative p.z ≡ true → pos 0 ≤ℤ dot a0 p
  at_a0 e = prove 3 (λ x y z. along z (`0 :* x :+ `0 :* y :+ K⁺ :* z)) refl p.x p.y p.z (le_yes e)

  at_a1 : not_negative p.x ≡ true → pos 0 ≤ℤ dot a1 p
  at_a1 e = prove 3 (λ x y z. along x (K⁺ :* x :+ `0 :* y :+ `0 :* z)) refl p.x p.y p.z (le_yes e)

  at_a2 : not_negative p.y ≡ true → pos 0 ≤ℤ dot a2 p
  at_a2 e = prove 3 (λ x y z. along y (`0 :* x :+ K⁺ :* y :+ `0 :* z)) refl p.x p.y p.z (le_yes e)

  at_a3 : not_negative p.x ≡ false → pos 0 ≤ℤ dot a3 p
  at_a3 e = prove 3 (λ x y z. against x (K⁻ :* x :+ `0 :* y :+ `0 :* z)) refl p.x p.y p.z (no_le e)

  at_a4 : not_negative p.y ≡ false → pos 0 ≤ℤ dot a4 p
  at_a4 e = prove 3 (λ x y z. against y (`0 :* x :+ K⁻ :* y :+ `0 :* z)) refl p.x p.y p.z (no_le e)

  at_a5 : not_negative p.z ≡ false → pos 0 ≤ℤ dot a5 p
  at_a5 e = prove 3 (λ x y z. against z (`0 :* x :+ `0 :* y :+ K⁻ :* z)) refl p.x p.y p.z (no_le e)

-- ---- the root

by_signs : (p : Vec3) (z y x : Bool) → not_negative p.z ≡ z → not_negative p.y ≡ y → not_negative p.x ≡ x
    → Inside p (root_trixel (cond z (north_root x y) (south_root x y)))
unfolding root_trixel
by_signs p true true true z y x = record { in0 = at_a2 p y; in1 = at_a0 p z; in2 = at_a1 p x }
by_signs p true true false z y x = record { in0 = at_a3 p x; in1 = at_a0 p z; in2 = at_a2 p y }
by_signs p true false true z y x = record { in0 = at_a1 p x; in1 = at_a0 p z; in2 = at_a4 p y }
by_signs p true false false z y x = record { in0 = at_a4 p y; in1 = at_a0 p z; in2 = at_a3 p x }
by_signs p false true true z y x = record { in0 = at_a1 p x; in1 = at_a5 p z; in2 = at_a2 p y }
by_signs p false true false z y x = record { in0 = at_a2 p y; in1 = at_a5 p z; in2 = at_a3 p x }
by_signs p false false true z y x = record { in0 = at_a4 p y; in1 = at_a5 p z; in2 = at_a1 p x }
by_signs p false false false z y x = record { in0 = at_a3 p x; in1 = at_a5 p z; in2 = at_a4 p y }

pub root_inside : (p : Vec3) → Inside p (root_trixel (root_number p))
unfolding root_number
root_inside p = by_signs p (not_negative p.z) (not_negative p.y) (not_negative p.x) refl refl refl

-- ---- a child

negated_inside : (c p : Vec3) → not_negative (dot c p) ≡ false → pos 0 ≤ℤ dot (minus c) p
negated_inside c p e = prove 6
    (λ a b c x y z. record {
      given = (a :* x :+ b :* y :+ c :* z :< `0) ∷ [];
      goal = `0 :≤ :neg a :* x :+ :neg b :* y :+ :neg c :* z;
      cert = hyp 0 ⊕ nat 1;
    })
    refl c.x c.y c.z p.x p.y p.z (no_le e)

by_tests : (p : Vec3) (t : Trixel) (c : Cut) (b0 b1 b2 : Bool) → not_negative (dot c.c0 p) ≡ b0 → not_negative (dot c.c1 p) ≡ b1 → not_negative (dot c.c2 p) ≡ b2
    → Inside p t → Inside p (child_of (cond b0 0 (cond b1 1 (cond b2 2 3))) t c)
by_tests p t c true b1 b2 e0 e1 e2 h = record { in0 = le_yes e0; in1 = h.in1; in2 = h.in2 }
by_tests p t c false true b2 e0 e1 e2 h = record { in0 = le_yes e1; in1 = h.in2; in2 = h.in0 }
by_tests p t c false false true e0 e1 e2 h = record { in0 = le_yes e2; in1 = h.in0; in2 = h.in1 }
by_tests p t c false false false e0 e1 e2 h = record { in0 = negated_inside c.c0 p e0; in1 = negated_inside c.c1 p e1; in2 = negated_inside c.c2 p e2 }

pub child_inside : (p : Vec3) (t : Trixel) → Inside p t → Inside p (child (digit p t) t)
unfolding child digit
child_inside p t h = by_tests p t (cut t) _ _ _ refl refl refl h

-- ---- the trixel of a point's identifier

small_digit : (a b c : Bool) → cond a 0 (cond b 1 (cond c 2 3)) < 4
small_digit true b c = lit< tt
small_digit false true c = lit< tt
small_digit false false true = lit< tt
small_digit false false false = lit< tt

pub digit_small : (p : Vec3) (t : Trixel) → digit p t < 4
unfolding digit
digit_small p t = small_digit (not_negative (dot (cut t).c0 p)) (not_negative (dot (cut t).c1 p)) (not_negative (dot (cut t).c2 p))

-- the trixel of 4·i + k is the child number k of that of i
pub child_trixel : (m i k : ℕ) → k < 4 → trixel (suc m) (4 * i + k) ≡ child k (trixel m i)
unfolding trixel
child_trixel m i k h =
    let a : (4 * i + k) % 4 ≡ k = omega arith in
    let b : (4 * i + k) / 4 ≡ i = omega arith in
    λ j. child (a j) (trixel m (b j))
