-- What the tests at the start of a jump say: a pointing, numbers that follow it, and how large they are. Assumes nothing.
use Prim.Native.Nat.{ℕ, ◌^◌}
use mathlib.Core.Path.{◌≡◌, refl}
use mathlib.Core.Bool.{Bool, true, ◌&&◌}
use mathlib.Core.List.{[], ◌∷◌}
use lib.Dec.{leb→le}
use lib.IntN.{ℤ, pos, negsuc, neg_ℤ, ◌+ℤ◌, ◌-ℤ◌, ◌*ℤ◌}
use lib.Signed.{le_z, ◌≤ℤ◌, le_z_yes}
use Rattle.algebra.proofs.Ring.{Expr, con, ◌:+◌, ◌:-◌, ◌:*◌, :neg}
use Rattle.algebra.proofs.Claim.{◌:≤◌, nat, hyp, ◌⊕◌, ◌⊗◌, prove}
use Rattle.algebra.proofs.Inequalities.{`0}
use Rattle.algebra.proofs.Order.{≤ℤ-trans}
use Rattle.algebra.proofs.Sizes.{Upto}
use Rattle.algebra.proofs.Tests.{and_left, and_right, le_yes}
use Rattle.algebra.proofs.Vec.{V3}
use Rattle.jump.proofs.Jump.{Size, det}
use Rattle.jump.proofs.JumpInvariant.{pushed}
use Rattle.jump.proofs.JumpShape.{Corner}
use Rattle.jump.proofs.JumpVolume.{Shape, cross_long}
use Rattle.jump.proofs.Lengths.{Long, difference_of, flip, long_dot}
use Rattle.jump.proofs.JumpLevel.{Pointing}
use Rattle.jump.proofs.JumpConstants.{δ, edge_at, constants_at}
use Rattle.jump.proofs.UnitLaws.{three}
use Rattle.vector.specs.declared.Vec3.{Vec3}
use Rattle.vector.specs.Numbers.{K, between}
use Rattle.vector.specs.Vectors.{is_vector}
use Rattle.vector.specs.Vectors as rule

-- ---- a pointing

abbrev inside : ℤ → Bool
inside z = between (neg_ℤ K) K z

size_tested : (z : ℤ) → inside z ≡ true → Size K z
size_tested z e = record { low = le_yes (and_left (le_z (neg_ℤ K) z) (le_z z K) e); high = le_yes (and_right (le_z (neg_ℤ K) z) (le_z z K) e) }

pub pointing : (p : Vec3) → is_vector p ≡ true → Pointing K (three p)
unfolding is_vector
pointing p e =
    let low : Bool = le_z ((K -ℤ pos 2) *ℤ (K -ℤ pos 2)) (rule.dot p p) in
    let high : Bool = le_z (rule.dot p p) ((K +ℤ pos 2) *ℤ (K +ℤ pos 2)) in
    let small : inside p.x && inside p.y && inside p.z ≡ true = and_left (inside p.x && inside p.y && inside p.z) (low && high) e in
    let long : low && high ≡ true = and_right (inside p.x && inside p.y && inside p.z) (low && high) e in
    let xy : inside p.x && inside p.y ≡ true = and_left (inside p.x && inside p.y) (inside p.z) small in
    record {
      x = size_tested p.x (and_left (inside p.x) (inside p.y) xy);
      y = size_tested p.y (and_right (inside p.x) (inside p.y) xy);
      z = size_tested p.z (and_right (inside p.x && inside p.y) (inside p.z) small);
      least = le_yes (and_left low high long);
      most = le_yes (and_right low high long);
    }

-- ---- sizes

pub upto_of : (m : ℕ) (z : ℤ) → pos 0 ≤ℤ z → z ≤ℤ pos m → Upto m z
upto_of m (pos a) h k = record { le = leb→le a m k.le }
upto_of m (negsuc a) h k = absurd h.le

-- a pointing that is pushed outward is hardly longer
pushed_long : (p : V3) → Pointing K p → Long (K +ℤ pos 18) (pushed δ p)
pushed_long p pt = record {
  nn = le_z_yes tt;
  square = prove 4
      (λ k x y z. record {
        given = (x :* x :+ y :* y :+ z :* z :≤ (k :+ `2) :* (k :+ `2)) ∷ (x :≤ k) ∷ (y :≤ k) ∷ (:neg k :≤ z) ∷ (`0 :≤ k) ∷ [];
        goal = (x :+ `5) :* (x :+ `5) :+ (y :+ `5) :* (y :+ `5) :+ (z :- `5) :* (z :- `5) :≤ (k :+ con (pos 18)) :* (k :+ con (pos 18));
        cert = hyp 0 ⊕ nat 10 ⊗ (hyp 1 ⊕ hyp 2 ⊕ hyp 3) ⊕ nat 2 ⊗ hyp 4 ⊕ nat 245;
      })
      refl K p.x p.y p.z pt.most pt.x.high pt.y.high pt.z.low (le_z_yes tt);
}
  where
    `2 : Expr
    `2 = con (pos 2)

    `5 : Expr
    `5 = con (pos 5)

-- the volume of two corners of an entry and a pointing
volume_most : (a b p : V3) → Corner K a → Long (pos (edge_at 0)) (difference_of a b) → Pointing K p → det a b (pushed δ p) ≤ℤ pos 665673087897583320
unfolding constants_at
volume_most a b p v e pt = ≤ℤ-trans (long_dot {b = K +ℤ pos 18} (cross_long {l = K +ℤ pos 1} a b (record { nn = le_z_yes tt; square = v.most }) (flip a b e)) (pushed_long p pt)).high (le_z_yes tt)

-- the sum of the three numbers at the start
pub sum_most : (v0 v1 v2 p : V3) → Shape K (pos (edge_at 0)) v0 v1 v2 → Pointing K p
    → (det v1 v2 (pushed δ p) +ℤ det v2 v0 (pushed δ p) +ℤ det v0 v1 (pushed δ p)) ≤ℤ pos (2 ^ 61)
sum_most v0 v1 v2 p t pt = ≤ℤ-trans {b = pos 665673087897583320 +ℤ pos 665673087897583320 +ℤ pos 665673087897583320}
    (prove 4 (λ a b c m. record { given = (a :≤ m) ∷ (b :≤ m) ∷ (c :≤ m) ∷ []; goal = a :+ b :+ c :≤ m :+ m :+ m; cert = hyp 0 ⊕ hyp 1 ⊕ hyp 2 }) refl
    (det v1 v2 (pushed δ p)) (det v2 v0 (pushed δ p)) (det v0 v1 (pushed δ p)) (pos 665673087897583320)
    (volume_most v1 v2 p t.corner1 t.edge12 pt) (volume_most v2 v0 p t.corner2 t.edge20 pt) (volume_most v0 v1 p t.corner0 t.edge01 pt))
    (le_z_yes tt)
