-- A vector by the rule has components within ±K and a length within K ± 2. And vectors as the algebra has them. Assumes nothing.
use mathlib.Core.Path.{◌≡◌, refl}
use mathlib.Core.Bool.{Bool, true, ◌&&◌}
use lib.IntN.{pos, neg_ℤ, ◌+ℤ◌, ◌-ℤ◌, ◌*ℤ◌}
use lib.Signed.{le_z, ◌≤ℤ◌}
use Rattle.algebra.proofs.Ring.{◌:+◌, ◌:*◌, :neg}
use Rattle.algebra.proofs.Claim.{◌:≡◌, ring}
use Rattle.algebra.proofs.Tests.{and_left, and_right, le_yes}
use Rattle.algebra.proofs.Vec.{V3}
use Rattle.vector.specs.declared.Vec3.{Vec3}
use Rattle.vector.specs.Numbers.{K, between}
use Rattle.vector.specs.Vectors.{dot, minus, is_vector}
use Rattle.vector.proofs.Sizes.{Small}
use Rattle.vector.proofs.SizeLaws.{small_tested}

-- a vector as the algebra has it: `dot` and `cross` of the two are the same by computing
abbrev pub v3 : Vec3 → V3
v3 a = record { x = a.x; y = a.y; z = a.z }

-- (K − 2)² ≤ p·p ≤ (K + 2)²
pub record UnitLength (p : Vec3) : Type 0 where
  pub low : (pos 1048574 *ℤ pos 1048574) ≤ℤ dot p p
  pub high : dot p p ≤ℤ (pos 1048578 *ℤ pos 1048578)

module _ (p : Vec3) (e : is_vector p ≡ true) where
  abbrev in_x : Bool
  in_x = between (neg_ℤ K) K p.x

  abbrev in_y : Bool
  in_y = between (neg_ℤ K) K p.y

  abbrev in_z : Bool
  in_z = between (neg_ℤ K) K p.z

  abbrev at_least : Bool
  at_least = le_z ((K -ℤ pos 2) *ℤ (K -ℤ pos 2)) (dot p p)

  abbrev at_most : Bool
  at_most = le_z (dot p p) ((K +ℤ pos 2) *ℤ (K +ℤ pos 2))

  pub vector_small : Small p
  unfolding is_vector
  vector_small = small_tested p (and_left (in_x && in_y && in_z) (at_least && at_most) e)

  pub vector_unit_length : UnitLength p
  unfolding is_vector
  vector_unit_length =
      let l = and_right (in_x && in_y && in_z) (at_least && at_most) e in
      record { low = le_yes (and_left at_least at_most l); high = le_yes (and_right at_least at_most l) }

-- (−a)·p = −(a·p)
pub dot_minus : (a p : Vec3) → dot (minus a) p ≡ neg_ℤ (dot a p)
dot_minus a p = ring 6 (λ a b c x y z. :neg a :* x :+ :neg b :* y :+ :neg c :* z :≡ :neg (a :* x :+ b :* y :+ c :* z)) refl a.x a.y a.z p.x p.y p.z

pub dot_comm : (a b : Vec3) → dot a b ≡ dot b a
dot_comm a b = ring 6 (λ a b c x y z. a :* x :+ b :* y :+ c :* z :≡ x :* a :+ y :* b :+ z :* c) refl a.x a.y a.z b.x b.y b.z
