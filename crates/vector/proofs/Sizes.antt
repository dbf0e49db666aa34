-- How large the components of a vector get: code needs it for sums and products that fit, the rules do not name it. Assumes nothing.
--   AtMost n v                each component is at most n in size
--   Small v                   each is within ±K, as in every corner and normal of the mesh (the laws: proofs/SizeLaws)
use Prim.Native.Nat.{ℕ}
use Rattle.algebra.proofs.Sizes.{Upto}
use Rattle.vector.specs.declared.Vec3.{Vec3}
use Rattle.vector.specs.Numbers.{Kℕ}

pub record AtMost (n : ℕ) (v : Vec3) : Type 0 where
  pub x : Upto n v.x
  pub y : Upto n v.y
  pub z : Upto n v.z

abbrev pub Small : Vec3 → Type 0
Small v = AtMost Kℕ v
