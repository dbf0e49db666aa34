-- What holds of a trixel below S0 i levels below depth 3, for i from 0 to 4, and of its bends a; g is the volume of the trixel of depth 3 above it.
--   Limits, limits_at i   how long edges are at most; the least part of g that the volume is, in 2⁻³⁰; the largest bend; how far 8 (2 K − n) is behind it at
--                        most, and how far ahead
--   lack s               2 K − n, with n the root of s·s
--   Facts i a g x        all of it; that it holds of every such trixel: proofs/Known and proofs/Computed
use Prim.Native.Nat.{ℕ, zero, suc}
use lib.IntN.{ℤ, pos, neg_ℤ, nat_abs, ◌-ℤ◌, ◌*ℤ◌}
use lib.Signed.{◌≤ℤ◌}
use Rattle.jump.proofs.Jump.{det}
use Rattle.jump.proofs.JumpVolume.{Shape}
use Rattle.jump.proofs.UnitLaws.{three}
use Rattle.vector.specs.declared.Vec3.{Vec3}
use Rattle.vector.specs.Numbers.{K, root}
use Rattle.vector.specs.Vectors.{plus, dot}
use Rattle.mesh.specs.declared.Trixel.{Trixel}
use Rattle.mesh_bends.specs.declared.Bends.{Bends}

pub record Limits : Type 0 where
  pub edge : ℕ
  pub part : ℕ
  pub bend : ℕ
  pub behind : ℕ
  pub ahead : ℕ

abbrev pub limits : ℕ → ℕ → ℕ → ℕ → ℕ → Limits
limits edge part bend behind ahead = record { edge = edge; part = part; bend = bend; behind = behind; ahead = ahead }

abbrev pub limits_at : ℕ → Limits
limits_at zero = limits 605396 1073741824 714225 0 47
limits_at (suc zero) = limits 316158 279038656 191620 114 331
limits_at (suc (suc zero)) = limits 159907 70437463 48660 368 207
limits_at (suc (suc (suc zero))) = limits 80186 17651308 12360 233 70
limits_at (suc (suc (suc (suc i)))) = limits 40122 4415343 3140 96 32

abbrev pub lack : Vec3 → ℤ
lack s = pos 2 *ℤ K -ℤ pos (root (nat_abs (dot s s)))

-- the bend a of an edge whose corners have the sum s
pub record Fit (l : Limits) (a : ℤ) (s : Vec3) : Type 0 where
  pub least : pos 0 ≤ℤ a
  pub most : a ≤ℤ pos l.bend
  pub behind : neg_ℤ (pos l.behind) ≤ℤ (pos 8 *ℤ lack s -ℤ a)
  pub ahead : (pos 8 *ℤ lack s -ℤ a) ≤ℤ pos l.ahead

-- where the corners of S0 are
pub record Octant (v : Vec3) : Type 0 where
  pub x : pos 0 ≤ℤ v.x
  pub y : pos 0 ≤ℤ v.y
  pub z : v.z ≤ℤ pos 0

pub record Facts (i : ℕ) (a : Bends) (g : ℤ) (x : Trixel) : Type 0 where
  pub shape : Shape K (pos (limits_at i).edge) (three x.v0) (three x.v1) (three x.v2)
  pub large : (pos (limits_at i).part *ℤ g) ≤ℤ (pos 1073741824 *ℤ det (three x.v0) (three x.v1) (three x.v2))
  pub octant0 : Octant x.v0
  pub octant1 : Octant x.v1
  pub octant2 : Octant x.v2
  pub fit0 : Fit (limits_at i) a.a0 (plus x.v1 x.v2)
  pub fit1 : Fit (limits_at i) a.a1 (plus x.v0 x.v2)
  pub fit2 : Fit (limits_at i) a.a2 (plus x.v0 x.v1)
