-- The bounding cap of a trixel as it is stored. Document 01, 'Classifying'.
--   IsBoundingCap t m           m has b of t, and where b is ahead of the rays E, b·b − E² and their clearance: IsReach t b c
--   root_above s                 a number whose square is not below s, for s up to 2⁴²: the first of 256, 512, 1024 and so on, or 2²¹
--                               (proofs/ClearanceLaws)
--   clearance_of rest e          the bound beyond which every halfspace is settled (proofs/ClearanceLaws)
--   cap_ahead b e, cap_behind b   what is stored of b where it is ahead of the rays and reaches e, and where it is not ahead
use Rattle.std.specs.Prelude.{ℕ, zero, suc, ◌*◌, ◌^◌, ◌≡◌, true, false, cond, ltb, Some, None, MatchOption, ℤ, pos, nat_abs, ◌-ℤ◌}
use Rattle.std.specs.Int.Signed.{le_z}
use Rattle.vector.specs.declared.Vec3.{Vec3}
use Rattle.vector.specs.Vectors.{dot}
use Rattle.mesh.specs.declared.Trixel.{Trixel}
use Rattle.classify_cap.specs.declared.BoundingCap.{BoundingCap}
use Rattle.classify_cap.specs.declared.CapReach.{CapReach}
use Rattle.classify.specs.Shape.{square, ahead, b_of, EOf}

-- the first of r, 2r, 4r and so on whose square is above s, or that after n steps
unfoldable pub first_above : ℕ → ℕ → ℕ → ℕ
first_above zero r s = r
first_above (suc n) r s = cond (ltb s (r * r)) r (first_above n (2 * r) s)

unfoldable pub root_above : ℕ → ℕ
root_above s = first_above 13 256 s

unfoldable pub clearance_of : ℤ → ℕ → ℤ
clearance_of rest e = cond (le_z rest (pos 0)) (pos (2 ^ 62)) (cond (ltb e (root_above (nat_abs rest))) (pos (2 ^ 62)) (pos (2097152 * root_above (nat_abs rest))))

pub record IsReach (t : Trixel) (v : Vec3) (c : CapReach) : Type 0 where
  pub b : v ≡ b_of t
  pub ahead : ahead (b_of t) t ≡ true
  pub reach : c.reach ≡ EOf t
  pub rest : c.rest ≡ dot (b_of t) (b_of t) -ℤ square (EOf t)
  pub clearance : c.clearance ≡ clearance_of c.rest (nat_abs c.reach)

pub record IsBoundingCap (t : Trixel) (m : BoundingCap) : Type 0 where
  pub b : m.b ≡ b_of t
  pub ahead : MatchOption m.ahead (ahead (b_of t) t ≡ false) (λ c. IsReach t m.b c)

abbrev pub cap_ahead : Vec3 → ℕ → BoundingCap
cap_ahead b e = record {
  b = b;
  ahead = Some (record { reach = pos e; rest = dot b b -ℤ square (pos e); clearance = clearance_of (dot b b -ℤ square (pos e)) e });
}

abbrev pub cap_behind : Vec3 → BoundingCap
cap_behind b = record { b = b; ahead = None }
