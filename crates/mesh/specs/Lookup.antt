-- Lookup. Document 01, 'Pointings and the mesh': the root by the signs of x, y, z, then child by child.
--   root_number p     the number of the root that the signs of p give
--   digit p t        the child of t that p goes to: 0, 1, 2 by the first of C0·p, C1·p, C2·p that is not negative, else 3
--   descend p n t i  the identifier n levels below the trixel t, whose own identifier is i
--   identifier p d   the identifier of p at depth d
--   lookup p d       the answer: checks 5, 8
use Rattle.std.specs.Prelude.{ℕ, zero, suc, ◌+◌, ◌-◌, ◌*◌, Bool, true, false, cond, ℤ, pos}
use Rattle.std.specs.Int.Signed.{le_z}
use Rattle.vector.specs.declared.Vec3.{Vec3}
use Rattle.vector.specs.Numbers.{is_depth}
use Rattle.vector.specs.Vectors.{dot, is_vector}
use Rattle.answer.specs.Answer.{Answer, gives, check, Depth, Vector}
use Rattle.mesh.specs.declared.Trixel.{Trixel}
use Rattle.mesh.specs.declared.Cut.{Cut}
use Rattle.mesh.specs.Trixels.{cut, child, root_trixel}

abbrev pub not_negative : ℤ → Bool
not_negative z = le_z (pos 0) z

-- by x ≥ 0, y ≥ 0: N3, N2, N1, N0
abbrev pub north_root : Bool → Bool → ℕ
north_root true true = 7
north_root false true = 6
north_root false false = 5
north_root true false = 4

-- by x ≥ 0, y ≥ 0: S0, S1, S2, S3
abbrev pub south_root : Bool → Bool → ℕ
south_root true true = 0
south_root false true = 1
south_root false false = 2
south_root true false = 3

-- north if z ≥ 0
unfoldable pub root_number : Vec3 → ℕ
root_number p = cond (not_negative p.z) (north_root (not_negative p.x) (not_negative p.y)) (south_root (not_negative p.x) (not_negative p.y))

abbrev pub digit_by : Vec3 → Cut → ℕ
digit_by p k = cond (not_negative (dot k.c0 p)) 0 (cond (not_negative (dot k.c1 p)) 1 (cond (not_negative (dot k.c2 p)) 2 3))

unfoldable pub digit : Vec3 → Trixel → ℕ
digit p t = digit_by p (cut t)

unfoldable pub descend : Vec3 → ℕ → Trixel → ℕ → ℕ
descend p zero t i = i
descend p (suc n) t i = descend p n (child (digit p t) t) (4 * i + digit p t)

unfoldable pub identifier : Vec3 → ℕ → ℕ
identifier p d = descend p (d - 1) (root_trixel (root_number p)) (8 + root_number p)

unfoldable pub lookup : Vec3 → ℕ → Answer ℕ
lookup p d = check Depth (is_depth d) (check Vector (is_vector p) (gives (identifier p d)))
