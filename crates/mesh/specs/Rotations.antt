-- Rotations. Document 02, F-6: the other seven roots are rotations of S0 with corner order kept, found by swapping and negating components.
-- A rotation is a permutation of the components with signs (`Rotation`, src/lib.rt): x and y are swapped or not, then each of x, y, z is negated or not.
--   rotation r         the rotation that takes S0 to the root number r
--   turned r a         the vector a, turned by it
--   turned_trixel r t   corners and normals of a trixel, turned, in their order
--   determinant f      the determinant of a map of vectors, from the images of the three unit vectors
--   Proper             statement: each of the eight has determinant 1, so none of them mirrors (proofs/RotationLaws)
--   Rotated            statement: at every depth the trixels of a root are those of S0, turned (proofs/Rotated)
use Rattle.std.specs.Prelude.{ℕ, ◌+◌, ◌*◌, ◌^◌, ◌<◌, ◌≡◌, Bool, true, false, cond, eqb, ℤ, pos, neg_ℤ}
use Rattle.vector.specs.declared.Vec3.{Vec3}
use Rattle.vector.specs.Vectors.{vec, dot, cross}
use Rattle.mesh.specs.declared.Trixel.{Trixel}
use Rattle.mesh.specs.declared.Rotation.{Rotation}
use Rattle.mesh.specs.Identifiers.{trixel}

abbrev pub swap_negate : Bool → Bool → Bool → Bool → Rotation
swap_negate s x y z = record { swaps = s; x = x; y = y; z = z }

-- by number, S0 to S3 and N0 to N3
unfoldable pub rotation : ℕ → Rotation
rotation r =
    cond (eqb r 0) (swap_negate false false false false) (cond (eqb r 1) (swap_negate true true false false)
    (cond (eqb r 2) (swap_negate false true true false) (cond (eqb r 3) (swap_negate true false true false)
    (cond (eqb r 4) (swap_negate false false true true) (cond (eqb r 5) (swap_negate true true true true)
    (cond (eqb r 6) (swap_negate false true false true) (swap_negate true false false true)))))))

abbrev pub negated_if : Bool → ℤ → ℤ
negated_if b a = cond b (neg_ℤ a) a

-- x and y swapped, then the signs
abbrev pub turned_by : Rotation → Vec3 → Vec3
turned_by k a = vec (negated_if k.x (cond k.swaps a.y a.x)) (negated_if k.y (cond k.swaps a.x a.y)) (negated_if k.z a.z)

abbrev pub turned : ℕ → Vec3 → Vec3
turned r a = turned_by (rotation r) a

abbrev pub turned_trixel : ℕ → Trixel → Trixel
turned_trixel r t = record {
  v0 = turned r t.v0;
  v1 = turned r t.v1;
  v2 = turned r t.v2;
  p0 = turned r t.p0;
  p1 = turned r t.p1;
  p2 = turned r t.p2;
}

abbrev pub determinant : (Vec3 → Vec3) → ℤ
determinant f = dot (f (vec (pos 1) (pos 0) (pos 0))) (cross (f (vec (pos 0) (pos 1) (pos 0))) (f (vec (pos 0) (pos 0) (pos 1))))

abbrev pub Proper : Type 0
Proper = (r : ℕ) → r < 8 → determinant (turned r) ≡ pos 1

-- the 4^n trixels n levels below S0 have the identifiers from 8·4^n on, those below the root number r from (8 + r)·4^n on
abbrev pub Rotated : Type 0
Rotated = (r n i : ℕ) → r < 8 → i < 4 ^ n → trixel n ((8 + r) * 4 ^ n + i) ≡ turned_trixel r (trixel n (8 * 4 ^ n + i))
