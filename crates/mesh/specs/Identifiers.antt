-- Identifiers. Document 01, 'Pointings and the mesh': S is binary 10, N is 11, two bits a digit; depth 1 is a root.
--   identifier_at d i   i is an identifier of depth d: its highest set bit is bit 2·d + 1
--   identifiers_at d    all of them, in a row
--   depth_of i          the depth of the identifier i, 1 to 31; 0 where i is no identifier
--   trixel n i         the trixel of the identifier i, n levels below its root
--   corners i          the corners, to depth 12
use Rattle.std.specs.Prelude.{ℕ, zero, suc, ◌+◌, ◌-◌, ◌*◌, ◌/◌, ◌%◌, ◌^◌, Bool, ◌&&◌, List, leb, ltb}
use Rattle.algebra.specs.Lists.{numbers_from}
use Rattle.vector.specs.Numbers.{greatest}
use Rattle.answer.specs.Answer.{Answer, gives, check, Name}
use Rattle.mesh.specs.declared.Trixel.{Trixel}
use Rattle.mesh.specs.declared.Corners.{Corners}
use Rattle.mesh.specs.Trixels.{root_trixel, child}

abbrev pub identifier_at : ℕ → ℕ → Bool
identifier_at d i = leb (2 ^ (2 * d + 1)) i && ltb i (2 ^ (2 * d + 2))

abbrev pub identifiers_at : ℕ → List ℕ
identifiers_at d = numbers_from (2 ^ (2 * d + 1)) (2 ^ (2 * d + 1))

unfoldable pub depth_of : ℕ → ℕ
depth_of i = greatest (λ d. identifier_at d i) 31

abbrev pub is_identifier : ℕ → Bool
is_identifier i = ltb 0 (depth_of i)

-- the roots are 8 to 15, and the children of i are 4·i to 4·i + 3
unfoldable pub trixel : ℕ → ℕ → Trixel
trixel zero i = root_trixel (i - 8)
trixel (suc n) i = child (i % 4) (trixel n (i / 4))

abbrev pub corners_of : Trixel → Corners
corners_of t = record { v0 = t.v0; v1 = t.v1; v2 = t.v2 }

unfoldable pub corners : ℕ → Answer Corners
corners i = check Name (is_identifier i) (check Name (leb (depth_of i) 12) (gives (corners_of (trixel (depth_of i - 1) i))))
