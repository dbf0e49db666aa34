-- What the steps of a lookup give. Document 01, 'Pointings and the mesh': the lookup, and the table that deeper lookups begin at.
--   child_at d c       the digit d with the corners c
--   digit_by p a b c   the child that p goes to, by the normals a, b and c of the cuts turned round
--   ChildStep p c r   r has the digit of p in the trixel with corners c, and the corners of that child
--   Descent p c i n r  r is the trixel n levels below that with the corners c and the identifier i, on p's way: the descent goes on from it
--   TableStart p k s  s has the entry of S0's that, turned to the root k, is the trixel of depth 3 on p's way, and p turned back: the descent goes on as from k
use Rattle.std.specs.Prelude.{ℕ, suc, ◌+◌, ◌*◌, ◌^◌, ◌<◌, ◌≡◌, cond, pos}
use Rattle.std.specs.Int.Signed.{le_z}
use Rattle.vector.specs.declared.Vec3.{Vec3}
use Rattle.vector.specs.Vectors.{dot}
use Rattle.vector.proofs.Sizes.{Small}
use Rattle.mesh.specs.declared.Corners.{Corners}
use Rattle.mesh.specs.Trixels.{root_trixel, child}
use Rattle.mesh.specs.Identifiers.{corners_of}
use Rattle.mesh.specs.Lookup.{digit, descend}
use Rattle.mesh.specs.Rotations.{turned}
use Rattle.mesh_trixels.specs.Corners.{triple_of, bare, SmallCorners}
use Rattle.mesh_jump.specs.Jumps.{Entry}
use Rattle.mesh_lookup.specs.declared.Child.{Child}
use Rattle.mesh_lookup.specs.declared.LocatedTrixel.{LocatedTrixel}
use Rattle.mesh_lookup.specs.declared.TableTrixel.{TableTrixel}

abbrev pub child_at : ℕ → Corners → Child
child_at d c = record { digit = d; corners = c }

abbrev pub digit_by : Vec3 → Vec3 → Vec3 → Vec3 → ℕ
digit_by p a b c = cond (le_z (dot a p) (pos 0)) 0 (cond (le_z (dot b p) (pos 0)) 1 (cond (le_z (dot c p) (pos 0)) 2 3))

pub record ChildStep (p : Vec3) (c : Corners) (r : Child) : Type 0 where
  pub is : r.digit ≡ digit p (bare c)
  pub child : r.corners ≡ corners_of (child (digit p (bare c)) (bare c))
  pub small : SmallCorners r.corners
  pub low : r.digit < 4

pub record Descent (p : Vec3) (c : Corners) (i n : ℕ) (r : LocatedTrixel) : Type 0 where
  pub is : r.id ≡ descend p n (bare c) i
  pub goes_on : (m : ℕ) → descend p m (bare r.corners) r.id ≡ descend p (n + m) (bare c) i
  pub small : SmallCorners r.corners
  pub room : (b : ℕ) → i < b → r.id < b * 4 ^ n

-- the corners of S0's, turned to the root k
abbrev pub turned_corners : ℕ → Corners → Corners
turned_corners k c = triple_of (turned k c.v0) (turned k c.v1) (turned k c.v2)

pub record TableStart (p : Vec3) (k : ℕ) (s : TableTrixel) : Type 0 where
  pub back : turned k s.pointing ≡ p
  pub pointing : Small s.pointing
  pub entry : Entry s.entry
  pub small : SmallCorners s.entry
  pub low : s.id < 256
  pub goes_on : (n : ℕ) → descend p n (bare (turned_corners k s.entry)) s.id ≡ descend p (suc (suc n)) (root_trixel k) (8 + k)
