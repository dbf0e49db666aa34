-- Corners alone. Document 01, 'Pointings and the mesh': cutting makes midpoints and cuts from corners, so a descent can do without the parent's normals.
--   triple_of a b c   three corners
--   bare c           a trixel of which only the corners are known; cutting and descent look at nothing else (proofs/CornerLaws)
--   SmallCorners c   each component of each corner is within ±K
--   SmallTrixel t, SmallCut c   each component of each vector of a trixel, of a cut, is within ±K
use Rattle.std.specs.Prelude.{pos}
use Rattle.vector.specs.declared.Vec3.{Vec3}
use Rattle.vector.specs.Vectors.{vec}
use Rattle.vector.proofs.Sizes.{Small}
use Rattle.mesh.specs.declared.Trixel.{Trixel}
use Rattle.mesh.specs.declared.Cut.{Cut}
use Rattle.mesh.specs.declared.Corners.{Corners}

abbrev pub triple_of : Vec3 → Vec3 → Vec3 → Corners
triple_of a b c = record { v0 = a; v1 = b; v2 = c }

abbrev pub bare : Corners → Trixel
bare c =
    let none = vec (pos 0) (pos 0) (pos 0) in
    record { v0 = c.v0; v1 = c.v1; v2 = c.v2; p0 = none; p1 = none; p2 = none }

pub record SmallCorners (c : Corners) : Type 0 where
  pub v0 : Small c.v0
  pub v1 : Small c.v1
  pub v2 : Small c.v2

pub record SmallTrixel (t : Trixel) : Type 0 where
  pub v0 : Small t.v0
  pub v1 : Small t.v1
  pub v2 : Small t.v2
  pub p0 : Small t.p0
  pub p1 : Small t.p1
  pub p2 : Small t.p2

pub record SmallCut (c : Cut) : Type 0 where
  pub w0 : Small c.w0
  pub w1 : Small c.w1
  pub w2 : Small c.w2
  pub c0 : Small c.c0
  pub c1 : Small c.c1
  pub c2 : Small c.c2
