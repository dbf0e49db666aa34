-- What goes from a trixel to its children.
--   OtherRays t j      j has the second and the third ray of t
--   ClassifiedOf ..    j has the class of t for every region that was prepared to p, and these rays
--   CutParts t c r j   what the children of t are made of: c is the cut of t, and r and j have its rays
use Rattle.std.specs.Prelude.{◌≡◌}
use Rattle.vector.specs.declared.Vec3.{Vec3}
use Rattle.mesh.specs.declared.Trixel.{Trixel}
use Rattle.mesh.specs.declared.Cut.{Cut}
use Rattle.mesh.specs.Trixels.{cut}
use Rattle.mesh_trixels.specs.Corners.{SmallTrixel, SmallCut}
use Rattle.classify.specs.Shape.{ray0, ray1, ray2}
use Rattle.classify_prepared.specs.declared.prepared_region.HalfspaceLists.{HalfspaceLists}
use Rattle.classify_prepared.specs.PreparedRegions.{ClassedBy}
use Rattle.covering_walk.specs.declared.ClassifiedTrixel.{ClassifiedTrixel}

pub record OtherRays (t : Trixel) (j : ClassifiedTrixel) : Type 0 where
  pub second : j.second ≡ ray1 t
  pub third : j.third ≡ ray2 t

pub record ClassifiedOf (t : Trixel) (p : HalfspaceLists 512 65) (j : ClassifiedTrixel) : Type 0 where
  pub class : ClassedBy t p j.class
  pub rays : OtherRays t j

pub record CutParts (t : Trixel) (c : Cut) (r : Vec3) (j : ClassifiedTrixel) : Type 0 where
  pub small : SmallTrixel t
  pub cut : c ≡ cut t
  pub small_cut : SmallCut c
  pub first : r ≡ ray0 t
  pub others : OtherRays t j
