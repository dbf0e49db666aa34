-- A region's prepared halfspaces as a program keeps them. Document 01, 'Classifying'.
--   halfspaces_in p, ends_in p   the two lists, without the places behind them
--   HasRoom p                    the counts are within the arrays
--   ReadyRegion p                some region was prepared to them
--   ClassedBy t p c              c is the class of t for every region that was prepared to them
use Rattle.std.specs.Prelude.{ℕ, ◌≤◌, List, take}
use Rattle.mesh.specs.declared.Trixel.{Trixel}
use Rattle.classify.specs.declared.Class.{Class}
use Rattle.classify_prepared.specs.declared.PreparedHalfspace.{PreparedHalfspace}
use Rattle.classify_prepared.specs.declared.prepared_region.HalfspaceLists.{HalfspaceLists}
use Rattle.classify_prepared.specs.PreparedLists.{Ready, Classed}

module _ {H C : ℕ} where
  abbrev pub halfspaces_in : HalfspaceLists H C → List PreparedHalfspace
  halfspaces_in p = take p.count p.halfspaces

  abbrev pub ends_in : HalfspaceLists H C → List ℕ
  ends_in p = take p.convexes p.ends

  abbrev pub HasRoom : HalfspaceLists H C → Type 0
  HasRoom p = (p.count ≤ H) × (p.convexes ≤ C)

  abbrev pub ReadyRegion : HalfspaceLists H C → Type 0
  ReadyRegion p = Ready (halfspaces_in p) (ends_in p)

  abbrev pub ClassedBy : Trixel → HalfspaceLists H C → Class → Type 0
  ClassedBy t p c = Classed t (halfspaces_in p) (ends_in p) c
