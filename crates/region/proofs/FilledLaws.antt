-- No convex of an accepted file is empty, and there are 1 to 64 of them, since it is within all limits. Assumes nothing.
--   Filled g          every convex has a halfspace
use Prim.Native.Nat.{ℕ, ◌≤◌, ◌<◌}
use mathlib.Core.List.{List, [], ◌∷◌}
use lib.ListN.{length}
use Rattle.region.specs.Regions.{Region}
use Rattle.region.specs.Reader.{File, Accepted}
use Rattle.region.proofs.ReadBack.{GoodConvexes}
use Rattle.region.proofs.RowsBack.{accepted_within_limits}

abbrev pub Filled : Region → Type 0
Filled [] = Unit {0}
Filled (c ∷ cs) = (0 < length c) × Filled cs

none_empty : (g : Region) → GoodConvexes g → Filled g
none_empty [] f = tt
none_empty (c ∷ g) f = (f.1, none_empty g f.3)

pub accepted_filled : (f : List ℕ) (x : File) → Accepted f x → (0 < length x.region) × Filled x.region
accepted_filled f x a = let w = accepted_within_limits f x a in (w.some, none_empty x.region w.good)

pub accepted_few : (f : List ℕ) (x : File) → Accepted f x → length x.region ≤ 64
accepted_few f x a = (accepted_within_limits f x a).convexes
