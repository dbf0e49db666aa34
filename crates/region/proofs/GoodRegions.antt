-- The region of an accepted file is good: every direction is a vector and every offset is within ±K, since it is within all limits. Assumes nothing.
--   good g          every direction is a vector and every offset within ±K
use Prim.Native.Nat.{ℕ}
use mathlib.Core.Path.{◌≡◌, refl}
use mathlib.Core.Bool.{Bool, true, ◌&&◌}
use mathlib.Core.List.{List, [], ◌∷◌}
use Rattle.algebra.specs.Lists.{every}
use Rattle.algebra.proofs.Tests.{and_both}
use Rattle.vector.specs.Vectors.{is_vector}
use Rattle.region.specs.declared.Halfspace.{Halfspace}
use Rattle.region.specs.Regions.{Convex, Region}
use Rattle.region.specs.Building.{is_offset}
use Rattle.region.specs.Reader.{File, Accepted}
use Rattle.region.proofs.ReadBack.{GoodConvex, GoodConvexes}
use Rattle.region.proofs.RowsBack.{accepted_within_limits}

abbrev pub good_halfspace : Halfspace → Bool
good_halfspace h = is_vector h.n && is_offset h.d

unfoldable pub good_convex : Convex → Bool
good_convex c = every good_halfspace c

unfoldable pub good : Region → Bool
good g = every good_convex g

good_convex_law : (c : Convex) → GoodConvex c → good_convex c ≡ true
unfolding good_convex every
good_convex_law [] f = refl
good_convex_law (h ∷ c) f = and_both (and_both f.0.vector f.0.offset) (good_convex_law c f.1)

good_convexes : (g : Region) → GoodConvexes g → good g ≡ true
unfolding good every
good_convexes [] f = refl
good_convexes (c ∷ g) f = and_both (good_convex_law c f.0) (good_convexes g f.3)

pub accepted_good : (f : List ℕ) (x : File) → Accepted f x → good x.region ≡ true
accepted_good f x a = good_convexes x.region (accepted_within_limits f x a).good
