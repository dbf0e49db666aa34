-- Halfspaces, convexes and regions, and which points they hold. Document 01, 'Regions'; 3.1 to 3.3 and 4.1 of document 000; document 02, F-5.
-- A halfspace has a direction n and an offset d. A convex is a list of halfspaces, a region a list of convexes.
--   halfspace_from n d                                the halfspace of a direction and an offset
--   held_side s t                                     the comparison of 4.1, in one place, closed by F-5: s ≥ t
--   holds_halfspace h p, holds_convex c p, holds g p   the point p is in it
use Rattle.std.specs.Prelude.{Bool, List, ℤ, ◌*ℤ◌}
use Rattle.std.specs.Int.Signed.{le_z}
use Rattle.algebra.specs.Lists.{every, some}
use Rattle.vector.specs.declared.Vec3.{Vec3}
use Rattle.vector.specs.Numbers.{K}
use Rattle.vector.specs.Vectors.{dot}
use Rattle.region.specs.declared.Halfspace.{Halfspace}

abbrev pub Convex : Type 0
Convex = List Halfspace

abbrev pub Region : Type 0
Region = List Convex

abbrev pub halfspace_from : Vec3 → ℤ → Halfspace
halfspace_from n d = record { n = n; d = d }

abbrev pub held_side : ℤ → ℤ → Bool
held_side s t = le_z t s

-- n·p ≥ d·K
abbrev pub holds_halfspace : Halfspace → Vec3 → Bool
holds_halfspace h p = held_side (dot h.n p) (h.d *ℤ K)

unfoldable pub holds_convex : Convex → Vec3 → Bool
holds_convex c p = every (λ h. holds_halfspace h p) c

unfoldable pub holds : Region → Vec3 → Bool
holds g p = some (λ c. holds_convex c p) g
