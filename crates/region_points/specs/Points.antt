-- A point against rows, one after the other, as the point test scans them. Document 01, 'Regions': a convex holds a point when all its halfspaces do, a
-- region when at least one of its convexes does. That the scan of a region's rows is the region's own answer: proofs/PointLaws.
--   scanned s number h    the state after a row of the convex `number`; h: its halfspace holds the point
--   scan p n s rs         the scan of the next n rows, which rs begins with, from the state s: the convex of the last row, whether it holds p so far,
--                         whether an earlier one does
--   rows_hold p n rs       n rows from the beginning
use Rattle.std.specs.Prelude.{ℕ, zero, suc, Bool, true, false, cond, ◌&&◌, ◌||◌, List, get_or, drop, ℤ, pos}
use Rattle.vector.specs.declared.Vec3.{Vec3}
use Rattle.vector.specs.Numbers.{eq_z}
use Rattle.region.specs.Regions.{holds_halfspace}
use Rattle.region.specs.Rows.{halfspace_at}
use Rattle.region_points.specs.declared.Scan.{Scan}

abbrev pub state : ℤ → Bool → Bool → Scan
state number all any = record { number = number; all = all; any = any }

abbrev pub scanned : Scan → ℤ → Bool → Scan
scanned s number here = cond (eq_z number s.number) (state s.number (s.all && here) s.any) (state number here (s.any || s.all))

unfoldable pub scan : Vec3 → ℕ → Scan → List ℤ → Bool
scan p zero s rs = s.any || s.all
scan p (suc n) s rs = scan p n (scanned s (get_or rs 0 (pos 0)) (holds_halfspace (halfspace_at rs) p)) (drop 5 rs)

unfoldable pub rows_hold : Vec3 → ℕ → List ℤ → Bool
rows_hold p n rs = scan p n (state (pos 0) true false) rs
