-- The size of a region that grows at its end. Document 01, 'Regions', the stated limits: the size decides them as the region itself does (proofs/CountLaws).
--   region_size g          three counts: convexes, halfspaces in the last one, halfspaces in all
--   add_convex k           the size with a new convex, or the refusal 7
--   add_halfspace k h      the size with the halfspace h in the last convex, or the first refusal: 7, 8, 9
use Rattle.std.specs.Prelude.{◌+◌, ◌&&◌, ltb, length}
use Rattle.answer.specs.Answer.{Answer, gives, check, Crowd, Vector, Offset}
use Rattle.vector.specs.Vectors.{is_vector}
use Rattle.region.specs.declared.Halfspace.{Halfspace}
use Rattle.region.specs.Regions.{Region}
use Rattle.region.specs.Building.{last_convex, total, is_offset}
use Rattle.region_rows.specs.declared.counts.RegionSize.{RegionSize}

abbrev pub region_size : Region → RegionSize
region_size g = record { convexes = length g; last = length (last_convex g); all = total g }

unfoldable pub add_convex : RegionSize → Answer RegionSize
add_convex k = check Crowd (ltb k.convexes 64) (gives (record { convexes = k.convexes + 1; last = 0; all = k.all }))

unfoldable pub add_halfspace : RegionSize → Halfspace → Answer RegionSize
add_halfspace k h =
    check Crowd (ltb k.last 100 && ltb k.all 512)
    (check Vector (is_vector h.n) (check Offset (is_offset h.d) (gives (record { convexes = k.convexes; last = k.last + 1; all = k.all + 1 }))))
