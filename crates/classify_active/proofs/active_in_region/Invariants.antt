-- `classify_active::active_in_region` stores what is active of a region, convex after convex. Assumes nothing.
use Rattle.classify_prepared.specs.PreparedRegions.{HasRoom}
use Rattle.classify_active.proofs.ActiveRegionLaws.{InRegionSearch}
use Rattle.classify_active.proofs.active_in_region.Given as goal

abbrev pub invariant-loop-end : goal.invariant-loop-end
invariant-loop-end l = HasRoom l.active × InRegionSearch l.r l.halfspaces l.ends l.start l.end-index l.active
