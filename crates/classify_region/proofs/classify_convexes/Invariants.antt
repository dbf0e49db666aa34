-- `classify_region::classify_convexes` is the region's class: the class so far and that of what is left to be scanned together give it (ScanLaws).
-- Assumes nothing.
use Rattle.classify_region.proofs.ScanLaws.{InConvex, InRegion}
use Rattle.classify_region.proofs.classify_convexes.Given as goal

abbrev pub invariant-halfspaces : goal.invariant-halfspaces
invariant-halfspaces l = InConvex l.t l.q-items l.q-index l.class

abbrev pub invariant-convexes : goal.invariant-convexes
invariant-convexes l = InRegion l.t l.halfspaces l.ends l.start l.end-index l.settled
