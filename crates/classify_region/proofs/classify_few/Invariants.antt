-- `classify_region::classify_few` is the class for a convex: the meet of its halfspaces' classes, one after the other. Assumes nothing.
use Rattle.classify_region.proofs.ScanLaws.{InConvex}
use Rattle.classify_region.proofs.classify_few.Given as goal

abbrev pub invariant-loop-q : goal.invariant-loop-q
invariant-loop-q l = InConvex l.t l.halfspaces l.q-index l.class
