-- `covering_calls::visit_each_root` visits the roots one after the other. Assumes nothing.
use Rattle.covering_walk.proofs.VisitLaws.{Rooting}
use Rattle.covering_calls.proofs.visit_each_root.Given as goal

abbrev pub invariant-loop-k : goal.invariant-loop-k
invariant-loop-k l =
    Rooting l.depth l.region l.active l.left l.span l.initial.s l.initial.out l.k l.s l.out
