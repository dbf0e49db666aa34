-- `classify_active::class_beside` is the class by the rays first for one convex of few halfspaces, and else by bounding caps. Assumes nothing.
use Rattle.std.proofs.Common.{arith, sym, subst}
use Rattle.classify_prepared.specs.PreparedLists.{ReadyConvex, ClassedConvex}
use Rattle.classify_region.proofs.ScanLaws.{at_end, only_ready, only_scan, only_end}
use Rattle.classify_active.proofs.class_beside.Goals as goal

pub classify_few-requires-clause-ready : goal.classify_few-requires-clause-ready
classify_few-requires-clause-ready c =
    subst ReadyConvex (sym c.halfspaces.ensures) (only_ready c.args.t.now (c.are_few.ensures c.if-are_few.true) c.requires.ready)

pub returns-then-are_few : goal.returns-then-are_few
returns-then-are_few c =
    only_end _ _ _ (only_scan c.args.t.now (c.are_few.ensures c.if-are_few.true)
    (at_end _ _ (subst (λ l. ClassedConvex c.args.t.now l c.classify_few.result) c.halfspaces.ensures c.classify_few.ensures))) (omega arith)
