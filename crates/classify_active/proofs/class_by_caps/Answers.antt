-- `classify_active::class_by_caps` is the class by the active halfspaces where the trixel is close, and else by all. Assumes nothing.
use Rattle.std.proofs.Common.{subst}
use Rattle.classify_prepared.specs.PreparedLists.{Classed}
use Rattle.classify_prepared.specs.PreparedRegions.{halfspaces_in}
use Rattle.classify_active.proofs.ActiveRegionLaws.{by_active}
use Rattle.classify_active.proofs.class_by_caps.Goals as goal

pub returns-then-by_active : goal.returns-then-by_active
returns-then-by_active c =
    let a = c.by_active.ensures c.if-by_active.true in
    by_active (c.requires.active_lists_in.active a.some) c.cap_of-m.ensures a.oriented a.close
    (subst (λ l. Classed c.args.t.now (halfspaces_in c.args.active.now.lists) l c.classify_convexes.result) c.ends.ensures
    (subst (λ l. Classed c.args.t.now l c.ends.result.now c.classify_convexes.result) c.halfspaces.ensures c.classify_convexes.ensures))
