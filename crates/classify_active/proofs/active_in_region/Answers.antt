-- `classify_active::active_in_region` goes from convex to convex. Assumes nothing.
use Rattle.std.proofs.Common.{rules, arith}
use Rattle.classify_active.proofs.ActiveRegionLaws.{region_search_start, search_within, search_convex, search_stored, search_added, region_search_end}
use Rattle.classify_active.proofs.active_in_region.Goals as goal

pub loop-end-init : goal.loop-end-init
loop-end-init c = let n = c.requires.none in ((omega (arith, n.0), omega (arith, n.1)), region_search_start _ _ _ c.args.active.now n.0 n.1)

pub offset_bounds-halfspaces-start : goal.offset_bounds-halfspaces-start
offset_bounds-halfspaces-start c = let w = search_within _ _ _ c.loop-end.invariant.1 c.loop-end-test.true c.requires.ready in search (rules, w.0, w.1)

pub slice_bounds-add_convex-count : goal.slice_bounds-add_convex-count
slice_bounds-add_convex-count c = (search_within _ _ _ c.loop-end.invariant.1 c.loop-end-test.true c.requires.ready).0

pub slice_bounds-add_convex-start : goal.slice_bounds-add_convex-start
slice_bounds-add_convex-start c = let w = search_within _ _ _ c.loop-end.invariant.1 c.loop-end-test.true c.requires.ready in omega (arith, w.0, w.1)

pub slice_bounds-add_convex-end : goal.slice_bounds-add_convex-end
slice_bounds-add_convex-end c = let w = search_within _ _ _ c.loop-end.invariant.1 c.loop-end-test.true c.requires.ready in omega (arith, w.0, w.1)

pub add_convex-requires-clause-few : goal.add_convex-requires-clause-few
add_convex-requires-clause-few c = (c.loop-end.invariant.0, c.requires.none.2)

pub add_convex-requires-clause-ready : goal.add_convex-requires-clause-ready
add_convex-requires-clause-ready c =
    (search_convex _ _ _ c.loop-end.invariant.1 c.loop-end-test.true c.requires.ready, search_stored _ _ _ c.loop-end.invariant.1 c.loop-end-test.true c.requires.ready)

pub loop-end-preserved : goal.loop-end-preserved
loop-end-preserved c = let e = c.in_ok-add_convex.ensures in (e.0, search_added _ _ _ c.loop-end.invariant.1 c.loop-end-test.true e.1)

pub returns : goal.returns
returns c = (c.loop-end.invariant.0, region_search_end _ _ _ c.loop-end.invariant.1 c.loop-end-test.false)
