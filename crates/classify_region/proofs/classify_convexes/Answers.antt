use Rattle.std.proofs.Common.{rules, arith, ◌∙◌, refl, sym, subst, get_or, ◌+◌}
use Rattle.std.specs.Ordering.{ord_max}
use Rattle.classify.specs.declared.Class.{Class}
use Rattle.classify.specs.contracts.ClassOrd.TheImpl.{cmp-value}
use Rattle.classify_region.proofs.ScanLaws.{outside_is, full_is, InRegion, halfspace_sound, halfspace_taken, exhausted, opened_within, opened_ready, closed, left_out_in, ended, full_in}
use Rattle.classify_region.proofs.classify_convexes.Goals as goal
use Rattle.classify_region.proofs.classify_convexes.Goals.{Left-halfspaces, else-halfspaces-test, then-halfspaces-test+then-is_outside}

-- the scan of a convex has ended, at its own end or at a halfspace that leaves the trixel outside: where the scan of the region stands
module _ (c : Left-halfspaces) where
  abbrev Passed : Class → Type 0
  Passed class =
      InRegion c.args.t.now c.args.halfspaces.now c.args.ends.now (get_or c.args.ends.now c.convexes.end-index 0) (c.convexes.end-index + 1) (ord_max cmp-value.it c.convexes.settled class)

  passed : Passed c.halfspaces-test.class
  passed = elim c.halfspaces-test.branch [
    | else-halfspaces-test w ↦ subst Passed (sym w.class-is)
        (closed _ _ _ c.convexes.invariant c.convexes-test.true (exhausted _ _ c.halfspaces.invariant w.halfspaces-test.false) refl)
    | then-halfspaces-test+then-is_outside w ↦ subst Passed (sym w.class-is)
        (left_out_in _ _ _ c.convexes.invariant c.convexes-test.true
        (halfspace_taken _ _ c.halfspaces.invariant _ w.halfspaces-test.true w.classify_one.ensures w.min-class.ensures)
        (outside_is _ (sym w.is_outside.ensures ∙ w.if-is_outside.true)))
  ]

pub offset_bounds-halfspaces-start : goal.offset_bounds-halfspaces-start
offset_bounds-halfspaces-start c = let w = opened_within _ _ _ c.convexes.invariant c.convexes-test.true c.requires.ready in search (rules, w.0, w.1)

pub slice_bounds-q-items-count : goal.slice_bounds-q-items-count
slice_bounds-q-items-count c = (opened_within _ _ _ c.convexes.invariant c.convexes-test.true c.requires.ready).0

pub slice_bounds-q-items-start : goal.slice_bounds-q-items-start
slice_bounds-q-items-start c = let w = opened_within _ _ _ c.convexes.invariant c.convexes-test.true c.requires.ready in omega (arith, w.0, w.1)

pub slice_bounds-q-items-end : goal.slice_bounds-q-items-end
slice_bounds-q-items-end c = let w = opened_within _ _ _ c.convexes.invariant c.convexes-test.true c.requires.ready in omega (arith, w.0, w.1)

pub classify_one-requires-clause-sound_halfspace :
    goal.classify_one-requires-clause-sound_halfspace
classify_one-requires-clause-sound_halfspace c =
    halfspace_sound _ _ c.halfspaces.invariant _ c.halfspaces-test.true (opened_ready _ _ _ c.convexes.invariant c.convexes-test.true c.requires.ready)

pub halfspaces-preserved : goal.halfspaces-preserved
halfspaces-preserved c = halfspace_taken _ _ c.halfspaces.invariant _ c.halfspaces-test.true c.classify_one.ensures c.min-class.ensures

pub convexes-preserved : goal.convexes-preserved
convexes-preserved c = subst (InRegion _ _ _ _ _) (sym c.max-settled.ensures) (passed (goal.at.convexes-preserved c).Left-halfspaces)

pub returns-after-convexes : goal.returns-after-convexes
returns-after-convexes c = ended _ _ _ c.convexes.invariant c.convexes-test.false

pub returns-then-is_full : goal.returns-then-is_full
returns-then-is_full c =
    full_in _ _ _ (subst (InRegion _ _ _ _ _) (sym c.max-settled.ensures) (passed (goal.at.returns-then-is_full c).Left-halfspaces))
    (full_is _ (sym c.is_full.ensures ∙ c.if-is_full.true))
