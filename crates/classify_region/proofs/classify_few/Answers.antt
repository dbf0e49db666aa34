use Rattle.std.proofs.Common.{◌∙◌, sym}
use Rattle.classify_region.proofs.ScanLaws.{outside_is, halfspace_sound, halfspace_taken, exhausted, convex_left_out}
use Rattle.classify_region.proofs.classify_few.Goals as goal

pub classify_by_rays-requires-clause-sound_halfspace :
    goal.classify_by_rays-requires-clause-sound_halfspace
classify_by_rays-requires-clause-sound_halfspace c = halfspace_sound _ _ c.loop-q.invariant _ c.loop-q-test.true c.requires.ready

pub loop-q-preserved : goal.loop-q-preserved
loop-q-preserved c = halfspace_taken _ _ c.loop-q.invariant _ c.loop-q-test.true c.classify_by_rays.ensures c.min-class.ensures

pub returns : goal.returns
returns c = exhausted _ _ c.loop-q.invariant c.loop-q-test.false

pub returns-then-is_outside : goal.returns-then-is_outside
returns-then-is_outside c =
    convex_left_out _ _ (halfspace_taken _ _ c.loop-q.invariant _ c.loop-q-test.true c.classify_by_rays.ensures c.min-class.ensures)
    (outside_is _ (sym c.is_outside.ensures ∙ c.if-is_outside.true))
