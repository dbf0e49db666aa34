use native.Mathlib.Omega.{arith}
use Rattle.frames_walk.specs.Steps.{disposition_counts}
use Rattle.frames_walk.proofs.WalkLaws.{past_none, past_next, past_all}
use Rattle.frames_walk.proofs.walk.Goals as goal

pub loop-e-init : goal.loop-e-init
loop-e-init c =
    let v = c.args in
    let z = c.default.ensures in
    record {
      fits = record { dispositions = omega arith; visited = omega arith };
      past = past_none v.entries v.lists v.region v.numbers.now c.default.result (λ i. disposition_counts (z.0 i) (z.1.0 i) (z.1.1 i));
    }

pub loop-e-preserved : goal.loop-e-preserved
loop-e-preserved c =
    let v = c.args in record {
      fits = c.visit_if_owned-at.ensures.fits.0;
      past = past_next v.entries v.lists v.region v.numbers.now c.entries-e-items.result.now c.entries-e-items.ensures c.loop-e.e-index _ c.entry_at-e.result c.loop-e.at
          c.visit_if_owned-at.result c.loop-e.numbers _ c.loop-e-test.true c.entry_at-e.ensures c.visit_if_owned-at.ensures.visits_if_owned c.loop-e.invariant.past;
    }

pub returns : goal.returns
returns c =
    let v = c.args in
    past_all v.entries v.lists v.region v.numbers.now c.entries-e-items.result.now c.entries-e-items.ensures c.loop-e.e-index c.loop-e.at c.loop-e.numbers c.loop-e-test.false
    c.loop-e.invariant.past
