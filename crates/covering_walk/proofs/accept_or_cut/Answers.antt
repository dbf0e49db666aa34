-- `covering_walk::accept_or_cut` goes by the class of the trixel. Assumes nothing.
use native.Mathlib.Omega.{arith}
use mathlib.Core.Path.{refl}
use Rattle.covering_walk.proofs.VisitLaws.{range_fits, small_range, countable, done_outside, done_full, done_last, to_be_cut}
use Rattle.covering_walk.proofs.accept_or_cut.Goals as goal

pub seen_more-requires : goal.seen_more-requires
seen_more-requires c = countable c.requires.level_fits c.requires.tally_invariant

pub overflow_mul-id-in-Full : goal.overflow_mul-id-in-Full
overflow_mul-id-in-Full c = omega (arith, (range_fits c.requires.level_fits).0)

pub overflow_mul-id : goal.overflow_mul-id
overflow_mul-id c = omega (arith, (range_fits c.requires.level_fits).0)

pub overflow_sub-span : goal.overflow_sub-span
overflow_sub-span c = omega (arith, (range_fits c.requires.level_fits).1)

pub overflow_add-id : goal.overflow_add-id
overflow_add-id c = omega (arith, (range_fits c.requires.level_fits).0)

pub take_full-requires : goal.take_full-requires
take_full-requires c = record {
  tally_invariant = c.requires.tally_invariant;
  countable = countable c.requires.level_fits c.requires.tally_invariant;
  small_range = small_range c.requires.level_fits;
}

pub take_partial-requires : goal.take_partial-requires
take_partial-requires c = record {
  tally_invariant = c.requires.tally_invariant;
  countable = countable c.requires.level_fits c.requires.tally_invariant;
}

pub shape_of-out-then-level-eq0 : goal.shape_of-out-then-level-eq0
shape_of-out-then-level-eq0 c = c.take_partial.auto.out

pub returns-then-level-eq0 : goal.returns-then-level-eq0
returns-then-level-eq0 c = done_last c.in-Partial.is c.if-level-eq0.true c.take_partial.ensures

pub seen_more-requires-in-Partial : goal.seen_more-requires-in-Partial
seen_more-requires-in-Partial c = countable c.requires.level_fits c.requires.tally_invariant

pub returns-in-Outside : goal.returns-in-Outside
returns-in-Outside c = done_outside c.in-Outside.is c.requires.tally_invariant c.seen_more.ensures refl

pub shape_of-out : goal.shape_of-out
shape_of-out c = c.take_full.auto.out

pub returns-in-Full : goal.returns-in-Full
returns-in-Full c = done_full c.in-Full.is c.requires.level_fits c.take_full.ensures

pub returns-else-level-eq0 : goal.returns-else-level-eq0
returns-else-level-eq0 c = to_be_cut c.in-Partial.is (omega (arith, c.if-level-eq0.false)) c.seen_more-in-Partial.ensures refl
