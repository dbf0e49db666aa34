-- `Tally::take_full` pushes the range onto the outer list and onto the inner list, and counts the trixel. Assumes nothing.
use Rattle.covering_tally.proofs.TallyLaws.{inner_wants, full_taken}
use Rattle.covering_tally.proofs.Tally.take_full.Goals as goal

pub add_inner-requires : goal.add_inner-requires
add_inner-requires c = inner_wants c.requires.tally_invariant c.push_outer.ensures c.push_outer.auto.out

pub returns : goal.returns
returns c = full_taken c.requires.tally_invariant c.push_outer.ensures c.push_outer.auto.out c.add_inner.ensures c.add_inner.auto.out c.requires.small_range c.full_more.ensures
