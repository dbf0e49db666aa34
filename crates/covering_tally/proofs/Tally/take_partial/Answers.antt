-- `Tally::take_partial` pushes the range onto the outer list, and counts the trixel. Assumes nothing.
use Rattle.covering_tally.proofs.TallyLaws.{partial_taken}
use Rattle.covering_tally.proofs.Tally.take_partial.Goals as goal

pub returns : goal.returns
returns c = partial_taken c.requires.tally_invariant c.push_outer.ensures c.push_outer.auto.out c.partial_more.ensures
