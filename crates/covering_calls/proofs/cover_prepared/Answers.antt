-- `covering_calls::cover_prepared` cuts the roots and ends the lists: they are those of the rule, by the one pass. Assumes nothing.
use borrow.Author.Rules.{rules}
use Rattle.covering_walk.proofs.VisitLaws.{cover_start, cover_contained, cover_end}
use Rattle.covering_calls.proofs.cover_prepared.Goals as goal

pub visit_roots-requires : goal.visit_roots-requires
visit_roots-requires c = cover_start c.requires.le_depth c.requires.ready c.requires.le_budget c.new-s.ensures

pub finish-requires : goal.finish-requires
finish-requires c =
    let v = c.visit_roots.ensures in
    record {
      tally_invariant = v.invariant;
      counts_contained = cover_contained v c.requires.ready c.requires.le_depth.1;
    }

pub returns : goal.returns
returns c = cover_end c.visit_roots.ensures c.new-s.ensures (search rules) c.finish.ensures
