-- What each of the three hands on, and what it gives back, by VisitLaws. Assumes nothing.
use native.Mathlib.Omega.{arith}
use mathlib.Core.Path.{ap}
use Rattle.covering_walk.proofs.VisitLaws.{visited_done, visited_cut, cut_needs, dividing_start, child_needs, dividing_more, divided}
use Rattle.covering_walk.proofs.+children_children_by_active_visit.Goals as goal

-- ---- children

pub children-cut-cut-requires : goal.children-cut-cut-requires
children-cut-cut-requires t c = c.args.trixel.now.small

pub children-loop-k-init : goal.children-loop-k-init
children-loop-k-init t c = dividing_start c.requires.cut_needs c.requires.active_lists_in c.args.trixel.now.small c.cut-cut.ensures c.args.trixel.now.first

pub children-child_of-child-requires : goal.children-child_of-child-requires
children-child_of-child-requires t c = (c.loop-k.invariant.parts, omega arith)

pub children-child_level-requires : goal.children-child_level-requires
children-child_level-requires t c = (c.loop-k.invariant.needs.divisible, omega arith)

pub children-visit-requires : goal.children-visit-requires
children-visit-requires t c =
    let d = c.loop-k.invariant in
    let e = c.child_level.ensures in (
      omega (arith, ap (λ m. m.left) e, d.needs.divisible.above),
      (child_needs d (omega arith) c.child_of-child.ensures e, d.active),
    )

pub children-loop-k-preserved : goal.children-loop-k-preserved
children-loop-k-preserved t c = dividing_more c.loop-k.invariant (omega arith) c.child_of-child.ensures c.child_level.ensures c.visit.ensures

pub children-returns : goal.children-returns
children-returns t c = divided c.loop-k.invariant (omega arith)

-- ---- children_by_active

pub children_by_active-find_active-requires : goal.children_by_active-find_active-requires
children_by_active-find_active-requires t c = c.requires.ready

pub children_by_active-children-requires : goal.children_by_active-children-requires
children_by_active-children-requires t c =
    (omega (arith, c.requires.divisible.above), (c.requires, c.find_active.ensures))

pub children_by_active-returns : goal.children_by_active-returns
children_by_active-returns t c = c.children.ensures

-- ---- visit

pub visit-classify_trixel-classified-requires : goal.visit-classify_trixel-classified-requires
visit-classify_trixel-classified-requires t c = let n = c.requires.needs in record {
  ready = n.ready;
  active_lists_in = c.requires.active_lists_in;
}

pub visit-accept_or_cut-requires : goal.visit-accept_or_cut-requires
visit-accept_or_cut-requires t c = let n = c.requires.needs in record { tally_invariant = n.invariant; level_fits = n.level }

pub visit-returns-then-accept_or_cut : goal.visit-returns-then-accept_or_cut
visit-returns-then-accept_or_cut t c = visited_done c.classify_trixel-classified.ensures c.accept_or_cut.ensures c.requires.needs.ready c.if-accept_or_cut.true

pub visit-children_by_active-requires : goal.visit-children_by_active-requires
visit-children_by_active-requires t c =
    let a = c.accept_or_cut.ensures in
    let e = c.if-accept_or_cut.false in
    let l = c.copied_level-here.ensures in (
      omega (arith, (a.cut e).above, ap (λ m. m.left) l),
      rw (c.copied-found.ensures, l) (cut_needs c.classify_trixel-classified.ensures a e c.requires.needs),
    )

pub visit-returns-then-wants_active : goal.visit-returns-then-wants_active
visit-returns-then-wants_active t c =
    visited_cut c.classify_trixel-classified.ensures c.accept_or_cut.ensures c.if-accept_or_cut.false (rw c.copied_level-here.ensures at c.children_by_active.ensures)

pub visit-children-requires : goal.visit-children-requires
visit-children-requires t c =
    let a = c.accept_or_cut.ensures in
    let e = c.if-accept_or_cut.false in
    let l = c.copied_level-here.ensures in (
      omega (arith, (a.cut e).above, ap (λ m. m.left) l),
      (rw (c.copied-found.ensures, l) (cut_needs c.classify_trixel-classified.ensures a e c.requires.needs), c.requires.active_lists_in),
    )

pub visit-returns : goal.visit-returns
visit-returns t c =
    visited_cut c.classify_trixel-classified.ensures c.accept_or_cut.ensures c.if-accept_or_cut.false (rw c.copied_level-here.ensures at c.children.ensures)
