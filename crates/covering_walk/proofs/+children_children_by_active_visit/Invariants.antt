-- `covering_walk::visit` classifies the trixel, and leaves it out, accepts it or hands it to `covering_walk::children`, which cuts it and visits its
-- four children. `covering_walk::children_by_active` looks for the halfspaces that are active beside it first. The measures: 3 × left for `visit`, 3
-- × left - 1 for `children_by_active` and 3 × left - 2 for `children`, which visits at a level below. Assumes nothing.
use Prim.Native.Nat.{◌-◌, ◌*◌}
use Rattle.covering_walk.specs.Walk.{Dividing}
use Rattle.covering_walk.proofs.+children_children_by_active_visit.Given as goal

-- ---- the measures

abbrev pub decreases-children : goal.decreases-children
decreases-children l = 3 * l.level.left - 2

abbrev pub decreases-children_by_active : goal.decreases-children_by_active
decreases-children_by_active l = 3 * l.level.left - 1

abbrev pub decreases-visit : goal.decreases-visit
decreases-visit l = 3 * l.level.left

-- ---- the loop over the children

abbrev pub invariant-children-loop-k : goal.invariant-children-loop-k
invariant-children-loop-k l =
    Dividing l.trixel.trixel l.classified l.level l.region l.active l.initial.tally l.initial.out l.cut l.trixel.ray l.k l.tally l.out
