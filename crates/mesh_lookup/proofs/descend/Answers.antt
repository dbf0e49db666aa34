use Prim.Native.Nat.{◌<◌}
use native.Mathlib.Omega.{arith}
use Rattle.mesh_lookup.proofs.DescentLaws.{next, far_below, end}
use Rattle.mesh_lookup.proofs.descend.Goals as goal
use Rattle.mesh_lookup.proofs.descend.Goals.{At-loop-level}

at_most : (l : At-loop-level) → l.loop-level.at.id < 4611686018427387904
at_most l = let v = l.loop-level.invariant in far_below _ _ _ _ _ _ v.3 v.2 (omega (arith, v.1))

pub overflow_mul-at : goal.overflow_mul-at
overflow_mul-at c = omega (arith, at_most (goal.at.overflow_mul-at c).At-loop-level)

pub overflow_add-at : goal.overflow_add-at
overflow_add-at c = omega (arith, at_most (goal.at.overflow_add-at c).At-loop-level, c.step-s.ensures.low)

pub loop-level-preserved : goal.loop-level-preserved
loop-level-preserved c =
    let v = c.loop-level.invariant in
    (v.0, v.1, v.2, next _ _ _ _ _ _ v.3 c.step-s.result c.step-s.ensures)

pub returns : goal.returns
returns c = let v = c.loop-level.invariant in end _ _ _ _ _ _ v.3 _ (omega arith)
