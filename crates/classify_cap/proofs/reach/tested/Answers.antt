-- `classify_cap::reach::tested`: a number that is not reached is the new high. Assumes nothing.
use native.Mathlib.Omega.{arith}
use Rattle.classify_cap.proofs.ReachLaws.{none_from}
use Rattle.classify_cap.proofs.reach.tested.Goals as goal

pub returns-else-reaches_all : goal.returns-else-reaches_all
returns-else-reaches_all c =
    let p = c.args.p.now in
    let r = c.requires in
    record { order = omega arith; most = omega (arith, r.most); passes = r.passes; above = none_from p.x0 p.x1 p.x2 p.s.now _ c.reaches_all.ensures c.if-reaches_all.false }
