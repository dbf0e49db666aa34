-- `classify_cap::reach::near_top` is a span of E: what is not reached is its high end, and 0 is reached. Assumes nothing.
use native.Mathlib.Omega.{arith}
use mathlib.Core.Path.{sym, ◌∙◌}
use Rattle.classify_cap.proofs.ReachLaws.{reach_zero, none_from}
use Rattle.classify_cap.proofs.reach.near_top.Goals as goal

pub returns-then-reaches_all : goal.returns-then-reaches_all
returns-then-reaches_all c =
    let i = c.loop-step.invariant in
    record { order = omega arith; most = i.1; passes = sym c.reaches_all.ensures ∙ c.if-reaches_all.true; above = i.2 }

pub loop-step-preserved : goal.loop-step-preserved
loop-step-preserved c =
    let p = c.args.p.now in
    (omega arith, omega arith, none_from p.x0 p.x1 p.x2 p.s.now _ c.reaches_all.ensures c.if-reaches_all.false)

pub returns : goal.returns
returns c =
    let p = c.args.p.now in
    let i = c.loop-step.invariant in
    record { order = omega arith; most = i.1; passes = reach_zero p.x0 p.x1 p.x2 p.s.now; above = i.2 }
