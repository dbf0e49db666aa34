-- `classify_cap::reach::greatest_reach`: where the rays are 2⁴⁰ long E is the least x over 2⁴⁰, or K. Assumes nothing.
use Rattle.classify_cap.proofs.ReachLaws.{axes_reach}
use Rattle.classify_cap.proofs.reach.greatest_reach.Goals as goal

pub returns-then-on_axes-clause-value : goal.returns-then-on_axes-clause-value
returns-then-on_axes-clause-value c =
    let p = c.args.p.now in
    let e = axes_reach p.x0 p.x1 p.x2 p.s.now (c.on_axes.ensures c.if-on_axes.true) in
    cc (e, c.min.ensures, c.min-then-on_axes.ensures, c.min-then-on_axes-2.ensures)
