-- `classify_active::are_few`: where there is one convex there is one end. Assumes nothing.
use Prim.Native.Nat.{◌≤◌}
use native.Mathlib.Omega.{arith}
use mathlib.Core.Path.{◌∙◌}
use lib.ListN.{length}
use lib.Seq.{length-take-le}
use Rattle.std.proofs.Common.{rules}
use Rattle.classify_active.proofs.are_few.Goals as goal

pub returns-then-region-eq1 : goal.returns-then-region-eq1
returns-then-region-eq1 c h =
    let long : 64 ≤ length c.args.region.now.ends = search rules in
    length-take-le c.args.region.now.convexes c.args.region.now.ends (omega arith) ∙ c.if-region-eq1.true
