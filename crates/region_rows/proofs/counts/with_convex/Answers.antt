-- `region_rows::counts::with_convex` checks 7 and counts the convex. Assumes nothing.
use native.Mathlib.Omega.{arith}
use borrow.Author.Tests.{lt-ltb, le-ltb}
use Rattle.region_rows.specs.RegionSizes.{add_convex}
use Rattle.region_rows.proofs.counts.with_convex.Goals as goal

pub returns-then-k-ge-CONVEXES : goal.returns-then-k-ge-CONVEXES
unfolding add_convex
returns-then-k-ge-CONVEXES c = simp (le-ltb c.args.k.convexes 64 c.if-k-ge-CONVEXES.true)

pub returns : goal.returns
unfolding add_convex
returns c = simp (lt-ltb c.args.k.convexes 64 (omega arith))
