-- `ranges_lists::append` stores the two ends of a range behind the others. Assumes nothing.
use native.Mathlib.Omega.{arith}
use Rattle.ranges_lists.proofs.OuterStored.{appended}
use Rattle.ranges_lists.proofs.append.Goals as goal

pub returns-clause-writes : goal.returns-clause-writes
returns-clause-writes c = appended c.args.n c.args.list.now c.args.r (omega arith)
