-- `covering_calls::identifiers_in` adds up range by range; the first ranges have no more than all. Assumes nothing.
use mathlib.Core.Path.{◌≡◌}
use Rattle.ranges.specs.Ranges.{ranges_in}
use Rattle.ranges.specs.Contents.{identifiers}
use Rattle.covering_calls.proofs.identifiers_in.Given as goal

abbrev pub invariant-loop-low : goal.invariant-loop-low
invariant-loop-low l = l.sum ≡ identifiers (ranges_in l.low-index l.list)
