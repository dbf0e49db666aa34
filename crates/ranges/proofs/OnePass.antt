-- One pass over the ranges gives the two lists, the outer by OuterPass and the inner by InnerPass. Assumes nothing.
use Rattle.ranges.proofs.OuterPass.{outer_pass_law}
use Rattle.ranges.proofs.InnerPass.{inner_pass_law}
use Prim.Native.Nat.{ℕ, ◌≤◌}
use mathlib.Core.Path.{◌≡◌}
use mathlib.Core.List.{List}
use Rattle.ranges.specs.declared.Range.{Range}
use Rattle.ranges.specs.Lists.{outer_of, inner_of}
use Rattle.ranges.proofs.Pushing.{outer_pass, inner_pass}

abbrev pub OnePass : Type 0
OnePass = (budget : ℕ) (ranges : List Range) → 1 ≤ budget → (outer_pass budget ranges ≡ outer_of budget ranges) × (inner_pass budget ranges ≡ inner_of budget ranges)

pub one_pass : OnePass
one_pass budget ranges one = (outer_pass_law budget one ranges, inner_pass_law budget one ranges)
