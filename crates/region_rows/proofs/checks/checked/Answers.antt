-- The code makes the checks of the row list in the rule's order, and then counts the rows. Assumes nothing.
use Prim.Native.Nat.{◌<◌}
use native.Mathlib.Omega.{arith}
use mathlib.Core.Path.{◌≡◌, ◌∙◌}
use lib.ListN.{length}
use Rattle.std.proofs.Common.{rules}
use Rattle.region_rows.proofs.CheckingPass.{no_rows, no_fives, all_rows}
use Rattle.region_rows.proofs.checks.checked.Goals as goal
use Rattle.region_rows.proofs.checks.checked.Goals.{then-is_empty-via-then-is_empty, then-is_empty-via-else-is_empty+then-rows-ne0}

pub returns-then-is_empty : goal.returns-then-is_empty
returns-then-is_empty c =
    elim c.then-is_empty.branch [
      | then-is_empty-via-then-is_empty w ↦ let none : length c.args.rows.now ≡ 0 = search rules in no_rows _ none
      | then-is_empty-via-else-is_empty+then-rows-ne0 w ↦ let some : 0 < length c.args.rows.now = search rules in no_fives _ some (λ e. omega arith)
    ]

pub returns : goal.returns
returns c = let some : 0 < length c.args.rows.now = search rules in c.count_rows.ensures ∙ all_rows _ some (omega arith)
