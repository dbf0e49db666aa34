-- The loop's invariant: the rows so far make a region of this size, and the rows that are left lead on from it (`Checking`). Assumes nothing.
use Prim.Native.Nat.{◌*◌}
use Rattle.region_rows.proofs.CheckingPass.{Checking}
use Rattle.region_rows.proofs.checks.count_rows.Given as goal

abbrev pub invariant-loop-row : goal.invariant-loop-row
invariant-loop-row l = Checking l.rows l.size (5 * l.row-index)
