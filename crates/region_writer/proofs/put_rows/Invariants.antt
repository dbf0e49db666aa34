-- The loop's invariant: the region of the rows so far stands from element 8 on, and the next row goes after it (`Writing`). Assumes nothing.
use Prim.Native.Nat.{◌*◌}
use Rattle.region_writer.proofs.WritingPass.{Writing}
use Rattle.region_writer.proofs.put_rows.Given as goal

abbrev pub invariant-loop-row : goal.invariant-loop-row
invariant-loop-row l = Writing l.style l.rows l.initial.out l.out l.p (5 * l.row-index)
