-- The loop's invariant: the state and the rows stand for what has been read, and the rest of the file gives what the whole does (`Reading`). The measure is the bytes left. Assumes nothing.
use Prim.Native.Nat.{◌-◌}
use lib.ListN.{length}
use Rattle.region_reader.proofs.ReadingLaws.{Reading}
use Rattle.region_reader.proofs.records_in.Given as goal

abbrev pub invariant-loop-next : goal.invariant-loop-next
invariant-loop-next l = Reading l.style l.file l.settings l.initial.rows l.rows l.s

abbrev pub decreases-loop-next : goal.decreases-loop-next
decreases-loop-next l = length l.file - l.s.at
