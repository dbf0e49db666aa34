-- The loop's invariant: the size and the rows stand for the halfspaces taken so far, and those left give what all do (`Passing`). Assumes nothing.
use Prim.Native.Nat.{◌/◌}
use lib.ListN.{length}
use Rattle.region_payloads.proofs.GroupLaws.{Passing}
use Rattle.region_payloads.proofs.halfspaces_in.Given as goal

abbrev pub invariant-loop-part : goal.invariant-loop-part
invariant-loop-part l = Passing l.payload (length l.payload / 16) l.initial.rows l.initial.size l.rows l.size l.part-index
