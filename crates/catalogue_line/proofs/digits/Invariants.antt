-- The loop's invariant: number and power are those of the digits read so far, with the digits that are left after them (`Reading`). It ends where
-- seven are read or the next byte is no digit. Assumes nothing.
use Prim.Native.Nat.{◌-◌}
use Rattle.catalogue_line.proofs.ReadingLaws.{Reading}
use Rattle.catalogue_line.proofs.digits.Given as goal

abbrev pub invariant-loop : goal.invariant-loop
invariant-loop l = Reading l.whole l.bytes l.number l.power l.rest (7 - l.counter)
