-- `region_points::rows_hold` scans the rows. The loop's invariant: what is left of the scan from the state reached is the whole scan's answer. Assumes nothing.
use Prim.Native.Nat.{◌^◌}
use Rattle.algebra.proofs.Sizes.{Upto}
use Rattle.region_points.proofs.PointLaws.{Scanning}
use Rattle.region_points.proofs.rows_hold.Given as goal

abbrev pub invariant-loop-row : goal.invariant-loop-row
invariant-loop-row l = Scanning l.p l.count l.rows l.row-index l.s × Upto (2 ^ 31) l.s.number
