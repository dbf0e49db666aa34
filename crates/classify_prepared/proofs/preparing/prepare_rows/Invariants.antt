-- `classify_prepared::preparing::prepare_rows` stores row after row as the rule does. Assumes nothing.
use Rattle.classify_prepared.proofs.PreparingLaws.{Preparing}
use Rattle.classify_prepared.proofs.preparing.prepare_rows.Given as goal

abbrev pub invariant-loop-i : goal.invariant-loop-i
invariant-loop-i l = Preparing l.rows l.n l.initial.halfspaces l.initial.ends l.i l.halfspaces l.ends l.convexes
