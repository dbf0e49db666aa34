-- Before the first number nothing has been written.
use Rattle.std.proofs.Common.{◌≡◌}
use Rattle.print.proofs.Output.list.Given as goal

abbrev pub invariant-loop-n : goal.invariant-loop-n
invariant-loop-n g l = l.n-index ≡ 0 → l.self.end ≡ l.initial.self.end
