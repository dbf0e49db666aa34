-- What is lost stays lost.
use Rattle.std.proofs.Common.{◌≡◌}
use Rattle.print.specs.Lost.{lost}
use Rattle.print.proofs.Output.bytes.Given as goal

abbrev pub invariant-loop-b : goal.invariant-loop-b
invariant-loop-b l = l.initial.self.end ≡ lost → l.self.end ≡ lost
