-- `frames_walk::walk` passes the entries one after the other. The loop's invariant: the walk is past i entries. Assumes nothing.
use Rattle.frames_walk.specs.Steps.{Fits}
use Rattle.frames_walk.proofs.WalkLaws.{Past}
use Rattle.frames_walk.proofs.walk.Given as goal

abbrev pub invariant-loop-e : goal.invariant-loop-e
invariant-loop-e l = record {
  fits : Fits l.at;
  past : Past l.fn.entries l.fn.lists l.fn.region l.initial.numbers l.e-index l.at l.numbers;
}
