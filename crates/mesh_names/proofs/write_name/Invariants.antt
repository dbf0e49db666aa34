-- The loop's invariant: the digits after position `at` stand in the list, and `rest` is what is left of the identifier (`Written`). Assumes nothing.
use Rattle.mesh_names.proofs.NameWriting.{Written}
use Rattle.mesh_names.proofs.write_name.Given as goal

abbrev pub invariant-loop-at : goal.invariant-loop-at
invariant-loop-at l = Written l.id l.depth l.initial.out l.out l.rest l.at
