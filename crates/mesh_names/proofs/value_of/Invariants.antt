-- The loop's invariant: `id` is the identifier of the letter and the digits before (`Read`). It fits a word, since a name has at most 32 bytes. Assumes nothing.
use Prim.Native.Nat.{◌+◌}
use Rattle.mesh_names.proofs.NameReading.{Read}
use Rattle.mesh_names.proofs.value_of.Given as goal

abbrev pub invariant-loop-c : goal.invariant-loop-c
invariant-loop-c l = Read l.name l.id (l.c-index + 1)
