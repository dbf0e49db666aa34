-- `mesh_trixels::child1` is the row 1 of the table of children. Assumes nothing.
use mathlib.Core.Path.{refl}
use Rattle.mesh_trixels.proofs.child1.Goals as goal

pub returns : goal.returns
returns c = let s = c in (refl, record { v0 = s.requires.small_trixel.v1; v1 = s.requires.small_cut.w0; v2 = s.requires.small_cut.w2; p0 = s.requires.small_cut.c1; p1 = s.requires.small_trixel.p2; p2 = s.requires.small_trixel.p0 })
