-- `mesh_trixels::child2` is the row 2 of the table of children. Assumes nothing.
use mathlib.Core.Path.{refl}
use Rattle.mesh_trixels.proofs.child2.Goals as goal

pub returns : goal.returns
returns c = let s = c in (refl, record { v0 = s.requires.small_trixel.v2; v1 = s.requires.small_cut.w1; v2 = s.requires.small_cut.w0; p0 = s.requires.small_cut.c2; p1 = s.requires.small_trixel.p0; p2 = s.requires.small_trixel.p1 })
