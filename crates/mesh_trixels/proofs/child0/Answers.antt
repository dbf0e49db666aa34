-- `mesh_trixels::child0` is the row 0 of the table of children. Assumes nothing.
use mathlib.Core.Path.{refl}
use Rattle.mesh_trixels.proofs.child0.Goals as goal

pub returns : goal.returns
returns c = let s = c in (refl, record { v0 = s.requires.small_trixel.v0; v1 = s.requires.small_cut.w2; v2 = s.requires.small_cut.w1; p0 = s.requires.small_cut.c0; p1 = s.requires.small_trixel.p1; p2 = s.requires.small_trixel.p2 })
