-- `mesh_trixels::corners_below` gives the corners of a trixel: those of its root, or of the child of the trixel above it. The level falls. Assumes nothing.
use Rattle.mesh_trixels.proofs.+corners_below.Given as goal

abbrev pub decreases-corners_below : goal.decreases-corners_below
decreases-corners_below l = l.n
