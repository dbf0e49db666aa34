-- `mesh_jump::corners_along` gives the corners along the digits: those of a child of the trixel one level above. The level falls. Assumes nothing.
use Rattle.mesh_jump.proofs.+corners_along.Given as goal

abbrev pub decreases-corners_along : goal.decreases-corners_along
decreases-corners_along l = l.n
