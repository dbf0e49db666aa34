-- A point on a cut goes to the earlier child: where C·p is 0 the test passes, and the child in the middle has only what no other takes.
-- The points are the midpoints of the edges of N3, each on two of its cuts. By computing; assumes nothing.
use mathlib.Core.Path.{◌≡◌, refl}
use lib.IntN.{pos}
use Rattle.vector.specs.Numbers.{root, root_in}
use Rattle.vector.specs.Vectors.{vec, unit, scale}
use Rattle.mesh.specs.Trixels.{N3, cut}
use Rattle.mesh.specs.Lookup.{digit}

pub ties : (digit (vec (pos 741455) (pos 0) (pos 741455)) N3 ≡ 1)
    × (digit (vec (pos 741455) (pos 741455) (pos 0)) N3 ≡ 0)
    × (digit (vec (pos 0) (pos 741455) (pos 741455)) N3 ≡ 0)
unfolding root root_in unit scale cut digit
ties = (refl, refl, refl)
