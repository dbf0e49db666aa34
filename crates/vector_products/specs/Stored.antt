-- Vectors in lists of numbers, three numbers each. Document 01, 'Pointings and the mesh', has the vectors; the lists are of the code.
--   vec_in xs k       the vector whose numbers begin at number k
use Rattle.std.specs.Prelude.{ℕ, ◌+◌, List, get_or, ℤ, pos}
use Rattle.vector.specs.declared.Vec3.{Vec3}
use Rattle.vector.specs.Vectors.{vec}

abbrev pub vec_in : List ℤ → ℕ → Vec3
vec_in xs k = vec (get_or xs k (pos 0)) (get_or xs (k + 1) (pos 0)) (get_or xs (k + 2) (pos 0))
