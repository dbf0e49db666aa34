-- The bends after the first cut or after a later one, made edge by edge. Assumes nothing.
use mathlib.Core.Path.{◌≡◌, refl}
use mathlib.Core.Bool.{Bool, true, false, cond}
use lib.IntN.{ℤ}
use Rattle.mesh_bends.specs.Bends.{bends}

pub edge_by_edge : (first : Bool) (a0 a1 a2 b0 b1 b2 : ℤ) → bends (cond first a0 b0) (cond first a1 b1) (cond first a2 b2) ≡ cond first (bends a0 a1 a2) (bends b0 b1 b2)
edge_by_edge true a0 a1 a2 b0 b1 b2 = refl
edge_by_edge false a0 a1 a2 b0 b1 b2 = refl
