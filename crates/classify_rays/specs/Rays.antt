-- A halfspace against the rays of a trixel, one after the other. Document 01, 'Classifying': within asks that all three pass, and one that passes
-- refutes apart (classify/proofs/RaysFirst).
--   filter_reach x h g                whether x² ≥ g² (r·r) for a ray r of height h, where the filter is sure (proofs/RayLaws)
--   passed_of a b c                   none, some or all of three tests passed
--   rays_passed f g t                 none, some or all of the rays of t pass
use Rattle.std.specs.Prelude.{ℕ, ◌+◌, ◌*◌, ◌/◌, Bool, true, false, cond, leb, Option, Some, None, ℤ}
use Rattle.vector.specs.declared.Vec3.{Vec3}
use Rattle.mesh.specs.declared.Trixel.{Trixel}
use Rattle.classify_rays.specs.declared.Passed.{Passed}
use Rattle.classify_rays.specs.declared.Passed.TheVariants as count
use Rattle.classify.specs.Shape.{ray0, ray1, ray2}
use Rattle.classify.proofs.RaysFirst.{passes}

abbrev pub filter_reach : ℕ → ℕ → ℕ → Option Bool
filter_reach x h g =
    cond (leb ((g * g / 1024 + 1) * (h + 5)) (x / 2147483648 * (x / 2147483648))) (Some true)
    (cond (leb ((x / 2147483648 + 1) * (x / 2147483648 + 1)) (g * g / 1024 * h)) (Some false) None)

abbrev pub passed_of : Bool → Bool → Bool → Passed
passed_of a b c = cond a (cond b (cond c count.All count.Some) count.Some) (cond b count.Some (cond c count.Some count.None))

abbrev pub rays_passed : Vec3 → ℤ → Trixel → Passed
rays_passed f g t = passed_of (passes f g (ray0 t)) (passes f g (ray1 t)) (passes f g (ray2 t))
