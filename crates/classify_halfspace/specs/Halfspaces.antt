-- The class of a trixel for one halfspace, by what was prepared of it. Document 01, 'Classifying', and document 02, F-8.
--   prepared_class q t                the class of t for the halfspace that q was prepared from (proofs/ClassLaws: it is halfspace_class)
--   enclosed f D G b E               the cap of b and E lies in that of f and G, by a test that is enough (proofs/Enclosing)
--   class_within d, class_apart d      the class where within holds, and where apart holds
--   apart_class q t                   the class where within does not hold
--   edges_class q t                   the class where within does not hold, nor apart by the bounding cap
--   rays_class q t                    the class where apart does not hold by the bounding cap
use Rattle.std.specs.Prelude.{Bool, cond, ◌&&◌, ℤ, ◌-ℤ◌, ◌*ℤ◌}
use Rattle.std.specs.Int.Signed.{non_neg, le_z, lt_z}
use Rattle.vector.specs.declared.Vec3.{Vec3}
use Rattle.vector.specs.Vectors.{dot}
use Rattle.mesh.specs.declared.Trixel.{Trixel}
use Rattle.classify.specs.declared.Class.{Class}
use Rattle.classify.specs.declared.Class.TheVariants.{Outside, Partial, Full}
use Rattle.classify_prepared.specs.declared.PreparedHalfspace.{PreparedHalfspace}
use Rattle.classify.specs.Shape.{square, positive, within_by, beyond, apart_by}

unfoldable pub prepared_class : PreparedHalfspace → Trixel → Class
prepared_class q t =
    cond (non_neg q.d)
    (cond (within_by q.f q.high t) Full (cond (apart_by q.f q.low t) Outside Partial))
    (cond (within_by q.f q.high t) Outside (cond (apart_by q.f q.low t) Full Partial))

unfoldable pub enclosed : Vec3 → ℤ → ℤ → Vec3 → ℤ → Bool
enclosed f D G b E =
    positive (dot f b -ℤ G *ℤ E)
    && (positive (dot b b -ℤ square E)
    && (le_z ((dot b b -ℤ square E) *ℤ G) ((dot f b -ℤ G *ℤ E) *ℤ E)
    && lt_z ((dot f f -ℤ square D) *ℤ (dot b b -ℤ square E)) (square (dot f b -ℤ G *ℤ E))))

-- for d ≥ 0 within means full and apart means outside; for d < 0 within means outside and apart means full
abbrev pub class_within : ℤ → Class
class_within d = cond (non_neg d) Full Outside

abbrev pub class_apart : ℤ → Class
class_apart d = cond (non_neg d) Outside Full

unfoldable pub apart_class : PreparedHalfspace → Trixel → Class
apart_class q t = cond (apart_by q.f q.low t) (class_apart q.d) Partial

unfoldable pub edges_class : PreparedHalfspace → Trixel → Class
edges_class q t = cond (beyond q.f q.low t) (class_apart q.d) Partial

unfoldable pub rays_class : PreparedHalfspace → Trixel → Class
rays_class q t = cond (within_by q.f q.high t) (class_within q.d) (edges_class q t)
