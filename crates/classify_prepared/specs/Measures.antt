-- What classifying measures once, and stores, in a halfspace and in a trixel. Document 01, 'Classifying'.
--   prepared h           the halfspace h prepared: f, d, D, G and f·f − D²
--   SoundHalfspace q     q is what a good halfspace is prepared to
--   Rest z               z is not negative, and at most 3·2⁴⁰, as f·f − D² is, and b·b − E² where b is ahead
--   upper_square z        (|z| / 2¹⁰)²
--   height_of v           the height of a ray: its three upper squares, divided by 2³²; near (v·v) / 2⁵² (classify_rays/proofs/RayLaws)
--   square_of y           r·r of the ray r that y has
--   IsRay v y            y is the ray v with its height
--   OwnRays s            each ray of s has its own height
--   RaysOf t s           s has the rays of t and whether V > 0
use Rattle.std.specs.Prelude.{ℕ, ◌+◌, ◌*◌, ◌/◌, ◌^◌, ◌≡◌, true, T, ℤ, nat_abs, ◌-ℤ◌}
use Rattle.std.specs.Int.Signed.{non_neg}
use Rattle.algebra.proofs.Sizes.{Upto}
use Rattle.vector.specs.declared.Vec3.{Vec3}
use Rattle.vector.specs.Vectors.{dot, is_vector}
use Rattle.vector.proofs.Sizes.{AtMost}
use Rattle.mesh.specs.declared.Trixel.{Trixel}
use Rattle.region.specs.declared.Halfspace.{Halfspace}
use Rattle.region.specs.Building.{is_offset}
use Rattle.classify_prepared.specs.declared.PreparedHalfspace.{PreparedHalfspace}
use Rattle.classify_prepared.specs.declared.Ray.{Ray}
use Rattle.classify_prepared.specs.declared.TrixelRays.{TrixelRays}
use Rattle.classify.specs.Shape.{square, positive, ray0, ray1, ray2, volume, e_of, f_of, DOf, GOf}

abbrev pub prepared : Halfspace → PreparedHalfspace
prepared h = record {
  f = f_of h;
  d = h.d;
  low = DOf (e_of h);
  high = GOf (e_of h);
  rest = dot (f_of h) (f_of h) -ℤ square (DOf (e_of h));
}

pub record SoundHalfspace (q : PreparedHalfspace) : Type 0 where
  pub halfspace : Halfspace
  pub vector : is_vector halfspace.n ≡ true
  pub offset : is_offset halfspace.d ≡ true
  pub is : q ≡ prepared halfspace

pub record Rest (z : ℤ) : Type 0 where
  pub sign : T (non_neg z)
  pub size : Upto (3 * 2 ^ 40) z

abbrev pub upper_square : ℤ → ℕ
upper_square z = nat_abs z / 1024 * (nat_abs z / 1024)

unfoldable pub height_of : Vec3 → ℕ
height_of v = (upper_square v.x + upper_square v.y + upper_square v.z) / 2 ^ 32

abbrev pub square_of : Ray → ℕ
square_of y = nat_abs (dot y.r y.r)

pub record IsRay (v : Vec3) (y : Ray) : Type 0 where
  pub r : y.r ≡ v
  pub height : y.height ≡ height_of v
  pub size : AtMost (2 ^ 41) v

pub record OwnRays (s : TrixelRays) : Type 0 where
  pub r0 : IsRay s.r0.r s.r0
  pub r1 : IsRay s.r1.r s.r1
  pub r2 : IsRay s.r2.r s.r2

pub record RaysOf (t : Trixel) (s : TrixelRays) : Type 0 where
  pub r0 : IsRay (ray0 t) s.r0
  pub r1 : IsRay (ray1 t) s.r1
  pub r2 : IsRay (ray2 t) s.r2
  pub oriented : s.oriented ≡ positive (volume t)
