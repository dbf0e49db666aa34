-- `classify_prepared::measured` has the three rays of the trixel, and the sign of P0·r0. Assumes nothing.
use Prim.Native.Nat.{◌^◌}
use mathlib.Core.Path.{sym, ap, subst, ◌∙◌}
use lib.IntN.{pos}
use lib.Signed.{lt_z}
use Rattle.algebra.proofs.Sized.{held}
use Rattle.vector.specs.Vectors.{dot}
use Rattle.vector.proofs.Sizes.{AtMost}
use Rattle.vector.proofs.SizeLaws.{at_most_cross}
use Rattle.classify_prepared.specs.Measures.{IsRay}
use Rattle.classify_prepared.proofs.measured.Goals as goal

-- the first ray, which is given, is a product of two small vectors
pub ray_of-requires : goal.ray_of-requires
ray_of-requires c = subst (AtMost (2 ^ 41)) (sym c.requires.r_value) (at_most_cross c.requires.small_trixel.p1 c.requires.small_trixel.p2)

pub returns : goal.returns
returns c =
    record {
      r0 = subst (λ v. IsRay v c.ray_of.result) c.requires.r_value c.ray_of.ensures;
      r1 = c.cross_ray.ensures;
      r2 = c.cross_ray-2.ensures;
      oriented = ap (lt_z (pos 0)) ((held c.dot.ensures.upto tt).eq ∙ c.dot.ensures.value ∙ ap (dot c.args.t.now.p0) c.requires.r_value);
    }
