-- `classify_prepared::cross_ray` is the cross product, with its height. Assumes nothing.
use mathlib.Core.Path.{subst}
use Rattle.classify_prepared.specs.Measures.{IsRay}
use Rattle.classify_prepared.proofs.cross_ray.Goals as goal

pub returns : goal.returns
returns c = subst (λ v. IsRay v c.ray_of.result) c.cross.ensures.value c.ray_of.ensures
