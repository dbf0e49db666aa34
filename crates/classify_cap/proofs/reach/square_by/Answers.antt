-- `classify_cap::reach::square_by` is safe: x / 2³¹ is below 2³², so its square fits, and a height is at most 3·2³⁰. Assumes nothing.
use native.Mathlib.Omega.{arith}
use Rattle.classify_rays.proofs.RayLaws.{ray_most}
use Rattle.classify_cap.proofs.reach.square_by.Goals as goal

pub overflow_add-result : goal.overflow_add-result
overflow_add-result c = record { fits = omega (arith, ray_most c.requires.ray) }
