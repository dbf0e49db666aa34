-- `htm::from_c::lookup` is the C entry's rule: the identifier that the lookup gives, or 0. Assumes nothing.
use mathlib.Core.Path.{ap, ◌∙◌}
use mir.Facts.{to_z-of_z}
use Rattle.vector.specs.Vectors.{vec}
use Rattle.mesh.specs.Lookup as mesh
use Rattle.htm_abi.specs.Values.{or_zero}
use Rattle.htm.specs.Answers.{lookup_for_c}
use Rattle.htm.proofs.from_c.lookup.Goals as goal

pub returns : goal.returns
unfolding lookup_for_c
returns c =
    c.or_zero.ensures ∙ ap or_zero (c.locate.ensures ∙ (λ i. mesh.lookup (vec (to_z-of_z c.ranges.x i) (to_z-of_z c.ranges.y i) (to_z-of_z c.ranges.z i)) c.args.depth))
