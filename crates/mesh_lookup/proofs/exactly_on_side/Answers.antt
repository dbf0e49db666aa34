-- `mesh_lookup::exactly_on_side` is the sign of the normal's product with p. Assumes nothing.
use mathlib.Core.Path.{ap, ◌∙◌}
use lib.IntN.{pos}
use lib.Signed.{le_z}
use Rattle.algebra.proofs.Sized.{held}
use Rattle.vector.specs.Vectors.{dot}
use Rattle.mesh_lookup.proofs.exactly_on_side.Goals as goal

pub returns : goal.returns
returns c = ap (le_z (pos 0)) ((held c.dot.ensures.upto tt).eq ∙ c.dot.ensures.value ∙ ap (λ v. dot v c.args.p) c.normal.ensures.0)
