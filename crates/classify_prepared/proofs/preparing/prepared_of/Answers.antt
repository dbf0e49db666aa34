-- `classify_prepared::preparing::prepared_of` prepares the halfspace of the row. Assumes nothing.
use mathlib.Core.Path.{ap, ◌∙◌}
use Rattle.algebra.proofs.Sized.{held}
use Rattle.region.specs.Regions.{halfspace_from}
use Rattle.classify_prepared.specs.Measures.{prepared}
use Rattle.classify_prepared.proofs.preparing.prepared_of.Goals as goal

pub returns : goal.returns
returns c =
    let h = c.halfspace_at-h in
    c.prepared.ensures ∙ ap (λ d. prepared (halfspace_from h.result.n d)) (held h.ensures.at_most.1 tt).eq ∙ ap prepared h.ensures.value
