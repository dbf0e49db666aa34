-- `mount::pointing` is the rule of a report's pointing: its three components, each by the width of its case. Assumes nothing.
use mathlib.Core.Path.{sym, ap, ◌∙◌}
use Rattle.mount.specs.Reports as reports
use Rattle.mount.specs.Reports.{three_of}
use Rattle.mount.proofs.pointing.Goals as goal

pub returns-in-Single : goal.returns-in-Single
returns-in-Single c =
    let z = c.before in
    let y = z.before in
    let x = y in
    c.three_of.ensures
    ∙ (λ i. three_of (x.of_single.ensures i) (y.of_single-in-Single.ensures i) (z.of_single-in-Single-2.ensures i))
    ∙ sym (ap reports.pointing x.in-Single.is)

pub returns-in-Double : goal.returns-in-Double
returns-in-Double c =
    let z = c.before in
    let y = z.before in
    let x = y in
    c.three_of-in-Double.ensures
    ∙ (λ i. three_of (x.of_double.ensures i) (y.of_double-in-Double.ensures i) (z.of_double-in-Double-2.ensures i))
    ∙ sym (ap reports.pointing x.in-Double.is)
