-- `covering_calls::finish` adds up what the outer list contains, ends the inner list, and reads the counts. Assumes nothing.
use native.Mathlib.Omega.{arith}
use mathlib.Core.Path.{ap, ◌∙◌}
use Rattle.covering_tally.specs.Tally.{counts_in}
use Rattle.covering_calls.proofs.finish.Goals as goal

pub identifiers_in-contained-requires : goal.identifiers_in-contained-requires
identifiers_in-contained-requires c = (omega (arith, c.requires.tally_invariant.outer, c.requires.tally_invariant.list), c.requires.counts_contained.few)

pub counts-requires : goal.counts-requires
counts-requires c = omega (arith, c.requires.counts_contained.counted, c.identifiers_in-contained.ensures)

pub returns : goal.returns
returns c =
    let e = c.end_inner-m in
    record { inner = e.result; behind = e.ensures; counts = c.counts.ensures ∙ ap (λ m. counts_in c.args.s.now e.result m) c.identifiers_in-contained.ensures }
