-- `frames_walk::disposition_of` by its first two tests; it asks the region about a vector. Assumes nothing.
use mathlib.Core.Path.{sym, ◌∙◌}
use Rattle.vector.proofs.VectorLaws.{vector_small}
use Rattle.frames_walk.proofs.disposition_of.Goals as goal

pub returns-then-inner : goal.returns-then-inner
returns-then-inner c = rw c.if-inner.true

pub returns-then-not-outer : goal.returns-then-not-outer
returns-then-not-outer c = rw (c.if-inner.false, c.if-not-outer.true)

pub rows_hold-requires-clause-small : goal.rows_hold-requires-clause-small
rows_hold-requires-clause-small c = vector_small c.args.p (sym c.is_vector.ensures ∙ c.if-is_vector.true)
