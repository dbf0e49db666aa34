-- `mesh_lookup::lookup` is the lookup's rule: the checks 5 and 8 in their order, then the identifier. Assumes nothing.
use mathlib.Core.Path.{sym, ◌∙◌}
use Rattle.vector.proofs.VectorLaws.{vector_small}
use Rattle.mesh_lookup.proofs.AnswerLaws.{no_depth, no_vector_law, looked_up}
use Rattle.mesh_lookup.proofs.lookup.Goals as goal

pub returns-then-not-is_depth : goal.returns-then-not-is_depth
returns-then-not-is_depth c = no_depth c.args.p _ (sym c.is_depth.ensures ∙ c.if-not-is_depth.true)

pub returns-then-not-is_vector : goal.returns-then-not-is_vector
returns-then-not-is_vector c = no_vector_law c.args.p _ (sym c.is_depth.ensures ∙ c.if-not-is_depth.false) (sym c.is_vector.ensures ∙ c.if-not-is_vector.true)

pub identifier-requires-clause-small : goal.identifier-requires-clause-small
identifier-requires-clause-small c = vector_small c.args.p (sym c.is_vector.ensures ∙ c.if-not-is_vector.false)

pub returns : goal.returns
returns c =
    looked_up c.args.p _ (sym c.is_depth.ensures ∙ c.if-not-is_depth.false) (sym c.is_vector.ensures ∙ c.if-not-is_vector.false) c.identifier.ensures
