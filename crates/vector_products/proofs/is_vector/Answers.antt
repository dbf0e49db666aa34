-- `vector_products::is_vector` is the vector rule: a vector whose components are within ±K has a length to test. Assumes nothing.
use mathlib.Core.Path.{sym, ◌∙◌}
use lib.Dec.{lit≤}
use Rattle.algebra.proofs.Tests.{and_then, and_else}
use Rattle.vector.specs.Vectors.{is_vector}
use Rattle.vector.proofs.SizeLaws.{at_most_mono, small_tested}
use Rattle.vector_products.proofs.is_vector.Goals as goal

pub has_unit_length-requires : goal.has_unit_length-requires
unfolding is_vector
has_unit_length-requires c = at_most_mono (lit≤ tt) (small_tested c.args.p (sym c.is_small.ensures ∙ c.if-is_small.true))

pub returns-then-is_small : goal.returns-then-is_small
unfolding is_vector
returns-then-is_small c = c.has_unit_length.ensures ∙ and_then _ (sym c.is_small.ensures ∙ c.if-is_small.true)

pub returns-else-is_small : goal.returns-else-is_small
unfolding is_vector
returns-else-is_small c = c.is_small.ensures ∙ and_else _ (sym c.is_small.ensures ∙ c.if-is_small.false)
