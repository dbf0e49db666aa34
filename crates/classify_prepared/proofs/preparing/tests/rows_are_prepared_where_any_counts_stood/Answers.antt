-- The row of the test is one of an accepted file. Assumes nothing.
use Rattle.std.proofs.Common.{zero, suc, refl, arith}
use Rattle.vector.specs.Vectors.{is_vector}
use Rattle.classify_prepared.proofs.preparing.tests.rows_are_prepared_where_any_counts_stood.Goals as goal

pub prepare-requires-clause-fit_rows : goal.prepare-requires-clause-fit_rows
unfolding is_vector
prepare-requires-clause-fit_rows g c zero h = record { vector = refl; offset = refl; place = 0; number = refl; few = omega arith }
prepare-requires-clause-fit_rows g c (suc i) h = absurd (omega (arith, h))
