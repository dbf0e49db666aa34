-- `mesh_lookup::table_digit` tests with three vectors of the table, which is a row. Assumes nothing.
use mathlib.Core.Path.{◌∙◌}
use Rattle.mesh_lookup.specs.LookupSteps.{digit_by}
use Rattle.mesh_table.proofs.Numbers.{table_row, vector_of_table}
use Rattle.mesh_lookup.proofs.table_digit.Goals as goal

pub vector_at-requires-clause-row : goal.vector_at-requires-clause-row
vector_at-requires-clause-row c = table_row

pub vector_at-requires-2-clause-row : goal.vector_at-requires-2-clause-row
vector_at-requires-2-clause-row c = table_row

pub vector_at-requires-3-clause-row : goal.vector_at-requires-3-clause-row
vector_at-requires-3-clause-row c = table_row

pub returns-clause-value : goal.returns-clause-value
returns-clause-value c =
    let h = c.requires.a_bound in
    let a = c.vector_at.ensures.0 ∙ vector_of_table c.args.a h.0 in
    let b = c.vector_at-2.ensures.0 ∙ vector_of_table c.args.b h.1 in
    let d = c.vector_at-3.ensures.0 ∙ vector_of_table c.args.c h.2 in
    c.digit_by.ensures.value ∙ (λ j. digit_by c.args.p (a j) (b j) (d j))
