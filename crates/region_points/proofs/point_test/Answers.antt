-- `region_points::point_test` decodes the file, checks the vector, and scans the rows. Assumes nothing.
use native.Mathlib.Omega.{arith}
use mathlib.Core.Path.{◌≡◌, sym, ap, ◌∙◌}
use mathlib.Core.List.{[]}
use Rattle.std.proofs.lemmas.Result.{err_from_is_err_and}
use Rattle.answer.specs.Answer.{gives, with_value}
use Rattle.answer.specs.Calls.{answer_of}
use Rattle.vector.proofs.VectorLaws.{vector_small}
use Rattle.region.specs.Reader as reader
use Rattle.region.specs.Answers.{header_of}
use Rattle.region_reader.proofs.ReadAnswers.{count_most}
use Rattle.region_points.proofs.PointAnswers.{file_refused, no_vector_law, held}
use Rattle.region_points.proofs.point_test.Goals as goal
use Rattle.region_points.proofs.point_test.Goals.{In_ok-h}

-- the file is accepted, with this header
says : (c : In_ok-h) → gives c.in_ok-h.h ≡ with_value header_of (reader.read c.args.file.now)
says c = sym (ap answer_of c.in_ok-h.was) ∙ c.decode.ensures.result_value

pub rows_hold-requires : goal.rows_hold-requires
rows_hold-requires c =
    let a = c.args in
    record {
      count_in_bounds = omega (arith, count_most a.file.now [] c.in_ok-h.h (says (goal.at.rows_hold-requires c).In_ok-h), c.decode.array_long);
      small = vector_small a.p (sym c.is_vector.ensures ∙ c.if-not-is_vector.false);
    }

pub returns : goal.returns
returns c =
    let a = c.args in
    held a.file.now a.p c.in_ok-h.h (says (goal.at.returns c).In_ok-h) (sym c.is_vector.ensures ∙ c.if-not-is_vector.false) _ _ c.decode.ensures.rows_after _ c.rows_hold.ensures

pub returns-then-not-is_vector : goal.returns-then-not-is_vector
returns-then-not-is_vector c =
    let a = c.args in
    no_vector_law a.file.now a.p c.in_ok-h.h (says (goal.at.returns-then-not-is_vector c).In_ok-h) (sym c.is_vector.ensures ∙ c.if-not-is_vector.true)

pub returns-in_err-h : goal.returns-in_err-h
returns-in_err-h c =
    let a = c.args in
    let p = err_from_is_err_and c.from_residual.result c.from_residual.ensures.1 in
    rw (p.1, p.2) (file_refused a.file.now a.p _ (sym (ap answer_of c.in_err-h.was) ∙ c.decode.ensures.result_value))
