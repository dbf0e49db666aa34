use native.Mathlib.Omega.{arith}
use mathlib.Core.Path.{ap, ◌∙◌}
use Rattle.std.proofs.lemmas.Result.{err_from_is_err_and}
use Rattle.answer.specs.Answer.{gives}
use Rattle.answer.specs.Calls.{answer_of}
use Rattle.region_reader.proofs.ReadingLaws.{reading_none, reading_further, reading_more, reading_done, reading_refused}
use Rattle.region_reader.proofs.records_in.Goals as goal

pub loop-next-init : goal.loop-next-init
loop-next-init c =
    let a = c.args in
    reading_none a.style a.file.now a.settings a.rows.now c.requires _ c.none.ensures

pub record_in-requires : goal.record_in-requires
record_in-requires c = c.loop-next.invariant.within

pub loop-next-smaller : goal.loop-next-smaller
loop-next-smaller c =
    let a = c.args in
    let n = reading_further a.style a.file.now a.settings a.rows.now c.loop-next.rows c.loop-next.s c.loop-next.invariant
    (answer_of c.record_in.result) _ c.record_in.ensures c.in-Continue.next (ap answer_of c.in_ok-next.was ∙ ap gives c.in-Continue.is) in
    omega arith

pub loop-next-preserved : goal.loop-next-preserved
loop-next-preserved c =
    let a = c.args in
    reading_more a.style a.file.now a.settings a.rows.now c.loop-next.rows c.loop-next.s c.loop-next.invariant
    (answer_of c.record_in.result) _ c.record_in.ensures c.in-Continue.next (ap answer_of c.in_ok-next.was ∙ ap gives c.in-Continue.is)

pub returns-in-Break : goal.returns-in-Break
returns-in-Break c =
    let a = c.args in
    let both = reading_done a.style a.file.now a.settings a.rows.now c.loop-next.rows c.loop-next.s c.loop-next.invariant
    (answer_of c.record_in.result) _ c.record_in.ensures c.in-Break.count (ap answer_of c.in_ok-next.was ∙ ap gives c.in-Break.is) in record {
      result_value = both.0;
      rows_given = both.1;
    }

pub returns-in_err-next : goal.returns-in_err-next
returns-in_err-next c =
    let a = c.args in
    let p = err_from_is_err_and c.from_residual.result c.from_residual.ensures.1 in
    let both = reading_refused a.style a.file.now a.settings a.rows.now c.loop-next.rows c.loop-next.s c.loop-next.invariant
    (answer_of c.record_in.result) _ c.record_in.ensures _ (ap answer_of c.in_err-next.was) in
    rw (p.1, p.2) (record {
      result_value = both.0;
      rows_given = both.1;
    })
