-- `htm::from_c::htm_read` checks that there is room for the header, and reads. Assumes nothing.
use native.Mathlib.Omega.{arith}
use mathlib.Core.Path.{sym, ap, ◌∙◌}
use Rattle.answer.specs.Calls.{answer_of}
use Rattle.htm.proofs.CLaws.{sent, short_header, reads}
use Rattle.htm.proofs.from_c.htm_read.Goals as goal

pub returns-then-header-lt-HEADER_LENGTH : goal.returns-then-header-lt-HEADER_LENGTH
returns-then-header-lt-HEADER_LENGTH c =
    let s = c.args in
    let k = short_header s.file.now s.rows.now s.header.now (omega (arith, c.if-header-lt-HEADER_LENGTH.true)) _ c.file_refusal_or_space.ensures in
    record {
      value = sent c.minus.ensures c.number.ensures ∙ k.0;
      rows_after = k.1.0;
      header_after = k.1.1;
    }

pub put_header-requires : goal.put_header-requires
put_header-requires c = omega (arith, c.if-header-lt-HEADER_LENGTH.false)

pub shape_of-rows-in-Ok : goal.shape_of-rows-in-Ok
shape_of-rows-in-Ok c = c.read.auto.rows

pub shape_of-header : goal.shape_of-header
shape_of-header c = c.put_header.auto.header

pub returns-in-Ok : goal.returns-in-Ok
returns-in-Ok c =
    let s = c.args in
    let k = reads s.file.now s.rows.now s.header.now (omega (arith, c.if-header-lt-HEADER_LENGTH.false)) _ _ (sym (ap answer_of c.in-Ok.is) ∙ c.read.ensures.result_value) c.read.ensures.rows_after in
    record {
      value = k.0;
      rows_after = k.1.0;
      header_after = c.put_header.ensures ∙ k.1.1;
    }

pub shape_of-rows-in-Err : goal.shape_of-rows-in-Err
shape_of-rows-in-Err c = c.read.auto.rows

pub returns-in-Err : goal.returns-in-Err
returns-in-Err c =
    let s = c.args in
    let k = reads s.file.now s.rows.now s.header.now (omega (arith, c.if-header-lt-HEADER_LENGTH.false)) _ _ (sym (ap answer_of c.in-Err.is) ∙ c.read.ensures.result_value) c.read.ensures.rows_after in
    record {
      value = sent c.minus-in-Err.ensures c.number-in-Err.ensures ∙ k.0;
      rows_after = k.1.0;
      header_after = k.1.1;
    }
