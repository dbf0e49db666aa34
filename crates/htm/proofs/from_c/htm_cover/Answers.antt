-- `htm::from_c::htm_cover` checks that there is room for the counts, and covers. Assumes nothing.
use native.Mathlib.Omega.{arith}
use mathlib.Core.Path.{sym, ap, ◌∙◌}
use Rattle.answer.specs.Calls.{answer_of}
use Rattle.htm.proofs.CLaws.{sent, short_counts, covers}
use Rattle.htm.proofs.from_c.htm_cover.Goals as goal

pub returns-then-counts-lt-COVER_COUNTS : goal.returns-then-counts-lt-COVER_COUNTS
returns-then-counts-lt-COVER_COUNTS c =
    let s = c.args in
    let k = short_counts s.file.now s.out.now s.counts.now (omega (arith, c.if-counts-lt-COVER_COUNTS.true)) _ c.file_refusal_or_space.ensures in
    record {
      value = sent c.minus.ensures c.number.ensures ∙ k.0;
      out_after = k.1.0;
      counts_after = k.1.1;
    }

pub put_counts-requires : goal.put_counts-requires
put_counts-requires c = omega (arith, c.if-counts-lt-COVER_COUNTS.false)

pub shape_of-out-in-Ok : goal.shape_of-out-in-Ok
shape_of-out-in-Ok c = c.cover.auto.out

pub shape_of-counts : goal.shape_of-counts
shape_of-counts c = c.put_counts.auto.counts

pub returns-in-Ok : goal.returns-in-Ok
returns-in-Ok c =
    let s = c.args in
    let k = covers s.file.now s.out.now s.counts.now (omega (arith, c.if-counts-lt-COVER_COUNTS.false)) _ _ (sym (ap answer_of c.in-Ok.is) ∙ c.cover.ensures.result_value) c.cover.ensures.out_after in
    record {
      value = k.0;
      out_after = k.1.0;
      counts_after = c.put_counts.ensures ∙ k.1.1;
    }

pub shape_of-out-in-Err : goal.shape_of-out-in-Err
shape_of-out-in-Err c = c.cover.auto.out

pub returns-in-Err : goal.returns-in-Err
returns-in-Err c =
    let s = c.args in
    let k = covers s.file.now s.out.now s.counts.now (omega (arith, c.if-counts-lt-COVER_COUNTS.false)) _ _ (sym (ap answer_of c.in-Err.is) ∙ c.cover.ensures.result_value) c.cover.ensures.out_after in
    record {
      value = sent c.minus-in-Err.ensures c.number-in-Err.ensures ∙ k.0;
      out_after = k.1.0;
      counts_after = k.1.1;
    }
