-- `region_reader::read` decodes the file, and only then, where the lent list is long enough, copies the rows to its beginning. Assumes nothing.
use Prim.Native.Nat.{◌+◌, ◌*◌, ◌≤◌}
use native.Mathlib.Omega.{arith}
use mathlib.Core.Path.{◌≡◌, sym, ap, ◌∙◌}
use mathlib.Core.List.{◌++◌}
use lib.ListN.{length, take, drop}
use lib.Seq.{length-take-le}
use Rattle.std.proofs.lemmas.Result.{err_from_is_err_and}
use Rattle.answer.specs.Answer.{gives, with_value}
use Rattle.answer.specs.Calls.{answer_of}
use Rattle.region.specs.Reader as reader
use Rattle.region.specs.Answers.{header_of}
use Rattle.region_reader.proofs.ReadAnswers.{file_refused, no_room, count_most, rows_read}
use Rattle.region_reader.proofs.read.Goals as goal
use Rattle.region_reader.proofs.read.Goals.{In_ok-h}

says : (c : In_ok-h) → gives c.in_ok-h.h ≡ with_value header_of (reader.read c.args.file.now)
says c = sym (ap answer_of c.in_ok-h.was) ∙ c.decode.ensures.result_value

pub returns-then-rows-n : goal.returns-then-rows-n
returns-then-rows-n c =
    let a = c.args in
    let both = no_room a.file.now a.rows.now c.in_ok-h.h (says (goal.at.returns-then-rows-n c).In_ok-h) c.if-rows-n.true in record {
      result_value = both.0;
      rows_after = both.1;
    }

most : (c : In_ok-h) → 5 * c.in_ok-h.h.count ≤ 2560
most c = count_most c.args.file.now c.args.rows.now c.in_ok-h.h (says c)

pub slice_bounds-decoded-end : goal.slice_bounds-decoded-end
slice_bounds-decoded-end c = omega (arith, most (goal.at.slice_bounds-decoded-end c).In_ok-h)

pub slice_bounds-copy_from_slice-end-3 : goal.slice_bounds-copy_from_slice-end-3
slice_bounds-copy_from_slice-end-3 c =
    sym (length-take-le (5 * c.in_ok-h.h.count) c.decode.new.rows (omega (arith, most (goal.at.slice_bounds-copy_from_slice-end-3 c).In_ok-h, c.decode.array_long)))

pub copy_from_slice-requires : goal.copy_from_slice-requires
copy_from_slice-requires c =
    let n = 5 * c.in_ok-h.h.count in
    length-take-le n c.args.rows.now c.if-rows-n.false
    ∙ sym (length-take-le n c.decode.new.rows (omega (arith, most (goal.at.copy_from_slice-requires c).In_ok-h, c.decode.array_long)))

pub returns : goal.returns
returns c =
    let a = c.args in
    let n = 5 * c.in_ok-h.h.count in
    let h = (goal.at.returns c).In_ok-h in
    let e : n ≡ 0 + length (take n c.decode.new.rows) = omega (arith, length-take-le n c.decode.new.rows (omega (arith, most h, c.decode.array_long))) in
    let both = rows_read a.file.now a.rows.now c.in_ok-h.h (says h) _ _ c.decode.ensures.rows_after c.if-rows-n.false _
    (ap (λ l. l ++ drop n a.rows.now) c.copy_from_slice.ensures.after ∙ ap (λ m. take n c.decode.new.rows ++ drop m a.rows.now) e) in record {
      result_value = both.0;
      rows_after = both.1;
    }

pub returns-in_err-h : goal.returns-in_err-h
returns-in_err-h c =
    let a = c.args in
    let p = err_from_is_err_and c.from_residual.result c.from_residual.ensures.1 in
    let both = file_refused a.file.now a.rows.now _ (sym (ap answer_of c.in_err-h.was) ∙ c.decode.ensures.result_value) in
    rw (p.1, p.2) (record {
      result_value = both.0;
      rows_after = both.1;
    })
