-- The code makes the rule's checks in their order, and each refusal returns before the file is written. The length of the file follows from the
-- size of the region, so whether it fits is known before (WriterLaws). Assumes nothing.
use native.Mathlib.Omega.{arith}
use mathlib.Core.Path.{◌≡◌, sym, ap, ◌∙◌}
use Rattle.std.proofs.lemmas.Result.{err_from_is_err_and}
use Rattle.answer.specs.Answer.{gives}
use Rattle.answer.specs.Calls.{answer_of}
use Rattle.answer.specs.Lent.{put}
use Rattle.region.specs.Writer.{file_in}
use Rattle.region_records.specs.Headers.{settings_in}
use Rattle.region_writer.proofs.WriterLaws.{SettingsPassed, settings_passed, no_settings, no_rows, no_room, has_file, RowsWithin, passed, counted_length, has_room}
use Rattle.region_writer.proofs.write.Goals as goal
use Rattle.region_writer.proofs.write.Goals.{In_ok-settings, In_ok-counts}

-- depth and budget passed
settings : (c : In_ok-settings) → gives c.in_ok-settings.settings ≡ settings_in c.args.depth c.args.budget
settings c = sym (ap answer_of c.in_ok-settings.was) ∙ c.checked.ensures

within : (c : In_ok-settings) → SettingsPassed c.args.depth c.args.budget c.in_ok-settings.settings
within c = settings_passed _ _ c.in_ok-settings.settings (settings c)

-- the rows passed, and these are their counts
counts : (c : In_ok-counts) → RowsWithin c.args.rows.now c.in_ok-counts.counts
counts c = passed _ c.in_ok-counts.counts (sym (ap answer_of c.in_ok-counts.was) ∙ c.checked-2.ensures)

pub returns-in_err-settings : goal.returns-in_err-settings
returns-in_err-settings c =
    let p = err_from_is_err_and c.from_residual.result c.from_residual.ensures.1 in
    let both = no_settings _ _ _ _ _ _ (sym (ap answer_of c.in_err-settings.was) ∙ c.checked.ensures) in
    rw (p.1, p.2) (record {
      result_value = both.0;
      out_after = both.1;
    })

pub file_length-len-requires : goal.file_length-len-requires
file_length-len-requires c = let q = counts (goal.at.file_length-len-requires c).In_ok-counts in (q.few, q.limit)

pub returns-then-out-len : goal.returns-then-out-len
returns-then-out-len c =
    let a = c.args in
    let v = goal.at.returns-then-out-len c in
    let q = counts v.In_ok-counts in
    let both = no_room _ _ _ _ _ _ (settings v.In_ok-settings) q.region q.is
    (omega (arith, c.file_length-len.ensures, counted_length q a.style a.depth a.budget, c.if-out-len.true)) in record {
      result_value = both.0;
      out_after = both.1;
    }

pub put_file-requires : goal.put_file-requires
put_file-requires c =
    let v = goal.at.put_file-requires c in
    let w = within v.In_ok-settings in
    record {
      depth_bound = (omega (arith, ap (λ t. t.depth) w.same, w.depth), omega (arith, ap (λ t. t.budget) w.same, w.budget));
      file_fits = has_room (counts v.In_ok-counts) c.args.style _ (omega (arith, c.file_length-len.ensures, c.if-out-len.false));
    }

pub returns-in_err-counts : goal.returns-in_err-counts
returns-in_err-counts c =
    let p = err_from_is_err_and c.from_residual-in_err-counts.result c.from_residual-in_err-counts.ensures.1 in
    let both = no_rows _ _ _ _ _ _ (settings (goal.at.returns-in_err-counts c).In_ok-settings) _ (sym (ap answer_of c.in_err-counts.was) ∙ c.checked-2.ensures) in
    rw (p.1, p.2) (record {
      result_value = both.0;
      out_after = both.1;
    })

pub returns : goal.returns
returns c =
    let a = c.args in
    let v = goal.at.returns c in
    let q = counts v.In_ok-counts in
    let same = (within v.In_ok-settings).same in
    let both = has_file a.style a.depth a.budget a.rows.now a.out.now _ (settings v.In_ok-settings) q.region q.is
    (c.file_length-len.ensures ∙ counted_length q a.style a.depth a.budget) c.if-out-len.false
    (c.put_file.ensures q.region q.is ∙ ap (λ t. put 0 (file_in a.style t.depth t.budget q.region) a.out.now) same) in record {
      result_value = both.0;
      out_after = both.1;
    }
