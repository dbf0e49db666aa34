-- `region_reader::decode` checks 1, reads the header, and then, in the style of the first of them, the records after its 8 bytes. Assumes nothing.
use mathlib.Core.Path.{◌≡◌, sym, ap, ◌∙◌}
use Rattle.std.proofs.lemmas.Result.{err_from_is_err_and}
use Rattle.answer.specs.Answer.{gives, with_value}
use Rattle.answer.specs.Calls.{answer_of}
use Rattle.region.specs.Reader.{header}
use Rattle.region_records.specs.Headers.{settings_of}
use Rattle.region_reader.proofs.ReadAnswers.{long_said, header_refused, header_begins, header_bytes_law, records_said}
use Rattle.region_reader.proofs.decode.Goals as goal
use Rattle.region_reader.proofs.decode.Goals.{In_ok-settings}

-- the file has a header
headed : (c : In_ok-settings) →
    gives c.in_ok-settings.settings ≡ with_value settings_of (header c.args.file.now)
headed c = sym (ap answer_of c.in_ok-settings.was) ∙ c.header_in.ensures

pub returns-then-file-gt-MAX_FILE_BYTES : goal.returns-then-file-gt-MAX_FILE_BYTES
returns-then-file-gt-MAX_FILE_BYTES c = let a = c.args in let both = long_said a.file.now a.rows.now _ c.if-file-gt-MAX_FILE_BYTES.true in record {
  result_value = both.0;
  rows_after = both.1;
}

pub style_of-requires : goal.style_of-requires
style_of-requires c =
    header_begins c.args.file.now c.if-file-gt-MAX_FILE_BYTES.false c.in_ok-settings.settings (headed (goal.at.style_of-requires c).In_ok-settings)

pub records_in-requires : goal.records_in-requires
records_in-requires c = header_bytes_law c.args.file.now c.if-file-gt-MAX_FILE_BYTES.false c.in_ok-settings.settings (headed (goal.at.records_in-requires c).In_ok-settings)

pub returns : goal.returns
returns c =
    let a = c.args in
    let both = records_said a.file.now c.if-file-gt-MAX_FILE_BYTES.false c.in_ok-settings.settings (headed (goal.at.returns c).In_ok-settings) c.style_of.result c.style_of.ensures
    _ a.rows.now _ c.records_in.ensures.result_value c.records_in.ensures.rows_given in record {
      result_value = both.0;
      rows_after = both.1;
    }

pub returns-in_err-settings : goal.returns-in_err-settings
returns-in_err-settings c =
    let a = c.args in
    let p = err_from_is_err_and c.from_residual.result c.from_residual.ensures.1 in
    let both = header_refused a.file.now c.if-file-gt-MAX_FILE_BYTES.false _ a.rows.now _ (sym (ap answer_of c.in_err-settings.was) ∙ c.header_in.ensures) in
    rw (p.1, p.2) (record {
      result_value = both.0;
      rows_after = both.1;
    })
