-- Header, the rows' records and the end stand one after the other, and so as the file. Assumes nothing.
use native.Mathlib.Omega.{arith}
use mathlib.Core.Path.{refl, ap, ◌∙◌}
use mathlib.Core.List.{◌++◌}
use Rattle.answer.specs.Lent.{put}
use Rattle.region.specs.Bytes.{word_bytes}
use Rattle.region.specs.Writer.{region_bytes}
use Rattle.answer.proofs.PutLaws.{put_next}
use Rattle.region_writer.proofs.WriterLaws.{header_rows_end}
use Rattle.region_writer.proofs.put_file.Goals as goal

pub returns : goal.returns
returns c g e =
    let a = c.args in
    let kind = word_bytes 8 ++ word_bytes 1 in
    let one = put_next 0 kind (word_bytes a.settings.depth) a.out.now c.put_kind.ensures c.put_word.ensures refl (omega arith) in
    let header = put_next 0 (kind ++ word_bytes a.settings.depth) (word_bytes a.settings.budget) a.out.now one c.put_word-2.ensures refl (omega arith) in
    let rows = c.put_rows-at.ensures g e in
    c.put_kind-2.ensures
    ∙ header_rows_end a.style a.settings.depth a.settings.budget g a.out.now c.put_rows-at.result _ rows.0 (rows.1 ∙ ap (put 8 (region_bytes a.style g)) header)
