-- `region_records::header_in` checks 2, 3 and 4, and hands the payload on as that part of the file. Assumes nothing.
use mathlib.Core.Path.{◌≡◌, sym, ap, ◌∙◌}
use Rattle.answer.specs.Answer.{gives, with_value}
use Rattle.answer.specs.Calls.{answer_of}
use Rattle.region.specs.declared.Record.{Record}
use Rattle.region.specs.Reader as reader
use Rattle.region_records.specs.Headers.{settings_of}
use Rattle.region_records.proofs.FrameLaws.{Framed, frame_says, header_refused, payload_at, header_first, header_by}
use Rattle.std.proofs.Common.{rules}
use Rattle.std.proofs.lemmas.Result.{err_from_is_err_and}
use Rattle.region_records.proofs.header_in.Goals as goal
use Rattle.region_records.proofs.header_in.Goals.{In_ok-len}

framed : (c : In_ok-len) → Framed c.args.file.now c.in_ok-len.field-0.len c.in_ok-len.field-0.«record»
framed c = frame_says _ _ _ (sym (ap answer_of c.in_ok-len.was) ∙ c.frame_at.ensures)

pub returns-in_err-len : goal.returns-in_err-len
returns-in_err-len c =
    let e = err_from_is_err_and c.from_residual.result c.from_residual.ensures.1 in
    rw (e.1, e.2) (ap (with_value settings_of) (sym (header_refused c.args.file.now _ (sym (ap answer_of c.in_err-len.was) ∙ c.frame_at.ensures))))

pub returns-then-ne : goal.returns-then-ne
returns-then-ne c =
    let no : c.in_ok-len.field-0.«record» ≡ Record.Header → ⊥ = search rules in
    ap (with_value settings_of) (sym (header_by c.args.file.now _ (framed (goal.at.returns-then-ne c).In_ok-len).record_is ∙ header_first _ no _))

pub returns : goal.returns
returns c =
    let is : c.in_ok-len.field-0.«record» ≡ Record.Header = search rules in
    let f = framed (goal.at.returns c).In_ok-len in
    c.header_payload.ensures
    ∙ ap (λ s. with_value settings_of (reader.header_of s)) (payload_at c.args.file.now 0 _ f.len_is)
    ∙ ap (with_value settings_of) (sym (header_by c.args.file.now Record.Header (f.record_is ∙ ap gives is)))
