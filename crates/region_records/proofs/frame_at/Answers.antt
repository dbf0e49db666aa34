-- `region_records::frame_at` checks 2, then 3, of the record that begins at `at`. Assumes nothing.
use native.Mathlib.Omega.{arith}
use mathlib.Core.Path.{◌≡◌, sym, ap, ◌∙◌}
use mathlib.Core.Bool.{true}
use lib.ListN.{drop}
use Rattle.std.proofs.lemmas.Result.{err_from_is_err_and}
use Rattle.answer.specs.Answer.{Answer}
use Rattle.answer.specs.Calls.{answer_of}
use Rattle.region.specs.declared.Record.{Record}
use Rattle.region.specs.Reader.{whole}
use Rattle.region_records.specs.Frames.{frame_by, frame_of}
use Rattle.region_records.proofs.FrameLaws.{whole_left, whole_least, frame_torn, frame_is}
use Rattle.region_records.proofs.frame_at.Goals as goal
use Rattle.region_records.proofs.frame_at.Goals.{Else-not-is_whole, After-record_of}

is_whole : (c : Else-not-is_whole) → whole (drop c.args.at c.args.file.now) ≡ true
is_whole c = sym c.is_whole.ensures ∙ c.if-not-is_whole.false

-- what the record was found to be
found : (c : After-record_of) → let a = c.args in
    whole (drop a.at a.file.now) ≡ true → (r : Answer Record) → r ≡ answer_of c.record_of.result → frame_by c.word-len.result r ≡ frame_of (drop a.at a.file.now)
found c w r e =
    let a = c.args in
    frame_is a.file.now a.at c.word-len.result c.word.result c.word-len.ensures.value c.word.ensures.value w r (e ∙ c.record_of.ensures)

pub is_whole-requires : goal.is_whole-requires
is_whole-requires c = c.requires

pub returns-then-not-is_whole : goal.returns-then-not-is_whole
returns-then-not-is_whole c = let a = c.args in frame_torn (drop a.at a.file.now) (sym c.is_whole.ensures ∙ c.if-not-is_whole.true)

pub word-len-requires : goal.word-len-requires
word-len-requires c = let a = c.args in omega (arith, whole_left a.file.now a.at (is_whole (goal.at.word-len-requires c).Else-not-is_whole))

pub word-requires : goal.word-requires
word-requires c = let a = c.args in omega (arith, whole_left a.file.now a.at (is_whole (goal.at.word-requires c).Else-not-is_whole))

pub record_of-requires : goal.record_of-requires
record_of-requires c =
    let a = c.args in
    omega (arith, c.word-len.ensures.value, whole_least a.file.now a.at (is_whole (goal.at.record_of-requires c).Else-not-is_whole))

pub returns : goal.returns
returns c = let p = goal.at.returns c in found p.After-record_of (is_whole p.Else-not-is_whole) _ (sym (ap answer_of c.in_ok-record.was))

pub returns-in_err-record : goal.returns-in_err-record
returns-in_err-record c =
    let p = goal.at.returns-in_err-record c in
    let e = err_from_is_err_and c.from_residual.result c.from_residual.ensures.1 in
    rw (e.1, e.2) (found p.After-record_of (is_whole p.Else-not-is_whole) _ (sym (ap answer_of c.in_err-record.was)))
