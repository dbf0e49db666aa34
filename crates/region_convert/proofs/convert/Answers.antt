-- The file is decoded; where it has the wanted style it is copied, and else written from the rows that were decoded (ConvertAnswers). Assumes nothing.
use mathlib.Core.Path.{◌≡◌, sym, ap, ◌∙◌}
use lib.ListN.{length-replicate}
use lib.Seq.{length-take-le}
use lib.IntN.{pos}
use Rattle.std.proofs.Common.{rules}
use Rattle.std.proofs.lemmas.Result.{err_from_is_err_and}
use Rattle.answer.specs.Answer.{gives, with_value}
use Rattle.answer.specs.Calls.{answer_of}
use Rattle.region.specs.Reader.{style_of}
use Rattle.region.specs.Reader as reader
use Rattle.region.specs.Answers.{header_of}
use Rattle.region_convert.proofs.ConvertAnswers.{same_file, file_refused, headed, itself, enough, anew}
use Rattle.region_convert.proofs.convert.Goals as goal
use Rattle.region_convert.proofs.convert.Goals.{In_ok-h}

says : (c : In_ok-h) → let a = c.args in
    gives c.in_ok-h.h ≡ with_value header_of (reader.read a.file.now)
says c = sym (ap answer_of c.in_ok-h.was) ∙ c.decode.ensures.result_value

pub style_of-requires : goal.style_of-requires
style_of-requires c = headed _ _ (says (goal.at.style_of-requires c).In_ok-h)

pub returns-then-eq : goal.returns-then-eq
returns-then-eq c =
    let a = c.args in
    let same = itself a.file.now c.in_ok-h.h (says (goal.at.returns-then-eq c).In_ok-h) a.style (search rules) in
    let both = same_file a.out.now same (c.as_it_is.ensures.result_value, c.as_it_is.ensures.out_after) in record {
      result_value = both.0;
      out_after = both.1;
    }

-- the rows lie within the array
pub slice_bounds-rows-end : goal.slice_bounds-rows-end
slice_bounds-rows-end c =
    enough c.args.file.now c.in_ok-h.h (says (goal.at.slice_bounds-rows-end c).In_ok-h) _ _ c.decode.ensures.rows_after (length-replicate 2560 (pos 0))

pub slice_bounds-write-end : goal.slice_bounds-write-end
slice_bounds-write-end c =
    sym (length-take-le _ _ (enough c.args.file.now c.in_ok-h.h (says (goal.at.slice_bounds-write-end c).In_ok-h) _ _ c.decode.ensures.rows_after (length-replicate 2560 (pos 0))))

pub returns : goal.returns
returns c =
    let a = c.args in
    let other : a.style ≡ style_of a.file.now → ⊥ = search rules in
    let both = same_file a.out.now (anew a.file.now c.in_ok-h.h (says (goal.at.returns c).In_ok-h) _ _ c.decode.ensures.rows_after a.style other) (c.write.ensures.result_value, c.write.ensures.out_after) in record {
      result_value = both.0;
      out_after = both.1;
    }

pub returns-in_err-h : goal.returns-in_err-h
returns-in_err-h c =
    let a = c.args in
    let p = err_from_is_err_and c.from_residual.result c.from_residual.ensures.1 in
    let both = file_refused a.style a.file.now a.out.now _ (sym (ap answer_of c.in_err-h.was) ∙ c.decode.ensures.result_value) in
    rw (p.1, p.2) (record {
      result_value = both.0;
      out_after = both.1;
    })
