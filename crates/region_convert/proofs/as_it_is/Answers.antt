-- Where the list is long enough the file is copied to its beginning. Assumes nothing.
use mathlib.Core.Path.{refl, ◌∙◌}
use Rattle.answer.specs.Answer.{gives}
use Rattle.region.proofs.FileAnswers.{no_space, file_written}
use Rattle.region_convert.proofs.as_it_is.Goals as goal

pub returns-then-out-file : goal.returns-then-out-file
returns-then-out-file c = let a = c.args in let both = no_space (gives a.file.now) a.out.now a.file.now refl c.if-out-file.true in record {
  result_value = both.0;
  out_after = both.1;
}

pub returns : goal.returns
returns c =
    let a = c.args in
    let w = file_written (gives a.file.now) a.out.now a.file.now refl c.if-out-file.false in
    record {
      result_value = w.0;
      out_after = c.copy.ensures ∙ w.1;
    }
