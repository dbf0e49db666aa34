-- `htm::from_c::htm_header` decodes the file into an array of its own, checks the lent list's length, and puts the four numbers. Assumes nothing.
use native.Mathlib.Omega.{arith}
use mathlib.Core.Path.{sym, ap, ◌∙◌}
use Rattle.answer.specs.Calls.{answer_of}
use Rattle.covering_calls.specs.Decoded.{Decoded}
use Rattle.covering_calls.proofs.DecodedLaws.{decoded}
use Rattle.htm.proofs.CLaws.{sent, no_contents, no_contents_room, contents_put, filled_rows, contents_left}
use Rattle.htm.proofs.from_c.htm_header.Goals as goal
use Rattle.htm.proofs.from_c.htm_header.Goals.{In-Ok}

-- the file is decoded
file : (c : In-Ok) → Decoded c.args.file.now c.in-Ok.h c.decode.new.rows
file c = decoded _ c.in-Ok.h _ _ (sym (ap answer_of c.in-Ok.is) ∙ c.decode.ensures.result_value) c.decode.ensures.rows_after

pub returns-then-header-lt-CONTENTS_LENGTH : goal.returns-then-header-lt-CONTENTS_LENGTH
returns-then-header-lt-CONTENTS_LENGTH c =
    let s = c.args in
    let x = file (goal.at.returns-then-header-lt-CONTENTS_LENGTH c).In-Ok in
    let k = no_contents_room s.file.now s.header.now x.file x.accepted (omega (arith, c.if-header-lt-CONTENTS_LENGTH.true)) in
    record {
      value = sent c.minus.ensures c.number.ensures ∙ k.0;
      header_after = k.1;
    }

pub convexes_in-convexes-requires : goal.convexes_in-convexes-requires
convexes_in-convexes-requires c = let x = file (goal.at.convexes_in-convexes-requires c).In-Ok in (x.file.region, filled_rows x)

pub put_contents-requires : goal.put_contents-requires
put_contents-requires c = omega (arith, c.if-header-lt-CONTENTS_LENGTH.false)

pub shape_of-header : goal.shape_of-header
shape_of-header c = c.put_contents.auto.header

pub returns-else-header-lt-CONTENTS_LENGTH : goal.returns-else-header-lt-CONTENTS_LENGTH
returns-else-header-lt-CONTENTS_LENGTH c =
    let s = c.args in
    let x = file (goal.at.returns-else-header-lt-CONTENTS_LENGTH c).In-Ok in
    let k = contents_put s.file.now s.header.now x.file x.accepted (omega (arith, c.if-header-lt-CONTENTS_LENGTH.false)) in
    record {
      value = k.0;
      header_after = contents_left x s.header.now (c.convexes_in-convexes.ensures x.file.region (filled_rows x)) c.put_contents.ensures ∙ k.1;
    }

pub returns-in-Err : goal.returns-in-Err
returns-in-Err c =
    let s = c.args in
    let k = no_contents s.file.now s.header.now _ (sym (ap answer_of c.in-Err.is) ∙ c.decode.ensures.result_value) in
    record {
      value = sent c.minus-in-Err.ensures c.number-in-Err.ensures ∙ k.0;
      header_after = k.1;
    }
