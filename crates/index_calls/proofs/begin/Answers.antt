-- `index_calls::begin` stores the count 0, so there are no entries. Assumes nothing.
use Rattle.std.proofs.lemmas.Result.{err_from_is_err_and}
use Rattle.index_calls.proofs.CallLaws.{by_begin, too_short, begun}
use Rattle.index_calls.proofs.begin.Goals as goal

pub returns-in_err-check_length : goal.returns-in_err-check_length
returns-in_err-check_length c =
    let p = err_from_is_err_and c.from_residual.result c.from_residual.ensures.1 in
    let s = c.in_err-check_length.ensures in
    let both = by_begin _ _ _ (too_short c.args.index.now _ s.1) in
    rw (p.1, p.2, s.0) (record { result_value = both.0; index_after = both.1 })

pub returns : goal.returns
returns c = let both = by_begin _ _ _ (begun c.args.index.now c.in_ok-check_length.ensures) in record {
  result_value = both.0;
  index_after = both.1;
}
