-- `index_calls::count` is the count of a list that is long enough. Assumes nothing.
use Rattle.std.proofs.lemmas.Result.{err_from_is_err_and}
use Rattle.index_calls.proofs.CallLaws.{none_counted, is_counted}
use Rattle.index_calls.proofs.count.Goals as goal

pub returns-in_err-check_length : goal.returns-in_err-check_length
returns-in_err-check_length c =
    let p = err_from_is_err_and c.from_residual.result c.from_residual.ensures.1 in
    rw (p.1, p.2, c.in_err-check_length.ensures.0) (none_counted c.args.index.now c.in_err-check_length.ensures.1)

pub returns : goal.returns
returns c = is_counted c.args.index.now c.in_ok-check_length.ensures c.count_in.result c.count_in.ensures.0
