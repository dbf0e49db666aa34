-- `index_calls::entry` reads the entry at a place below the count. Assumes nothing.
use native.Mathlib.Omega.{arith}
use mathlib.Core.Path.{ap, ◌∙◌}
use Rattle.answer.specs.Answer.{gives}
use Rattle.index.specs.Entries.{found}
use Rattle.std.proofs.lemmas.Result.{err_from_is_err_and}
use Rattle.index_calls.proofs.CallLaws.{entry_short, is_past, has_entry}
use Rattle.index_calls.proofs.entry.Goals as goal

pub returns-in_err-check_length : goal.returns-in_err-check_length
returns-in_err-check_length c =
    let p = err_from_is_err_and c.from_residual.result c.from_residual.ensures.1 in
    rw (p.1, p.2, c.in_err-check_length.ensures.0) (entry_short c.args.index.now c.args.place c.in_err-check_length.ensures.1)

pub returns-then-count_in-i : goal.returns-then-count_in-i
returns-then-count_in-i c = is_past c.args.index.now c.args.place c.in_ok-check_length.ensures c.count_in.result c.count_in.ensures.0 (omega arith)

pub returns : goal.returns
returns c =
    ap (λ e. gives (found e)) c.nth_entry.ensures ∙ has_entry c.args.index.now c.args.place c.in_ok-check_length.ensures c.count_in.result c.count_in.ensures.0 (omega arith)
