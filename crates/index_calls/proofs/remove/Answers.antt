-- `index_calls::remove` tests the owner, looks for the key, and moves the entries behind its entry down by one. Assumes nothing.
use Prim.Native.Nat.{◌*◌, ◌-◌}
use native.Mathlib.Omega.{arith}
use mathlib.Core.Path.{ap, ◌∙◌}
use Rattle.algebra.specs.Moves.{shifted_down}
use Rattle.index.specs.Exposures.{is_owner, key}
use Rattle.std.proofs.lemmas.Result.{err_from_is_err_and}
use Rattle.index_calls.proofs.CallLaws.{by_remove, no_owner, of_owner, too_short, is_absent, is_removed}
use lib.ListN.{drop}
use Rattle.std.specs.Prelude.{Err}
use Rattle.index.specs.Entries.{Width, entries_from}
use Rattle.index_entries.specs.Steps.{Found}
use Rattle.index_calls.proofs.remove.Goals as goal

pub returns-in_err-check_owner : goal.returns-in_err-check_owner
returns-in_err-check_owner c =
    let v = c.args in
    let p = err_from_is_err_and c.from_residual.result c.from_residual.ensures.1 in
    let s = c.in_err-check_owner.ensures in
    let both = by_remove _ _ _ _ (no_owner (is_owner v.owner) _ v.index.now s.1) in
    rw (p.1, p.2, s.0) (record { result_value = both.0; index_after = both.1 })

pub returns-in_err-check_length : goal.returns-in_err-check_length
returns-in_err-check_length c =
    let v = c.args in
    let p = err_from_is_err_and c.from_residual-in_err-check_length.result c.from_residual-in_err-check_length.ensures.1 in
    let s = c.in_err-check_length.ensures in
    let both = by_remove _ _ _ _ (of_owner c.in_ok-check_owner.ensures (too_short v.index.now _ s.1)) in
    rw (p.1, p.2, s.0) (record { result_value = both.0; index_after = both.1 })

pub returns-in_default : goal.returns-in_default
returns-in_default c =
    let v = c.args in
    let f : Found c.count_in-n.result (key v.owner v.number) (entries_from c.count_in-n.result (drop 1 v.index.now)) (Err c.in_default.field-0) = c.in_default.ensures in
    let both = by_remove _ _ _ _
    (of_owner c.in_ok-check_owner.ensures
    (is_absent v.index.now c.count_in-n.result c.in_ok-check_length.ensures c.count_in-n.ensures.0 (key v.owner v.number) c.count_in-n.result f.0 (omega arith))) in record {
      result_value = both.0;
      index_after = both.1;
    }

pub returns : goal.returns
returns c =
    let v = c.args in
    let f = c.in-Ok.ensures in
    let both = by_remove _ _ _ _
    (of_owner c.in_ok-check_owner.ensures
    (is_removed v.index.now c.count_in-n.result c.in_ok-check_length.ensures c.count_in-n.ensures.0 (key v.owner v.number) c.in-Ok.i f.0 _
    f.1 (omega arith)
    (c.shift_down.ensures ∙ ap (λ k. shifted_down Width k v.index.now (Width * (c.count_in-n.result - 1 - c.in-Ok.i))) c.element_of.ensures))) in record {
      result_value = both.0;
      index_after = both.1;
    }
