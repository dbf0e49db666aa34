-- `index_calls::add` tests the owner, looks the identifier up, and inserts the entry where it gets one. Assumes nothing.
use Prim.Native.Nat.{◌≤◌, ◌^◌}
use native.Mathlib.Omega.{arith}
use mathlib.Core.Path.{◌≡◌, sym, ap, ◌∙◌}
use lib.IntN.{pos}
use Rattle.algebra.proofs.Sized.{nat, stored_same}
use Rattle.answer.specs.Answer.{gives}
use Rattle.mesh.specs.Lookup.{lookup}
use Rattle.mesh.proofs.LookupLaws.{lookup_is, identifier_small}
use Rattle.index.specs.Exposures.{is_owner, exposed}
use Rattle.index.specs.Entries.{entry}
use Rattle.std.proofs.lemmas.Result.{err_from_is_err_and}
use Rattle.index_calls.proofs.CallLaws.{by_add, no_owner}
use Rattle.index_calls.proofs.LookupLaws.{not_added, added}
use Rattle.index_calls.proofs.add.Goals as goal
use Rattle.index_calls.proofs.add.Goals.{In_ok-id}

-- the identifier that was found, by the rule
given : (c : In_ok-id) → lookup c.args.p 12 ≡ gives c.in_ok-id.id
given c = sym c.in_ok-id.ensures

small : (c : In_ok-id) → c.in_ok-id.id ≤ 2 ^ 26
small c =
    let p = c.args.p in
    omega (arith, identifier_small p 12 (omega arith), (lookup_is p 12 _ (given c)).2)

pub returns-in_err-check_owner : goal.returns-in_err-check_owner
returns-in_err-check_owner c =
    let v = c.args in
    let p = err_from_is_err_and c.from_residual.result c.from_residual.ensures.1 in
    let s = c.in_err-check_owner.ensures in
    let both = by_add _ _ _ _ (no_owner (is_owner v.owner) _ v.index.now s.1) in
    rw (p.1, p.2, s.0) (record { result_value = both.0; index_after = both.1 })

pub returns-in_err-id : goal.returns-in_err-id
returns-in_err-id c =
    let v = c.args in
    let p = err_from_is_err_and c.from_residual-in_err-id.result c.from_residual-in_err-id.ensures.1 in
    let both = by_add _ _ _ _ (not_added (exposed v.owner v.number v.p) v.index.now c.in_err-id.field-0.0 c.in_ok-check_owner.ensures c.in_err-id.ensures) in
    rw (p.1, p.2) (record { result_value = both.0; index_after = both.1 })

pub overflow_cast-e : goal.overflow_cast-e
overflow_cast-e c = record { sfits = omega (arith, small (goal.at.overflow_cast-e c).In_ok-id) }

pub returns : goal.returns
returns c =
    let f = (goal.at.returns c).In_ok-id in
    let v = c.args in
    let l = lookup_is v.p 12 _ (given f) in
    let id = (nat (small f) tt).eq ∙ ap pos (sym l.2) in
    let number = stored_same c.from.result (omega arith) ∙ c.from.ensures in
    let owner = stored_same c.from-2.result (omega arith) ∙ c.from-2.ensures in
    let both = by_add _ _ _ _
    (added (exposed v.owner v.number v.p) _ v.index.now c.insert.new.index c.insert.result c.in_ok-check_owner.ensures l.0
    (λ j. entry (id j) (number j) (owner j) v.p) c.insert.ensures) in record {
      result_value = both.0;
      index_after = both.1;
    }
