-- `htm::cover` decodes the file, checks the lent list's length, and covers the rows. Assumes nothing.
use Prim.Native.Nat.{ℕ, ◌*◌, ◌≤◌, ◌<◌}
use native.Mathlib.Omega.{arith}
use mathlib.Core.Path.{◌≡◌, sym, ap, subst, ◌∙◌}
use Rattle.std.proofs.lemmas.Result.{err_from_is_err_and}
use Rattle.region.proofs.BudgetLaws.{budget_one}
use Rattle.answer.specs.Calls.{answer_of}
use Rattle.covering_walk.specs.Walk.{CoversRows}
use Rattle.covering_calls.specs.Decoded.{Decoded}
use Rattle.covering_calls.proofs.DecodedLaws.{decoded, depth_fits, some_rows}
use Rattle.htm.proofs.CoverAnswers.{file_refused, no_room, covered}
use Rattle.htm.proofs.cover.Goals as goal
use Rattle.htm.proofs.cover.Goals.{In_ok-h}

-- the bounds of the lent list's test, by the budget that was read
budget_bounds : {r b n : ℕ} → r ≡ b → (n < 4 * r → n < 4 * b) × (4 * r ≤ n → 4 * b ≤ n)
budget_bounds e = (λ h. omega arith, λ h. omega arith)

-- the file is decoded
file : (c : In_ok-h) → Decoded c.args.file.now c.in_ok-h.h c.decode.new.rows
file c =
    decoded c.args.file.now c.in_ok-h.h _ _ (sym (ap answer_of c.in_ok-h.was) ∙ c.decode.ensures.result_value) c.decode.ensures.rows_after

pub overflow_mul-budget : goal.overflow_mul-budget
overflow_mul-budget c = omega (arith, c.budget_of-budget.ensures.1)

pub returns-then-out-budget : goal.returns-then-out-budget
returns-then-out-budget c =
    let a = c.args in
    let both = no_room a.file.now a.out.now _ _ (file (goal.at.returns-then-out-budget c).In_ok-h) ((budget_bounds c.budget_of-budget.ensures.0).0 (omega (arith, c.if-out-budget.true))) in record {
      result_value = both.0;
      out_after = both.1;
    }

pub cover-requires : goal.cover-requires
cover-requires c =
    let k = file (goal.at.cover-requires c).In_ok-h in record {
      le_depth = depth_fits k;
      some_rows = some_rows k;
      le_budget = (subst (λ n. 1 ≤ n) (sym c.budget_of-budget.ensures.0) (budget_one c.in_ok-h.h.budget), omega (arith, c.if-out-budget.false));
    }

pub shape_of-out : goal.shape_of-out
shape_of-out c = c.cover.auto.out

pub returns : goal.returns
returns c =
    let a = c.args in
    let d = c.in_ok-h.h in
    let rs = c.decode.new.rows in
    let both = covered a.file.now a.out.now d rs (file (goal.at.returns c).In_ok-h) ((budget_bounds c.budget_of-budget.ensures.0).1 (omega (arith, c.if-out-budget.false)))
    (subst (λ n. CoversRows d.count rs n d.depth a.out.now c.cover.result c.cover.new.out) c.budget_of-budget.ensures.0 c.cover.ensures) in record {
      result_value = both.0;
      out_after = both.1;
    }

pub returns-in_err-h : goal.returns-in_err-h
returns-in_err-h c =
    let a = c.args in
    let p = err_from_is_err_and c.from_residual.result c.from_residual.ensures.1 in
    let both = file_refused a.file.now a.out.now _ (sym (ap answer_of c.in_err-h.was) ∙ c.decode.ensures.result_value) in
    rw (p.1, p.2) (record {
      result_value = both.0;
      out_after = both.1;
    })
