-- `frames_calls::frames_in` checks the lengths of the lists, and searches. Assumes nothing.
use Prim.Native.Nat.{ℕ, ◌*◌, ◌≤◌}
use Rattle.std.specs.Prelude.{Ok}
use Rattle.std.proofs.lemmas.Result.{err_from_is_err_and}
use native.Mathlib.Omega.{arith}
use mathlib.Core.Path.{◌≡◌, sym, subst}
use Rattle.region.proofs.BudgetLaws.{budget_one}
use Rattle.covering_calls.proofs.DecodedLaws.{some_rows, depth_fits}
use Rattle.frames.specs.Answers.{FramesCall}
use Rattle.frames_calls.specs.Searches.{SearchesRows}
use Rattle.frames_calls.proofs.AnswerLaws.{no_ranges, no_numbers, no_index, delivered}
use Rattle.frames_calls.proofs.frames_in.Goals as goal

pub returns-in_err-check_room : goal.returns-in_err-check_room
returns-in_err-check_room c f k =
    let a = c.args in
    let p = err_from_is_err_and c.from_residual.result c.from_residual.ensures.1 in
    let s = c.in_err-check_room.ensures in
    rw (p.1, p.2, s.0) (no_ranges a.owner a.index.now f a.ranges.now a.numbers.now c.requires.owner_value a.h a.rows.now k s.1)

pub returns-then-numbers-lt-OWNER_CAPACITY : goal.returns-then-numbers-lt-OWNER_CAPACITY
returns-then-numbers-lt-OWNER_CAPACITY c f k =
    let a = c.args in
    no_numbers a.owner a.index.now f a.ranges.now a.numbers.now c.requires.owner_value a.h a.rows.now k c.in_ok-check_room.ensures (omega (arith, c.if-numbers-lt-OWNER_CAPACITY.true))

pub returns-in_err-check_length : goal.returns-in_err-check_length
returns-in_err-check_length c f k =
    let a = c.args in
    let p = err_from_is_err_and c.from_residual-in_err-check_length.result c.from_residual-in_err-check_length.ensures.1 in
    let s = c.in_err-check_length.ensures in
    rw (p.1, p.2, s.0)
    (no_index a.owner a.index.now f a.ranges.now a.numbers.now c.requires.owner_value a.h a.rows.now k c.in_ok-check_room.ensures (omega (arith, c.if-numbers-lt-OWNER_CAPACITY.false)) s.1)

-- the range list is long enough, by the budget that was read
long_enough : {r b n : ℕ} → r ≡ b → 4 * b ≤ n → 4 * r ≤ n
long_enough e h = omega arith

pub search-made-requires : goal.search-made-requires
search-made-requires c =
    let k = c.requires.file_is.1 in record {
      le_depth = ((depth_fits k).0, (depth_fits k).1, some_rows k);
      le_budget = (subst (λ n. 1 ≤ n) (sym c.budget_of-budget.ensures.0) (budget_one c.args.h.budget), long_enough c.budget_of-budget.ensures.0 c.in_ok-check_room.ensures);
      in_bounds = omega (arith, c.if-numbers-lt-OWNER_CAPACITY.false);
    }

pub delivery-requires : goal.delivery-requires
delivery-requires c =
    let k = c.requires.file_is.1 in
    (c.search-made.ensures k.file.region k.rows).few

pub returns : goal.returns
returns c f k =
    let a = c.args in
    let lists = c.search-made.new.ranges in
    let left = c.search-made.new.numbers in
    let l = a.index.now in
    let ranges = a.ranges.now in
    let numbers = a.numbers.now in
    let w = subst (λ n. SearchesRows a.owner l a.h.depth n a.rows.now a.h.count ranges numbers c.search-made.result lists left) c.budget_of-budget.ensures.0 c.search-made.ensures in
    subst (λ t. FramesCall a.owner l f ranges numbers (Ok t) lists left) (sym c.delivery.ensures)
    (delivered a.owner l f ranges numbers c.requires.owner_value a.h a.rows.now k c.in_ok-check_room.ensures (omega (arith, c.if-numbers-lt-OWNER_CAPACITY.false)) c.in_ok-check_length.ensures c.search-made.result lists left w)
