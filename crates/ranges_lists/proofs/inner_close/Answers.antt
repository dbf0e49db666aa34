-- `ranges_lists::inner_close` is the two cases of `inner_close`: fewer ranges than the budget, and a full list. Assumes nothing.
use native.Mathlib.Omega.{arith}
use Rattle.ranges_stored.specs.Stored.{differences}
use Rattle.ranges_stored.proofs.HintLaws.{hinted_any, hinted_stored}
use Rattle.ranges_lists.proofs.InnerStored.{close_appends, close_full, close_hint}
use Rattle.ranges_lists.proofs.inner_close.Goals as goal

pub returns-then-stored-budget : goal.returns-then-stored-budget
returns-then-stored-budget c =
    let a = c.args in
    let next = c.inner_full in
    let w = close_full a.budget a.stored.n a.list.now a.r (omega arith) _ (omega arith) (omega arith) next.ensures.list_after in
    let h = close_hint a.budget a.stored.n a.list.now a.r (omega arith) next.result (omega arith) next.ensures.hinted_2 in record {
      writes = w;
      n_le_budget = omega arith;
      hinted_2 = hinted_stored next.result (differences 0) _ _ _ _ w h;
    }

pub returns : goal.returns
returns c =
    let a = c.args in
    record {
      writes = close_appends a.budget a.stored.n a.list.now a.r (omega arith) (omega arith) c.append.ensures.writes;
      n_le_budget = omega (arith, c.append.ensures.one_more);
      hinted_2 = hinted_any c.append.ensures.hint _;
    }
