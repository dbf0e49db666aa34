-- `ranges_lists::outer_push` is the four cases of `outer_push`: the first range, a touching one, fewer than the budget, and a full list. Assumes nothing.
use Prim.Native.Nat.{◌*◌, ◌-◌}
use mathlib.Core.Path.{sym, ◌∙◌}
use native.Mathlib.Omega.{arith}
use lib.ListN.{length-set}
use Rattle.ranges.specs.Lists.{gaps}
use Rattle.ranges_stored.proofs.HintLaws.{hinted_any, hinted_stored}
use Rattle.ranges_lists.proofs.OuterStored.{push_first, push_extends, push_keeps, push_appends, push_full, push_hint}
use Rattle.ranges_lists.proofs.outer_push.Goals as goal

pub returns-then-n-eq0 : goal.returns-then-n-eq0
returns-then-n-eq0 c = record {
  writes = push_first _ _ _ _ (omega arith) c.append.ensures.writes;
  n_le_n = (omega (arith, c.append.ensures.one_more), omega (arith, c.append.ensures.one_more));
  hinted_2 = hinted_any c.append.ensures.hint _;
}

pub shape_of-list-then-touches : goal.shape_of-list-then-touches
shape_of-list-then-touches c = simp length-set (omega arith)

pub returns-then-touches : goal.returns-then-touches
returns-then-touches c =
    let a = c.args in
    let n = a.stored.n in
    let t = sym c.touches.ensures ∙ c.if-touches.true in
    let w = push_extends a.budget n a.list.now a.r (2 * n - 1) (omega arith) (omega arith) (omega arith) t in
    let h = push_keeps a.budget n a.list.now a.r (2 * n - 1) (omega arith) (omega arith) (omega arith) a.stored.hint t c.requires.hinted in
    record {
      writes = w;
      n_le_n = (omega arith, omega arith);
      hinted_2 = hinted_stored a.stored.hint gaps _ _ _ _ w h;
    }

pub returns-then-n-budget : goal.returns-then-n-budget
returns-then-n-budget c =
    let a = c.args in
    let n = a.stored.n in
    record {
      writes = push_appends a.budget n a.list.now a.r (2 * n - 1) (omega arith) (omega arith) (omega arith)
          (sym c.touches.ensures ∙ c.if-touches.false) (omega arith) c.append-then-n-budget.ensures.writes;
      n_le_n = (omega (arith, c.append-then-n-budget.ensures.one_more), omega (arith, c.append-then-n-budget.ensures.one_more));
      hinted_2 = hinted_any c.append-then-n-budget.ensures.hint _;
    }

pub outer_full-requires : goal.outer_full-requires
outer_full-requires c = record {
  le_n = (omega arith, omega arith);
  hinted = c.requires.hinted;
}

pub returns : goal.returns
returns c =
    let a = c.args in
    let n = a.stored.n in
    let next = c.outer_full in
    let t = sym c.touches.ensures ∙ c.if-touches.false in
    let w = push_full a.budget n a.list.now a.r (2 * n - 1) (omega arith) (omega arith) (omega arith) t _ (omega arith) next.ensures.list_after in
    let h = push_hint a.budget n a.list.now a.r (2 * n - 1) (omega arith) (omega arith) (omega arith) t next.result (omega arith) next.ensures.hinted_2 in
    record {
      writes = w;
      n_le_n = (omega arith, omega arith);
      hinted_2 = hinted_stored next.result gaps _ _ _ _ w h;
    }
