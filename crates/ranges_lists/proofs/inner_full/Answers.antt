-- `ranges_lists::inner_full` finds the shortest range; the new one is below it, or it is dropped. Assumes nothing.
use native.Mathlib.Omega.{arith}
use mathlib.Core.Path.{refl}
use Rattle.ranges_stored.proofs.HintLaws.{points_inside}
use Rattle.ranges_lists.proofs.InnerStored.{full_stays, full_shifts}
use Rattle.ranges_lists.proofs.inner_full.Goals as goal

pub at_smallest-next-requires : goal.at_smallest-next-requires
at_smallest-next-requires c = record {
  le_count = (omega arith, omega arith);
  hinted = c.requires.hinted;
}

-- the new range is the shortest
pub returns-then-size_less_one-next : goal.returns-then-size_less_one-next
returns-then-size_less_one-next c =
    let a = c.args in
    let both = full_stays a.stored.n a.list.now a.r _ (omega arith) refl c.at_smallest-next.result c.at_smallest-next.ensures (omega arith) in record {
      list_after = both.0;
      hinted_2 = both.1;
    }

pub overflow_mul-next : goal.overflow_mul-next
overflow_mul-next c = omega (arith, points_inside 0 0 _ _ c.at_smallest-next.ensures)

pub replace-requires : goal.replace-requires
replace-requires c = (omega (arith, points_inside 0 0 _ _ c.at_smallest-next.ensures), omega arith)

-- another one is
pub returns : goal.returns
returns c =
    let a = c.args in
    let both = full_shifts a.stored.n a.list.now a.r _ (omega arith) refl c.at_smallest-next.result c.at_smallest-next.ensures (omega arith) _ c.replace.ensures in record {
      list_after = both.0;
      hinted_2 = both.1;
    }
