-- `ranges_lists::outer_full` finds the smallest gap; the new one is below it, or two ranges join there. Assumes nothing.
use Prim.Native.Nat.{◌*◌, ◌-◌}
use mathlib.Core.Path.{refl, sym, ap, subst}
use native.Mathlib.Omega.{arith}
use lib.ListN.{length, get_or, length-set}
use Rattle.ranges_stored.specs.Stored.{Hinted, PointsAt}
use Rattle.ranges_stored.proofs.SearchLaws.{gaps_stored, length_differences}
use Rattle.ranges_stored.proofs.HintLaws.{points_inside}
use Rattle.ranges_lists.proofs.OuterStored.{full_extends, full_joins}
use Rattle.ranges_lists.proofs.outer_full.Goals as goal

pub shape_of-list-then-n-eq1 : goal.shape_of-list-then-n-eq1
shape_of-list-then-n-eq1 c = simp length-set (omega arith)

-- there are no gaps
pub returns-then-n-eq1 : goal.returns-then-n-eq1
returns-then-n-eq1 c =
    let a = c.args in
    let n = a.stored.n in
    let l = a.list.now in
    let both = full_extends n l a.r (a.r.low - get_or l 1 0 - 1) 1 (omega arith) (omega arith) refl a.stored.hint c.requires.hinted
    (λ i k. absurd (omega (arith, ap length (gaps_stored n l (omega arith) (omega arith)), length_differences 1 1 (n - 1) l))) in record {
      list_after = both.0;
      hinted_2 = both.1;
    }

pub at_smallest-next-requires : goal.at_smallest-next-requires
at_smallest-next-requires c = record {
  le_count = (omega arith, omega arith);
  hinted = subst (Hinted c.args.stored.hint) (gaps_stored c.args.stored.n c.args.list.now (omega arith) (omega arith)) c.requires.hinted;
}

pub shape_of-list-then-gap-next : goal.shape_of-list-then-gap-next
shape_of-list-then-gap-next c = simp length-set (omega arith)

-- the new gap is the smallest
pub returns-then-gap-next : goal.returns-then-gap-next
returns-then-gap-next c =
    let a = c.args in
    let n = a.stored.n in
    let p = subst (PointsAt c.at_smallest-next.result) (sym (gaps_stored n a.list.now (omega arith) (omega arith))) c.at_smallest-next.ensures in
    let both = full_extends n a.list.now a.r _ (2 * n - 1) (omega arith) (omega arith) refl c.at_smallest-next.result p.hinted (λ i k. omega (arith, p.hinted.at_least i k)) in record {
      list_after = both.0;
      hinted_2 = both.1;
    }

pub overflow_mul-next : goal.overflow_mul-next
overflow_mul-next c = omega (arith, points_inside 1 1 (c.args.stored.n - 1) c.args.list.now c.at_smallest-next.ensures)

pub overflow_add-next : goal.overflow_add-next
overflow_add-next c = omega (arith, points_inside 1 1 (c.args.stored.n - 1) c.args.list.now c.at_smallest-next.ensures)

pub replace-requires : goal.replace-requires
replace-requires c =
    (omega (arith, points_inside 1 1 (c.args.stored.n - 1) c.args.list.now c.at_smallest-next.ensures), omega arith)

-- another one is
pub returns : goal.returns
returns c =
    let a = c.args in
    let n = a.stored.n in
    let p = subst (PointsAt c.at_smallest-next.result) (sym (gaps_stored n a.list.now (omega arith) (omega arith))) c.at_smallest-next.ensures in
    let both = full_joins n a.list.now a.r _ (2 * n - 1) (omega arith) (omega arith) refl c.at_smallest-next.result p
    (omega (arith, points_inside 1 1 (n - 1) a.list.now c.at_smallest-next.ensures)) (omega arith) _ c.replace.ensures in record {
      list_after = both.0;
      hinted_2 = both.1;
    }
