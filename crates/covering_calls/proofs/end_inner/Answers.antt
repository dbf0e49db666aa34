-- `covering_calls::end_inner` lends the list from element 2 × budget on to the inner list's writer, and so leaves what is before it. Assumes nothing.
use Prim.Native.Nat.{◌*◌, ◌≤◌}
use native.Mathlib.Omega.{arith}
use mathlib.Core.Path.{sym, ap, subst}
use lib.ListN.{length, length-drop}
use Rattle.ranges.proofs.Pushing.{inner_end}
use Rattle.ranges_stored.specs.Stored.{differences_in, Writes, Hinted, state_of}
use Rattle.covering_tally.proofs.LentTail.{tail_lent, tail_back}
use Rattle.covering_calls.proofs.end_inner.Goals as goal

pub inner_end-requires : goal.inner_end-requires
inner_end-requires c =
    let s = c.args.s.now in
    let out = c.args.out.now in
    let r = c.requires in
    let e = tail_lent (2 * s.budget) out (omega (arith, r.list)) in record {
      le_budget = (r.budget, r.inner, omega (arith, r.list, ap length e, length-drop (2 * s.budget) out));
      hinted = subst (λ l. Hinted s.inner.stored.hint (differences_in 0 0 s.inner.stored.n l)) (sym e) r.inner_hinted;
    }

pub returns : goal.returns
returns c =
    let s = c.args.s.now in
    let out = c.args.out.now in
    let h : 2 * s.budget ≤ length out = omega (arith, c.requires.list) in
    let e = c.inner_end in
    record {
      rest = e.new.list;
      list = tail_back (2 * s.budget) out h _;
      writes = subst (λ l. Writes (inner_end s.budget (state_of s.inner l)) l e.new.list e.result) (tail_lent (2 * s.budget) out h) e.ensures.writes;
    }
