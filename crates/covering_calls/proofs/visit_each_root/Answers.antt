use Prim.Native.Nat.{◌-◌, ◌^◌, ◌≤◌}
use native.Mathlib.Nat.{pow-le-pow_right}
use lib.Dec.{lit<}
use native.Mathlib.Omega.{arith}
use mathlib.Core.Path.{refl}
use Rattle.covering_walk.proofs.VisitLaws.{rooting_start, root_needs, rooting_more, rooted}
use Rattle.covering_calls.proofs.visit_each_root.Goals as goal

pub overflow_sub-left : goal.overflow_sub-left
overflow_sub-left c = omega (arith, c.requires.root_needs.low)

-- at most 4¹¹
pub pow-span-requires : goal.pow-span-requires
pow-span-requires c =
    let m : 4 ^ (c.args.depth - 1) ≤ 4 ^ 11 = pow-le-pow_right {n = 4} (lit< tt) {i = c.args.depth - 1} {j = 11} (omega (arith, c.requires.root_needs.high)) in omega arith

pub loop-k-init : goal.loop-k-init
loop-k-init c = rooting_start c.requires.root_needs c.requires.active_lists_in refl c.pow-span.ensures

pub root-trixel-requires : goal.root-trixel-requires
root-trixel-requires c = omega arith

pub visit-requires : goal.visit-requires
visit-requires c = let d = c.loop-k.invariant in record {
  needs = root_needs d (omega arith);
  active_lists_in = d.active;
}

pub loop-k-preserved : goal.loop-k-preserved
loop-k-preserved c =
    rooting_more c.loop-k.invariant (omega arith) c.root-trixel.ensures c.visit.ensures

pub returns : goal.returns
returns c = rooted c.loop-k.invariant (omega arith)
