-- `ranges_lists::inner_end` is the two cases of `inner_end`: no range at all, and a last one. Assumes nothing.
use native.Mathlib.Omega.{arith}
use Rattle.ranges_lists.proofs.InnerStored.{end_none, end_some}
use Rattle.ranges_lists.proofs.inner_end.Goals as goal

pub returns-in_default : goal.returns-in_default
returns-in_default c = record {
  writes = end_none c.args.budget c.args.p c.args.list.now c.in_default.is;
  upper_bound = omega arith;
}

pub returns : goal.returns
returns c = record {
  writes = end_some c.args.budget c.args.p c.args.list.now c.in-Some.last c.in-Some.is _ _ c.inner_close.ensures.writes;
  upper_bound = c.inner_close.ensures.n_le_budget;
}
