-- `trial_calls::score_of` counts the identifiers of the outer list at depth 12. Assumes nothing.
use Prim.Native.Nat.{◌+◌, ◌-◌}
use native.Mathlib.Omega.{arith}
use native.Mathlib.Nat.{pow-le-pow_right}
use lib.Dec.{lit<}
use Rattle.trial_calls.proofs.ScoreLaws.{sky_fits}
use Rattle.trial_calls.proofs.score_of.Goals as goal

pub pow-span-requires : goal.pow-span-requires
pow-span-requires c = omega (arith, pow-le-pow_right {n = 4} (lit< tt) {i = 12 - c.args.depth} {j = 12} (omega arith))

pub overflow_mul-result : goal.overflow_mul-result
overflow_mul-result c =
    let a = c.args in
    let m = a.made.counts in
    omega (arith, sky_fits a.depth (m.full + m.partial + m.swallowed) c.pow-span.result c.requires.2 c.pow-span.ensures c.requires.0)
