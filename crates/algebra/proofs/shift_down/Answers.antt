use Prim.Native.Nat.{◌+◌}
use mathlib.Core.Path.{refl, ap, ◌∙◌}
use native.Mathlib.Omega.{arith}
use lib.ListN.{length-set, set}
use Rattle.algebra.proofs.Moves.{shifted_down_start, shifted_down_step, shifted_down_end}
use Rattle.algebra.proofs.shift_down.Goals as goal

pub loop-k-init : goal.loop-k-init
loop-k-init g c = (shifted_down_start _ _ _, refl)

pub loop-k-preserved : goal.loop-k-preserved
loop-k-preserved g c =
    let b = c.loop-k in
    (ap (set b.list (c.args.at + b.k)) c.index-list-at.is ∙ shifted_down_step _ _ _ _ _ (omega arith) _ b.invariant.0, simp length-set b.invariant.1)

pub returns : goal.returns
returns g c = shifted_down_end _ _ _ _ _ _ c.loop-k.invariant.0 (omega arith)
