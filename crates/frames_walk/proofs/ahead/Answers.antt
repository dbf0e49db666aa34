-- `frames_walk::ahead` leaves out those behind. Assumes nothing.
use native.Mathlib.Omega.{arith}
use mathlib.Core.Path.{ap, ◌∙◌}
use lib.ListN.{drop, length-drop}
use lib.Seq.{take_all}
use Rattle.frames_walk.specs.Lent.{ranges_of}
use Rattle.frames_walk.proofs.RangeLaws.{ahead_of}
use Rattle.frames_walk.proofs.ahead.Goals as goal

pub returns : goal.returns
returns c =
    let v = c.args in
    ap ranges_of (take_all _ _ (omega (arith, length-drop c.behind.result v.list.now)) ∙ ap (λ k. drop k v.list.now) c.behind.ensures.0) ∙ ahead_of v.id v.list.now
