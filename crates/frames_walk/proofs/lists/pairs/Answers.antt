-- `frames_walk::lists::pairs` takes the first pairs. Assumes nothing.
use native.Mathlib.Omega.{arith}
use Prim.Native.Nat.{◌/◌}
use mathlib.Core.Path.{ap, ◌∙◌}
use lib.ListN.{length, take}
use Rattle.frames_walk.specs.Lent.{ranges_of}
use Rattle.frames_walk.proofs.RangeLaws.{first_pairs}
use Rattle.frames_walk.proofs.lists.pairs.Goals as goal

pub returns : goal.returns
returns c =
    let v = c.args in
    ap (λ ps. ranges_of (take v.n ps)) c.as_chunks.ensures.front ∙ first_pairs v.n (length v.list.now / 2) v.list.now (omega (arith, c.requires))
