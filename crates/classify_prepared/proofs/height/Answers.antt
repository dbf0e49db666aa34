-- `classify_prepared::height` is the height: three squares of at most 2⁶² fit a word. Assumes nothing.
use Prim.Native.Nat.{◌+◌, ◌/◌, ◌^◌}
use mathlib.Core.Path.{ap, ◌∙◌}
use native.Mathlib.Omega.{arith}
use Rattle.algebra.proofs.Sized.{held}
use Rattle.classify_prepared.specs.Measures.{upper_square, height_of}
use Rattle.classify_prepared.proofs.height.Goals as goal

pub overflow_add-result : goal.overflow_add-result
overflow_add-result c = record { fits = omega arith }

pub overflow_add-result-2 : goal.overflow_add-result-2
overflow_add-result-2 c = record { fits = omega arith }

pub returns : goal.returns
unfolding height_of
returns c =
    let ex = c.upper_square.ensures.0 ∙ ap upper_square (held c.requires.x tt).eq in
    let ey = c.upper_square-2.ensures.0 ∙ ap upper_square (held c.requires.y tt).eq in
    let ez = c.upper_square-3.ensures.0 ∙ ap upper_square (held c.requires.z tt).eq in
    λ i. (ex i + ey i + ez i) / 2 ^ 32
