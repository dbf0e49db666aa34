-- The code counts the bits of the identifier, and the count gives the depth (DepthBits). Assumes nothing.
use native.Mathlib.Omega.{arith}
use mathlib.Core.Path.{sym}
use Rattle.std.proofs.lemmas.Grind.{common_steps}
use Rattle.std.proofs.lemmas.Bool.Decides.{nat_tests}
use Rattle.mesh_names.proofs.DepthBits.{bits_of_word, depth_of_bits, no_depth_of_bits}
use Rattle.mesh_names.proofs.depth_of.Goals as goal
use Rattle.mesh_names.proofs.depth_of.Goals.{then-bits-lt4, else-bits-lt4}

pub returns-then-bits-eq1-clause-value : goal.returns-then-bits-eq1-clause-value
returns-then-bits-eq1-clause-value c =
    sym (no_depth_of_bits _ _ (bits_of_word c.args.id c.ranges.id.fits)
    (λ d l e. elim c.if-bits-lt4.branch [ then-bits-lt4 w ↦ omega arith | else-bits-lt4 w ↦ grind (arith, nat_tests, common_steps) ]))

pub returns-else-bits-eq1-clause-value : goal.returns-else-bits-eq1-clause-value
returns-else-bits-eq1-clause-value c =
    let b = bits_of_word c.args.id c.ranges.id.fits in
    elim c.if-bits-lt4.branch [
      | then-bits-lt4 w ↦ absurd (grind (arith, nat_tests, common_steps))
      | else-bits-lt4 w ↦ sym (depth_of_bits _ _ b (omega arith) (omega arith) (grind (arith, nat_tests, common_steps)))
    ]
