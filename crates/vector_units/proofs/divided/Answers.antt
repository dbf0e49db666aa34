-- `vector_units::divided` is the rule's quotient of a vector: all zero where n is 0, else each component's part. Assumes nothing.
use mathlib.Core.Path.{ap, ◌∙◌}
use borrow.Author.Tests.{ne_eqb}
use lib.IntN.{pos, ◌*ℤ◌}
use mir.Syntax.{w64}
use mir.Facts.{to_z-of_z}
use Rattle.algebra.proofs.Sized.{held}
use Rattle.vector.specs.Numbers.{K, quot}
use Rattle.vector_units.proofs.divided.Goals as goal

pub returns : goal.returns
returns c =
    let n = c.args.n in
    let p = c.requires.at_most in
    let x = to_z-of_z {w = w64} (record { sfits = c.part.type_inv }) ∙ c.part.ensures ∙ ap (λ v. quot (K *ℤ v) (pos n)) (held p.x tt).eq in
    let y = to_z-of_z {w = w64} (record { sfits = c.part-2.type_inv }) ∙ c.part-2.ensures ∙ ap (λ v. quot (K *ℤ v) (pos n)) (held p.y tt).eq in
    let z = to_z-of_z {w = w64} (record { sfits = c.part-3.type_inv }) ∙ c.part-3.ensures ∙ ap (λ v. quot (K *ℤ v) (pos n)) (held p.z tt).eq in
    rw (ne_eqb n 0 c.if-n-eq0.false) (λ i. record { x = x i; y = y i; z = z i })
