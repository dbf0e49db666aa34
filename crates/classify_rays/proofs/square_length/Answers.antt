-- `classify_rays::square_length` is r·r: the sum of three squares within 2⁸². Assumes nothing.
use Prim.Native.Nat.{ℕ, ◌+◌, ◌*◌}
use native.Mathlib.Nat.{lt_of_le_of_lt, add-le-add}
use mathlib.Core.Path.{sym, ap, ◌∙◌}
use lib.Dec.{lit<}
use lib.IntN.{ℤ, nat_abs}
use Rattle.algebra.proofs.Sized.{held}
use Rattle.vector.proofs.SizeLaws.{dot_self}
use Rattle.classify_rays.proofs.square_length.Goals as goal

pub sum-requires : goal.sum-requires
sum-requires c = lt_of_le_of_lt (add-le-add c.squared.ensures.1 c.squared-2.ensures.1) (lit< tt)

pub returns : goal.returns
returns c =
    let square : ℤ → ℕ = λ v. nat_abs v * nat_abs v in
    let ex = c.squared.ensures.0 ∙ ap square (held c.requires.x tt).eq in
    let ey = c.squared-2.ensures.0 ∙ ap square (held c.requires.y tt).eq in
    let ez = c.squared-3.ensures.0 ∙ ap square (held c.requires.z tt).eq in
    let exy = c.sum.ensures ∙ (λ i. ex i + ey i) in
    c.sum-2.ensures ∙ (λ i. exy i + ez i) ∙ sym (ap nat_abs (dot_self c.args.r))
