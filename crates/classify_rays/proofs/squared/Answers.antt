-- `classify_rays::squared` is the product of the absolute value with itself. Assumes nothing.
use Prim.Native.Nat.{◌*◌, ◌^◌, ◌≤◌}
use native.Mathlib.Nat.{mul-le-mul}
use mathlib.Core.Path.{◌≡◌, sym, ap, subst, ◌∙◌}
use lib.IntN.{nat_abs}
use Rattle.algebra.proofs.Sized.{held}
use Rattle.classify_rays.proofs.squared.Goals as goal

pub returns : goal.returns
returns c =
    let n = c.unsigned_abs-n.ensures.value ∙ ap nat_abs (held c.requires tt).eq in
    let e : _ ≡ nat_abs c.args.a * nat_abs c.args.a = c.product.ensures ∙ (λ i. n i * n i) in
    (e, subst (λ m. m ≤ 2 ^ 82) (sym e) (mul-le-mul c.requires.le c.requires.le))
