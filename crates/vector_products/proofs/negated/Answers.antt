-- `vector_products::negated` is the rule's negation: a component within ±K has its negative within ±K. Assumes nothing.
use mathlib.Core.Path.{◌≡◌, sym, subst, ◌∙◌}
use lib.IntN.{+ℤ_idl}
use Rattle.algebra.proofs.Sized.{held, lit, is_sub}
use Rattle.vector.specs.Vectors.{minus}
use Rattle.vector.proofs.Sizes.{Small}
use Rattle.vector.proofs.SizeLaws.{at_most_minus}
use Rattle.vector_products.proofs.negated.Goals as goal

pub returns : goal.returns
returns c =
    let s = c in
    let p = s.requires in
    let x = (is_sub (lit 0 tt) (held p.x tt) tt).eq ∙ +ℤ_idl _ in
    let y = (is_sub (lit 0 tt) (held p.y tt) tt).eq ∙ +ℤ_idl _ in
    let z = (is_sub (lit 0 tt) (held p.z tt) tt).eq ∙ +ℤ_idl _ in
    let e : _ ≡ minus s.args.a = λ i. record { x = x i; y = y i; z = z i } in
    record {
      value = e;
      small = subst Small (sym e) (at_most_minus p);
    }
