-- `classify_cap::middle_of` is b: the sum of three corners is at most 3 K in each component. Assumes nothing.
use Prim.Native.Nat.{◌^◌}
use mathlib.Core.Path.{sym, ap, subst, ◌∙◌}
use borrow.Author.Rules.{rules}
use Rattle.vector.specs.Vectors.{plus, unit}
use Rattle.vector.proofs.Sizes.{AtMost}
use Rattle.vector.proofs.SizeLaws.{at_most_plus}
use Rattle.classify.specs.Shape.{b_of}
use Rattle.classify_cap.proofs.middle_of.Goals as goal

pub sum-requires-2 : goal.sum-requires-2
sum-requires-2 c = record {
  at_most = subst (AtMost (2 ^ 21)) (sym c.sum.ensures.value) (at_most_plus c.requires.v0 c.requires.v1);
  at_most_2 = search rules;
}

pub unit-requires : goal.unit-requires
unit-requires c = c.sum-2.ensures.at_most_3

pub returns : goal.returns
unfolding b_of
returns c = record {
  value = c.unit.ensures.value ∙ ap unit (c.sum-2.ensures.value ∙ ap (λ v. plus v c.args.t.now.v2) c.sum.ensures.value);
  small = c.unit.ensures.small;
}
