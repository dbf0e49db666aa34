-- `classify_prepared::turned` is f: the sign of d is tested by its bits. Assumes nothing.
use mathlib.Core.Path.{sym, ap, ◌∙◌}
use mathlib.Core.Bool.{cond}
use Rattle.algebra.proofs.Sized.{sign_held}
use Rattle.vector.specs.Vectors.{minus}
use Rattle.classify_prepared.proofs.turned.Goals as goal

pub negated-requires : goal.negated-requires
negated-requires c = c.requires

pub returns-then-d-lt0 : goal.returns-then-d-lt0
returns-then-d-lt0 c =
    let n = c.args.n in
    (c.negated.ensures.value ∙ sym (ap (λ b. cond b n (minus n)) (sign_held c.ranges.d c.if-d-lt0.true)), c.negated.ensures.small)

pub returns : goal.returns
returns c = let n = c.args.n in (sym (ap (λ b. cond b n (minus n)) (sign_held c.ranges.d c.if-d-lt0.false)), c.requires)
