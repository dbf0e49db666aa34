-- `classify_halfspace::least::far_at` is the test by numbers: D·n − f·b and b·b − n² stay below 2⁶³; where the latter is negative, the product is not positive.
-- Assumes nothing.
use mathlib.Core.Path.{sym, ap, ◌∙◌}
use mathlib.Core.Bool.{◌&&◌}
use lib.Dec.{lit≤}
use lib.IntN.{pos, ◌*ℤ◌}
use lib.Signed.{lt_z}
use Rattle.algebra.proofs.Sized.{held, nat, upto_mono, is_mul, is_sub}
use Rattle.classify.specs.Shape.{positive}
use Rattle.classify_halfspace.proofs.LeastFarLaws.{rest_sign, left_rest, by_front, by_squares}
use Rattle.classify_halfspace.proofs.least.far_at.Goals as goal

pub returns-then-rest-lt0 : goal.returns-then-rest-lt0
returns-then-rest-lt0 c =
    let h = c.args.h.now in
    let n = nat c.requires tt in
    let z = is_sub (is_mul (held h.bounded.low tt) n tt) (held h.bounded.along tt) tt in
    let r = is_sub (held h.bounded.square.size tt) (is_mul n n tt) tt in
    ap positive z.eq
    ∙ by_front h.low h.rest h.along h.square (rest_sign h.bounded.rest) c.args.n (ap (λ y. lt_z y (pos 0)) (sym r.eq) ∙ c.if-rest-lt0.true)

pub square_exceeds-requires : goal.square_exceeds-requires
square_exceeds-requires c =
    let h = c.args.h.now.bounded in
    let n = nat c.requires tt in
    let z = is_sub (is_mul (held h.low tt) n tt) (held h.along tt) tt in
    let r = is_sub (held h.square.size tt) (is_mul n n tt) tt in
    record {
      upto = rw z.eq (upto_mono (lit≤ tt) z.size);
      rest = (rw (held h.rest.size tt).eq h.rest, rw r.eq (left_rest h.square c.args.n (ap (λ y. lt_z y (pos 0)) (sym r.eq) ∙ c.if-rest-lt0.false)));
    }

pub returns : goal.returns
returns c =
    let h = c.args.h.now in
    let n = nat c.requires tt in
    let z = is_sub (is_mul (held h.bounded.low tt) n tt) (held h.bounded.along tt) tt in
    let r = is_sub (held h.bounded.square.size tt) (is_mul n n tt) tt in
    let p = held h.bounded.rest.size tt in
    c.square_exceeds.ensures ∙ (λ i. positive (z.eq i) && lt_z (p.eq i *ℤ r.eq i) (z.eq i *ℤ z.eq i)) ∙ by_squares h.low h.rest h.along h.square c.args.n
