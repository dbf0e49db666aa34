-- `classify_halfspace::least::far_down`: f is far at E where it is far at a number that is reached, and else the least number at which it is far decides.
-- Assumes nothing.
use Prim.Native.Nat.{ℕ, ◌+◌, ◌*◌, ◌%◌, ◌^◌, ◌≤◌, ◌<◌}
use native.Mathlib.Omega.{arith}
use mathlib.Core.Path.{◌≡◌, sym, ap, ◌∙◌}
use Rattle.std.proofs.Math.Pow.{pow_mono}
use Rattle.std.proofs.lemmas.Nat.{pow-add, pow_pos}
use Rattle.classify_halfspace.proofs.LeastFarLaws.{rest_sign, far_at_E, far_from_zero, by_least}
use Rattle.classify_halfspace.proofs.least.far_down.Goals as goal

-- a step, as a shift has it: it is below K, and the next is four times as long
module _ (k : ℕ) where
  four : 2 ^ (2 * (k + 1)) ≡ 4 * 2 ^ (2 * k)
  four = let e : 2 * (k + 1) ≡ 2 * k + 2 = omega arith in omega (arith, ap (λ j. 2 ^ j) e, pow-add 2 (2 * k) 2)

  module _ (h : k < 10) where
    step : (1 * 2 ^ (2 * k) % 2 ^ 64 ≡ 2 ^ (2 * k)) × (2 ^ (2 * k) ≤ 2 ^ 18)
    step = let m : 2 ^ (2 * k) ≤ 2 ^ 18 = pow_mono {i = 2 * k} {j = 18} (omega arith) in (omega arith, m)

pub overflow_sub-n : goal.overflow_sub-n
overflow_sub-n c = let s = step c.loop-k.k c.loop-k-test.true in omega (arith, s.0, s.1)

pub loop-k-preserved : goal.loop-k-preserved
loop-k-preserved c =
    let k = c.loop-k.k in
    let s = step k c.loop-k-test.true in
    (omega (arith, s.0, s.1), omega arith, omega (arith, s.0, s.1, four k, pow_pos (2 * k)), sym c.far_at.ensures ∙ c.if-not-far_at.false)

pub returns-then-not-far_at : goal.returns-then-not-far_at
returns-then-not-far_at c =
    let h = c.args.h.now in
    let p = c.args.p.now in
    by_least h.along h.square h.bounded.sign (rest_sign h.bounded.rest) p.x0 p.x1 p.x2 p.s.now _ c.least_far.ensures c.reaches_all.ensures

pub returns-then-reaches_all : goal.returns-then-reaches_all
returns-then-reaches_all c =
    let h = c.args.h.now in
    let p = c.args.p.now in
    sym
    (far_at_E h.along h.square h.bounded.sign (rest_sign h.bounded.rest) p.x0 p.x1 p.x2 p.s.now _ (omega arith) (sym c.far_at.ensures ∙ c.if-not-far_at.false)
    (sym c.reaches_all-in-loop-k.ensures ∙ c.if-reaches_all.true))

pub returns-then-far_at : goal.returns-then-far_at
returns-then-far_at c =
    let h = c.args.h.now in
    let p = c.args.p.now in
    c.if-far_at.true ∙ sym (far_from_zero h.along h.square h.bounded.sign (rest_sign h.bounded.rest) p.x0 p.x1 p.x2 p.s.now (sym c.far_at-2.ensures ∙ c.if-far_at.true))

pub returns-else-far_at : goal.returns-else-far_at
returns-else-far_at c =
    let h = c.args.h.now in
    let p = c.args.p.now in
    by_least h.along h.square h.bounded.sign (rest_sign h.bounded.rest) p.x0 p.x1 p.x2 p.s.now _ c.least_far-else-far_at.ensures c.reaches_all-else-far_at.ensures
