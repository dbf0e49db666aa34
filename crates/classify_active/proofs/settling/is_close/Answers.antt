-- `classify_active::settling::is_close` is the test: the steps are at most 5·2²¹, so that K times them and the clearance stay below 2⁶³. Assumes nothing.
use Prim.Native.Nat.{ℕ, ◌+◌, ◌*◌, ◌^◌, ◌≤◌}
use native.Mathlib.Omega.{arith}
use mathlib.Core.Path.{◌≡◌, sym, ap, subst, ◌∙◌}
use lib.IntN.{pos, nat_abs, ◌+ℤ◌, ◌-ℤ◌}
use lib.Signed.{le_z}
use Rattle.algebra.proofs.Sized.{held, nat, upto_sub, is_add, fits_add, same_le}
use Rattle.vector.specs.Numbers.{Kℕ}
use Rattle.classify_active.specs.Anchor.{steps_to, close_by}
use Rattle.classify_cap.proofs.CapLaws.{cap_small, reached, cap_beside}
use Rattle.classify_halfspace.proofs.FarLaws.{cap_clearance}
use Rattle.classify_active.proofs.settling.is_close.Goals as goal
use Rattle.classify_active.proofs.settling.is_close.Goals.{After-abs_diff}

-- the steps
of_reach : (c : After-abs_diff) → (c.abs_diff.result ≡ nat_abs (c.in-Some.c.reach -ℤ c.args.r.reach)) × (c.abs_diff.result ≤ 2 ^ 21)
of_reach c =
    let m = (cap_beside (reached c.requires.bounding_cap c.in-Some.is)).size in
    let e = c.abs_diff.ensures ∙ (λ i. nat_abs ((held m tt).eq i -ℤ (held c.requires.anchor.reach tt).eq i)) in
    (e, subst (λ n. n ≤ 2 ^ 21) (sym e) (upto_sub m c.requires.anchor.reach).le)

total : (c : After-abs_diff) → c.steps.result + 2 * c.abs_diff.result ≡ steps_to c.args.r c.args.m.b c.in-Some.c
total c i = c.steps.ensures.value i + 2 * (of_reach c).0 i

most : (n k : ℕ) → n ≤ 3 * 2 ^ 21 → k ≤ 2 ^ 21 → 1048576 * (n + 2 * k) ≤ 2 ^ 44
most n k h l = omega arith

pub returns-in_default : goal.returns-in_default
unfolding close_by
returns-in_default c = ap (close_by c.args.r c.args.m.b) (sym c.in_default.is)

pub steps-requires : goal.steps-requires
steps-requires c = (cap_small c.requires.bounding_cap, c.requires.anchor.b)

pub overflow_mul-n : goal.overflow_mul-n
overflow_mul-n c = record { fits = omega (arith, (of_reach (goal.at.overflow_mul-n c).After-abs_diff).1) }

pub overflow_add-n : goal.overflow_add-n
overflow_add-n c = record { fits = omega (arith, most _ _ c.steps.ensures.upper_bound (of_reach (goal.at.overflow_add-n c).After-abs_diff).1) }

pub overflow_mul-result : goal.overflow_mul-result
overflow_mul-result c = record { fits = omega (arith, most _ _ c.steps.ensures.upper_bound (of_reach (goal.at.overflow_mul-result c).After-abs_diff).1) }

pub overflow_cast-result : goal.overflow_cast-result
overflow_cast-result c = record { sfits = omega (arith, most _ _ c.steps.ensures.upper_bound (of_reach (goal.at.overflow_cast-result c).After-abs_diff).1) }

pub overflow_add-result : goal.overflow_add-result
overflow_add-result c =
    let n = most _ _ c.steps.ensures.upper_bound (of_reach (goal.at.overflow_add-result c).After-abs_diff).1 in
    fits_add (held (cap_clearance (reached c.requires.bounding_cap c.in-Some.is)) tt) (nat n tt) tt

pub returns : goal.returns
unfolding close_by
returns c =
    let n = most _ _ c.steps.ensures.upper_bound (of_reach (goal.at.returns c).After-abs_diff).1 in
    same_le (is_add (held (cap_clearance (reached c.requires.bounding_cap c.in-Some.is)) tt) (nat n tt) tt) (held c.requires.anchor.margin tt)
    ∙ (λ i. le_z (c.in-Some.c.clearance +ℤ pos (Kℕ * total (goal.at.returns c).After-abs_diff i)) c.args.r.margin)
    ∙ ap (close_by c.args.r c.args.m.b) (sym c.in-Some.is)
