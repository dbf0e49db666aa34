-- `mount::component` is the rule of a component, at every usual width: the cases of proofs/WidthLaws. Assumes nothing.
use Prim.Native.Nat.{ℕ, ◌+◌, ◌-◌, ◌*◌, ◌%◌, ◌^◌, ◌<◌}
use native.Mathlib.Nat.{mod-eq_of_lt, one-mul}
use native.Mathlib.Omega.{arith}
use mathlib.Core.Path.{◌≡◌, ap, ◌∙◌}
use lib.Pow.{pow-lt}
use Rattle.algebra.proofs.Sized.{stored_same}
use Rattle.answer.specs.Answer.{gives}
use Rattle.mount.specs.declared.Width.{Width}
use Rattle.mount.specs.Widths.{Usual}
use Rattle.mount.proofs.WidthLaws.{WidthPowers, one_fits, refused_large, answered_zero, cut_small, answered_cut}
use Rattle.mount.proofs.component.Goals as goal

shifted : (n : ℕ) → n < 64 → 1 * 2 ^ n % 2 ^ 64 ≡ 2 ^ n
shifted n h = ap (λ k. k % 2 ^ 64) (one-mul (2 ^ n)) ∙ mod-eq_of_lt (pow-lt h)

powers : {w : Width} → Usual w → WidthPowers w (1 * 2 ^ w.fraction % 2 ^ 64) (1 * 2 ^ (w.exponent - 1) % 2 ^ 64) (1 * 2 ^ (w.exponent + w.fraction) % 2 ^ 64)
powers {w} u =
    record {
      usual = u;
      unit_is = shifted w.fraction (omega (arith, u));
      half_is = shifted (w.exponent - 1) (omega (arith, u));
      sign_is = shifted (w.exponent + w.fraction) (omega (arith, u));
    }

pub overflow_mul-bias : goal.overflow_mul-bias
overflow_mul-bias c = record { fits = one_fits (powers c.requires) }

pub returns-then-bias-unit : goal.returns-then-bias-unit
returns-then-bias-unit c = refused_large (powers c.requires) _ c.if-bias-unit.true

pub returns-then-field-bias : goal.returns-then-field-bias
returns-then-field-bias c = answered_zero (powers c.requires) _ c.if-bias-unit.false c.if-field-bias.true

pub with_sign-requires : goal.with_sign-requires
with_sign-requires c = cut_small (powers c.requires) _ c.if-bias-unit.false c.if-field-bias.false

pub returns : goal.returns
returns c = ap gives (stored_same c.with_sign.result c.with_sign.type_inv ∙ c.with_sign.ensures) ∙ answered_cut (powers c.requires) _ c.if-bias-unit.false c.if-field-bias.false
