-- The number times K fits a word, and so does its quotient, with either sign. Assumes nothing.
use Prim.Native.Nat.{ℕ, ◌*◌, ◌/◌, ◌^◌, ◌≤◌, ◌<◌}
use native.Mathlib.Nat.{div-le_self, le_trans}
use native.Mathlib.Omega.{arith}
use mathlib.Core.Path.{sym, ap, subst, ◌∙◌}
use lib.IntN.{pos, neg_ℤ, +ℤ_idl}
use mir.Syntax.{w64}
use mir.Facts.{to_z_pos}
use Rattle.algebra.proofs.Sizes.{Upto}
use Rattle.algebra.proofs.Sized.{nat, lit, upto_neg, is_sub}
use Rattle.vector.specs.Numbers.{Kℕ, signed}
use Rattle.catalogue_line.proofs.scaled.Goals as goal

most : (n p : ℕ) → n < 2 ^ 32 → n * Kℕ / p ≤ 2 ^ 52
most n p h = le_trans (div-le_self (n * Kℕ) p) (omega arith)

size : (n p : ℕ) → n < 2 ^ 32 → Upto (2 ^ 52) (pos (n * Kℕ / p))
size n p h = record { le = most n p h }

pub returns-then-negative : goal.returns-then-negative
returns-then-negative c =
    let a = c.args in
    let n = a.number * Kℕ / a.power in
    let e = (is_sub (lit 0 tt) (nat (most _ _ c.requires.0) tt) tt).eq ∙ +ℤ_idl (neg_ℤ (pos n)) in
    (e ∙ ap (λ g. signed g n) (sym c.if-negative.true), subst (Upto (2 ^ 52)) (sym e) (upto_neg (size _ _ c.requires.0)))

pub returns-else-negative : goal.returns-else-negative
returns-else-negative c =
    let a = c.args in
    let n = a.number * Kℕ / a.power in
    let e = to_z_pos w64 {n = n} (omega (arith, most a.number a.power c.requires.0)) in
    (e ∙ ap (λ g. signed g n) (sym c.if-negative.false), subst (Upto (2 ^ 52)) (sym e) (size _ _ c.requires.0))
