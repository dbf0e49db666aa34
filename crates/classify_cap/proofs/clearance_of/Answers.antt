-- `classify_cap::clearance_of` is the clearance of the rule: the number that it multiplies is at most 2²¹. Assumes nothing.
use Prim.Native.Nat.{ℕ, ◌*◌, ◌-◌, ◌^◌, ◌≤◌}
use native.Mathlib.Omega.{arith}
use mathlib.Core.Path.{◌≡◌, refl, sym, ap, subst, ◌∙◌}
use mathlib.Core.Bool.{Bool}
use borrow.Author.Tests.{lt-ltb, le-ltb}
use lib.Dec.{ltb}
use lib.IntN.{ℤ, pos, nat_abs}
use lib.Signed.{le_z}
use mir.Syntax.{w64}
use mir.Val.{to_z, of_z}
use Rattle.algebra.proofs.Sizes.{Upto}
use Rattle.algebra.proofs.Sized.{held, nat}
use Rattle.classify_cap.specs.Middle.{root_above, clearance_of}
use Rattle.classify_cap.proofs.ClearanceLaws.{root_most}
use Rattle.classify_cap.proofs.clearance_of.Goals as goal

-- whether there is a rest
tested : {z : ℤ} {t : Bool} → Upto (2 ^ 63 - 1) z → le_z (to_z w64 (of_z w64 z)) (pos 0) ≡ t → le_z z (pos 0) ≡ t
tested h k = ap (λ z. le_z z (pos 0)) (sym (held h tt).eq) ∙ k

root : {z : ℤ} {r : ℕ} → Upto (2 ^ 63 - 1) z → r ≡ root_above (nat_abs (to_z w64 (of_z w64 z))) → r ≡ root_above (nat_abs z)
root h e = e ∙ ap (λ z. root_above (nat_abs z)) (held h tt).eq

small : (s : ℕ) {r : ℕ} → r ≡ root_above s → r ≤ 2 ^ 21
small s e = subst (λ n. n ≤ 2 ^ 21) (sym e) (root_most _)

pub returns-then-rest-le0 : goal.returns-then-rest-le0
unfolding clearance_of
returns-then-rest-le0 c = rw (tested c.requires c.if-rest-le0.true) refl

pub returns-then-reach-r : goal.returns-then-reach-r
unfolding clearance_of
returns-then-reach-r c =
    rw (tested c.requires c.if-rest-le0.false, ap (ltb c.args.reach) (sym (root c.requires c.root_above-r.ensures)) ∙ lt-ltb _ _ c.if-reach-r.true) refl

pub overflow_mul-result : goal.overflow_mul-result
overflow_mul-result c = record { fits = omega (arith, small _ c.root_above-r.ensures) }

pub overflow_cast-result : goal.overflow_cast-result
overflow_cast-result c = record { sfits = omega (arith, small _ c.root_above-r.ensures) }

pub returns : goal.returns
unfolding clearance_of
returns c =
    let r = root c.requires c.root_above-r.ensures in
    rw (tested c.requires c.if-rest-le0.false, ap (ltb c.args.reach) (sym r) ∙ le-ltb _ _ c.if-reach-r.false)
    ((nat {n = 2 ^ 42} (omega (arith, small _ c.root_above-r.ensures)) tt).eq ∙ ap (λ n. pos (2097152 * n)) r)
