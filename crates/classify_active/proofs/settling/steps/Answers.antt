-- `classify_active::settling::steps` is the sum of the three steps. Assumes nothing.
use Prim.Native.Nat.{ℕ, ◌+◌, ◌^◌, ◌≤◌}
use native.Mathlib.Omega.{arith}
use mathlib.Core.Path.{◌≡◌, subst, sym, ◌∙◌}
use lib.IntN.{ℤ, nat_abs, ◌-ℤ◌}
use mir.Syntax.{w64}
use mir.Val.{to_z, of_z}
use Rattle.algebra.proofs.Sizes.{Upto}
use Rattle.algebra.proofs.Sized.{held, upto_sub}
use Rattle.vector.specs.Numbers.{Kℕ}
use Rattle.classify_active.proofs.settling.steps.Goals as goal

-- a step by the bits of its numbers, and how long it is at most
module _ {a b : ℤ} (p : Upto Kℕ a) (q : Upto Kℕ b) {n : ℕ} (e : n ≡ nat_abs (to_z w64 (of_z w64 a) -ℤ to_z w64 (of_z w64 b))) where
  same : n ≡ nat_abs (a -ℤ b)
  same = e ∙ (λ i. nat_abs ((held p tt).eq i -ℤ (held q tt).eq i))

  most : n ≤ 2 ^ 21
  most = subst (λ n. n ≤ 2 ^ 21) (sym same) (upto_sub p q).le

pub overflow_add-result : goal.overflow_add-result
overflow_add-result c =
    let p = c.requires.0 in
    let q = c.requires.1 in
    record { fits = omega (arith, most p.x q.x c.abs_diff.ensures, most p.y q.y c.abs_diff-2.ensures) }

pub overflow_add-result-2 : goal.overflow_add-result-2
overflow_add-result-2 c =
    let p = c.requires.0 in
    let q = c.requires.1 in
    record { fits = omega (arith, most p.x q.x c.abs_diff.ensures, most p.y q.y c.abs_diff-2.ensures, most p.z q.z c.abs_diff-3.ensures) }

pub returns : goal.returns
returns c =
    let p = c.requires.0 in
    let q = c.requires.1 in
    let x = c.abs_diff.ensures in
    let y = c.abs_diff-2.ensures in
    let z = c.abs_diff-3.ensures in
    record {
      value = (λ i. same p.x q.x x i + same p.y q.y y i + same p.z q.z z i);
      upper_bound = omega (arith, most p.x q.x x, most p.y q.y y, most p.z q.z z);
    }
