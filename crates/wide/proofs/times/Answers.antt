-- `wide::times` multiplies the words, and adds what the lower product has in its upper word. Assumes nothing.
use Prim.Native.Nat.{ℕ, ◌+◌, ◌*◌, ◌^◌}
use mathlib.Core.Path.{◌≡◌, refl}
use native.Mathlib.Nat.{add-mul, mul_assoc, mul_comm, mul_left_comm, add_comm}
use native.Mathlib.Omega.{arith}
use Rattle.wide.proofs.times.Goals as goal

spread : (P a b n : ℕ) → (a * P + b) * n ≡ a * n * P + b * n
spread P a b n = simp (add-mul, mul_assoc, mul_comm, mul_left_comm, add_comm) refl

pub returns : goal.returns
returns c = omega (arith, spread (2 ^ 64) c.args.a.hi c.args.a.lo c.args.n, c.product-low.ensures)
