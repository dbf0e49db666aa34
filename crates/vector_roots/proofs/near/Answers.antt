-- `vector_roots::near` is from 2¹⁹ to N 2²⁰: what it takes from N 2²⁰ leaves 2¹⁹ or more, since e is at most N² 2⁴⁰ and f at most N 2¹⁹. Assumes nothing.
use Prim.Native.Nat.{ℕ, zero, suc, ◌-◌, ◌+◌, ◌*◌, ◌/◌, ◌^◌, ◌≤◌}
use mathlib.Core.Path.{◌≡◌}
use native.Mathlib.Nat.{mul-le-mul}
use native.Mathlib.Omega.{arith}
use Rattle.std.specs.Int.{div_ceil}
use Rattle.vector_roots.proofs.near.Goals as goal

-- t is what is taken
taken : (n s e t : ℕ) → 2 ≤ n → n ≤ 3 → e ≡ n * 2 ^ 20 * (n * 2 ^ 20) - s → t ≡ div_ceil (e + e / (2 * (n * 2 ^ 20)) * (e / (2 * (n * 2 ^ 20)))) (2 * (n * 2 ^ 20)) → t + 2 ^ 19 ≤ n * 2 ^ 20
taken zero s e t l m d q = absurd (omega arith)
taken (suc zero) s e t l m d q = absurd (omega arith)
taken (suc (suc zero)) s e t l m d q = let h : e / 4194304 ≤ 2 ^ 20 = omega arith in omega (arith, mul-le-mul h h)
taken (suc (suc (suc zero))) s e t l m d q = let h : e / 6291456 ≤ 3 * 2 ^ 19 = omega arith in omega (arith, mul-le-mul h h)
taken (suc (suc (suc (suc n)))) s e t l m d q = absurd (omega arith)

pub overflow_sub-result : goal.overflow_sub-result
overflow_sub-result g c =
    omega (arith, taken g.row.N c.args.s c.saturating_sub-e.result c.div_ceil.result c.requires.0 c.requires.1 c.saturating_sub-e.ensures c.div_ceil.ensures)

pub returns : goal.returns
returns g c =
    let h = taken g.row.N c.args.s c.saturating_sub-e.result c.div_ceil.result c.requires.0 c.requires.1 c.saturating_sub-e.ensures c.div_ceil.ensures in
    (omega (arith, h), omega arith)
