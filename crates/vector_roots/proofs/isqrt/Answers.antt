-- `vector_roots::isqrt` is the root: a guess, or a step from it, is returned only where it passes the two tests, which no other number does.
-- Assumes nothing.
use Prim.Native.Nat.{ℕ, ◌/◌, ◌^◌, ◌≤◌, ◌<◌}
use mathlib.Core.Path.{sym, ◌∙◌}
use native.Mathlib.Nat.{div-le_of_le-mul}
use native.Mathlib.Omega.{arith}
use Rattle.vector.proofs.RootLaws.{root_tested, root_below, root_unique}
use Rattle.vector_roots.proofs.isqrt.Goals as goal
use Rattle.vector_roots.proofs.isqrt.Goals.{After-newton-m}

-- how far a step leads: n is at least 2¹⁸
step : {s n : ℕ} → s < 2 ^ 46 → 2 ^ 18 ≤ n → s / n ≤ 2 ^ 28
step {s} {n} h l = div-le_of_le-mul n (omega arith)

-- the first step, from a guess of at least 2¹⁹
first : (c : After-newton-m) → let m = c.newton-m.result in (2 ^ 18 ≤ m) × (m ≤ 2 ^ 28)
first c =
    let g = c.guess-n.ensures in
    let e = c.newton-m.ensures in
    let q = step {n = c.guess-n.result} c.requires (omega (arith, g)) in
    (omega (arith, g, e), omega (arith, g, e, q))

pub returns-then-is_root : goal.returns-then-is_root
returns-then-is_root c = record {
  value = root_tested c.args.s c.guess-n.result (sym c.is_root.ensures ∙ c.if-is_root.true);
  upper_bound = omega arith;
}

pub is_root-requires-2 : goal.is_root-requires-2
is_root-requires-2 c = (first c).1

pub returns-then-is_root-2 : goal.returns-then-is_root-2
returns-then-is_root-2 c =
    let e = root_tested c.args.s c.newton-m.result (sym c.is_root-2.ensures ∙ c.if-is_root-2.true) in
    record {
      value = e;
      upper_bound = root_below e c.requires;
    }

pub is_root-requires-3 : goal.is_root-requires-3
is_root-requires-3 c =
    let b = first (goal.at.is_root-requires-3 c).After-newton-m in
    omega (arith, b, c.newton-k.ensures, step {n = c.newton-m.result} c.requires b.0)

pub returns-then-is_root-3 : goal.returns-then-is_root-3
returns-then-is_root-3 c =
    let e = root_tested c.args.s c.newton-k.result (sym c.is_root-3.ensures ∙ c.if-is_root-3.true) in
    record {
      value = e;
      upper_bound = root_below e c.requires;
    }

pub returns : goal.returns
returns c =
    let r = c.isqrt.ensures in
    let e = root_unique (record { low = r.square_le; high = r.next_square_gt }) in
    record {
      value = e;
      upper_bound = root_below e c.requires;
    }
