-- The size of a number with a sign. Assumes nothing.
--   Upto n z   z is at most n in size: −n ≤ z ≤ n. A record, so that a proof of it names both numbers
use Prim.Native.Nat.{ℕ, ◌≤◌}
use lib.IntN.{ℤ, nat_abs}

pub record Upto (n : ℕ) (z : ℤ) : Type 0 where
  pub le : nat_abs z ≤ n
