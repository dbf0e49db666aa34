-- Elements of any kind that move down in a list.
--   shifted_down w at l k   the list l, where k elements, from number `at` on, are those that stood w positions further on
use Rattle.std.specs.Prelude.{ℕ, ◌+◌, List, drop}
use Rattle.std.proofs.Math.Seq.{paste}

module _ {A : Type 0} where
  unfoldable pub shifted_down : ℕ → ℕ → List A → ℕ → List A
  shifted_down w at l k = paste l at (drop (at + w) l) k
