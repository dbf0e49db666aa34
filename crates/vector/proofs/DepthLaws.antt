-- A depth that passes its check is 1 to 12, and one that fails and is not 0 is above 12. Assumes nothing.
use Prim.Native.Nat.{ℕ, ◌≤◌, ◌<◌}
use mathlib.Core.Path.{◌≡◌}
use mathlib.Core.Bool.{true, false}
use lib.Dec.{leb}
use borrow.Author.Tests.{leb-true, leb-false, le-leb}
use Rattle.algebra.proofs.Tests.{and_left, and_right}
use Rattle.vector.specs.Numbers.{is_depth}

pub depth_range : (d : ℕ) → is_depth d ≡ true → (1 ≤ d) × (d ≤ 12)
depth_range d e = (leb-true 1 d (and_left (leb 1 d) (leb d 12) e), leb-true d 12 (and_right (leb 1 d) (leb d 12) e))

pub depth_beyond : (d : ℕ) → is_depth d ≡ false → 1 ≤ d → 12 < d
depth_beyond d e h = leb-false d 12 (rw (le-leb 1 d h) at e)
