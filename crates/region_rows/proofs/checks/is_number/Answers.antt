-- A number below 0 has bits that are no small number, so the bits are compared as the numbers are. Assumes nothing.
use Prim.Native.Nat.{ℕ, suc, ◌-◌, ◌<◌}
use native.Mathlib.Omega.{arith}
use mathlib.Core.Path.{◌≡◌, refl, ap, ◌∙◌}
use lib.Dec.{eqb}
use lib.IntN.{ℤ, pos, negsuc}
use borrow.Author.Tests.{ne_eqb}
use mir.Syntax.{w64}
use mir.Val.{SFits, of_z}
use Rattle.vector.specs.Numbers.{eq_z}
use Rattle.region_rows.proofs.checks.is_number.Goals as goal

same : (c : ℤ) (k : ℕ) → SFits w64 c → k < 65536 → eqb (of_z w64 c) k ≡ eq_z c (pos k)
same (pos n) k f h = refl
same (negsuc n) k f h = ne_eqb (18446744073709551616 - suc n) k (λ e. omega (arith, f.sfits))

pub returns : goal.returns
returns c = ap (λ z. eqb (of_z w64 c.args.c) (of_z w64 z)) c.from.ensures ∙ same c.args.c c.args.k c.ranges.c (omega arith)
