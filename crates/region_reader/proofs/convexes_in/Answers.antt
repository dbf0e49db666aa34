-- `region_reader::convexes_in` reads the number of the last row, which has no sign, and adds one. Assumes nothing.
use Prim.Native.Nat.{ℕ, ◌-◌, ◌*◌, ◌^◌, ◌<◌}
use native.Mathlib.Omega.{arith}
use mathlib.Core.Path.{◌≡◌, sym, ap, subst, ◌∙◌}
use mathlib.Core.List.{List}
use lib.Dec.{T}
use lib.ListN.{length, get_or}
use lib.IntN.{ℤ, pos, nat_abs}
use lib.Signed.{mag, non_neg}
use mir.Syntax.{w32, w64}
use mir.Val.{Fits, to_z, of_z}
use mir.Facts.{to_z-of_z}
use Rattle.region.specs.Regions.{Region}
use Rattle.region_reader.specs.Reading.{FilledRows}
use Rattle.region_reader.proofs.LastRow.{rows_some, last_number}
use Rattle.region_reader.proofs.convexes_in.Goals as goal

-- the number that was read, of any region that has these rows
read : (rows : List ℤ) (n : ℕ) → mag (get_or rows (5 * (n - 1)) (pos 0)) < 2 ^ 31 → (g : Region) → FilledRows g n rows
    → to_z w32 (of_z w32 (get_or rows (5 * (n - 1)) (pos 0))) ≡ pos (length g - 1)
read rows n m g r = to_z-of_z {w = w32} (record { sfits = m }) ∙ last_number r

pub overflow_sub-result : goal.overflow_sub-result
overflow_sub-result c = omega (arith, rows_some c.requires.1)

pub overflow_mul-result : goal.overflow_mul-result
overflow_mul-result c = omega (arith, c.requires.1.most)

pub offset_bounds-rows-n : goal.offset_bounds-rows-n
offset_bounds-rows-n c = omega (arith, c.requires.1.most)

pub bounds-rows-n : goal.bounds-rows-n
bounds-rows-n c = omega (arith, c.requires.1.most, rows_some c.requires.1)

pub overflow_cast-result : goal.overflow_cast-result
overflow_cast-result c = subst (λ z. T (non_neg z) × Fits w64 (nat_abs z)) (sym (read c.args.rows.now c.args.n (omega arith) _ c.requires.1)) (tt, record { fits = omega (arith, c.requires.1.few) })

pub overflow_add-result : goal.overflow_add-result
overflow_add-result c = record { fits = omega (arith, ap nat_abs (read c.args.rows.now c.args.n (omega arith) _ c.requires.1), c.requires.1.few) }

pub returns : goal.returns
returns c g r = omega (arith, ap nat_abs (read c.args.rows.now c.args.n (omega arith) g r), r.some)
