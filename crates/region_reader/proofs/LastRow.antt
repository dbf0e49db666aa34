-- The last row of a region is its last convex's, where no convex is empty: so its number is one less than there are convexes. Assumes nothing.
use Prim.Native.Nat.{ℕ, suc, ◌+◌, ◌-◌, ◌*◌, ◌≤◌, ◌<◌}
use native.Mathlib.Omega.{arith}
use mathlib.Core.Path.{◌≡◌, refl, ap, ap₂, ◌∙◌}
use mathlib.Core.List.{List, [], ◌∷◌, ◌++◌, append_assoc, append-nil}
use lib.ListN.{length, get_or}
use lib.Seq.{get_or-append-add}
use lib.IntN.{ℤ, pos}
use Rattle.region.specs.Regions.{Convex, Region}
use Rattle.region.specs.Building.{total}
use Rattle.region.specs.Rows.{row, convex_rows, rows_from, rows}
use Rattle.region.proofs.FilledLaws.{Filled}
use Rattle.region_reader.specs.Reading.{FilledRows}

convex_five : (k : ℕ) (c : Convex) → length (convex_rows k c) ≡ 5 * length c
unfolding convex_rows
convex_five k [] = refl
convex_five k (h ∷ c) = omega (arith, convex_five k c)

-- the last row of a convex, whatever follows
convex_last : (k : ℕ) (c : Convex) (more : List ℤ) → 0 < length c → get_or (convex_rows k c ++ more) (5 * (length c - 1)) (pos 0) ≡ pos k
unfolding convex_rows
convex_last k [] more l = absurd (omega arith)
convex_last k (h ∷ []) more l = refl
convex_last k (h ∷ i ∷ c) more l =
    let e : 5 * (length (h ∷ i ∷ c) - 1) ≡ 5 + 5 * (length (i ∷ c) - 1) = omega arith in
    ap (λ m. get_or (row k h ++ (convex_rows k (i ∷ c) ++ more)) m (pos 0)) e
    ∙ get_or-append-add (row k h) (convex_rows k (i ∷ c) ++ more) (5 * (length (i ∷ c) - 1)) (pos 0)
    ∙ convex_last k (i ∷ c) more (omega arith)

rows_last : (k : ℕ) (g : Region) (more : List ℤ) → 0 < length g → Filled g → get_or (rows_from k g ++ more) (5 * (total g - 1)) (pos 0) ≡ pos (k + (length g - 1))
unfolding rows_from total
rows_last k [] more l f = absurd (omega arith)
rows_last k (c ∷ []) more l f =
    let e : 5 * (length c + 0 - 1) ≡ 5 * (length c - 1) = omega arith in
    let z : k ≡ k + (1 - 1) = omega arith in
    ap₂ (λ r m. get_or (r ++ more) m (pos 0)) (append-nil (convex_rows k c)) e ∙ convex_last k c more f.0 ∙ ap pos z
rows_last k (c ∷ d ∷ cs) more l f =
    let e : 5 * (length c + total (d ∷ cs) - 1) ≡ length (convex_rows k c) + 5 * (total (d ∷ cs) - 1) = omega (arith, convex_five k c, f.1.0) in
    let z : suc k + (length (d ∷ cs) - 1) ≡ k + (length (c ∷ d ∷ cs) - 1) = omega arith in
    ap₂ (λ r m. get_or r m (pos 0)) (append_assoc (convex_rows k c) (rows_from (suc k) (d ∷ cs)) more) e
    ∙ get_or-append-add (convex_rows k c) (rows_from (suc k) (d ∷ cs) ++ more) (5 * (total (d ∷ cs) - 1)) (pos 0)
    ∙ rows_last (suc k) (d ∷ cs) more (omega arith) f.1
    ∙ ap pos z

filled_total : (g : Region) → 0 < length g → Filled g → 0 < total g
unfolding total
filled_total [] l f = absurd (omega arith)
filled_total (c ∷ cs) l f = omega (arith, f.0)

module _ {g : Region} {n : ℕ} {rs : List ℤ} (r : FilledRows g n rs) where
  pub rows_some : 1 ≤ n
  rows_some = omega (arith, r.count, filled_total g r.some r.filled)

  pub last_number : get_or rs (5 * (n - 1)) (pos 0) ≡ pos (length g - 1)
  unfolding rows
  last_number =
      let z : 0 + (length g - 1) ≡ length g - 1 = omega arith in
      ap₂ (λ l m. get_or l (5 * (m - 1)) (pos 0)) r.list r.count ∙ rows_last 0 g r.more r.some r.filled ∙ ap pos z
