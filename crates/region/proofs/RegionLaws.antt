-- A region grows at its end: what a new convex and a new halfspace do to the counts and to the rows. A reader that writes its rows one by one,
-- and keeps three counts, uses these laws. Assumes nothing.
use Prim.Native.Nat.{ℕ, suc, ◌+◌, ◌-◌, ◌*◌, ◌<◌}
use native.Mathlib.Omega.{arith}
use native.Mathlib.Nat.{add-zero}
use mathlib.Core.Path.{◌≡◌, refl, sym, ap, ◌∙◌}
use mathlib.Core.List.{[], ◌∷◌, ◌++◌, append_assoc, append-nil}
use lib.ListN.{length, length-append}
use Rattle.region.specs.declared.Halfspace.{Halfspace}
use Rattle.region.specs.Regions.{Convex, Region}
use Rattle.region.specs.Building.{last_convex, total, with_convex, with_halfspace}
use Rattle.region.specs.Rows.{row, convex_rows, rows_from, rows}

-- ---- a new convex

pub convex_length : (g : Region) → length (with_convex g) ≡ length g + 1
convex_length g = length-append g ([] ∷ [])

pub convex_last : (g : Region) → last_convex (with_convex g) ≡ []
unfolding last_convex
convex_last [] = refl
convex_last (c ∷ []) = refl
convex_last (c ∷ d ∷ cs) = convex_last (d ∷ cs)

pub convex_total : (g : Region) → total (with_convex g) ≡ total g
unfolding total
convex_total [] = refl
convex_total (c ∷ cs) = ap (λ n. length c + n) (convex_total cs)

rows_convex_from : (k : ℕ) (g : Region) → rows_from k (with_convex g) ≡ rows_from k g
unfolding rows_from convex_rows
rows_convex_from k [] = refl
rows_convex_from k (c ∷ cs) = ap (λ l. convex_rows k c ++ l) (rows_convex_from (suc k) cs)

pub convex_rows_law : (g : Region) → rows (with_convex g) ≡ rows g
unfolding rows
convex_rows_law g = rows_convex_from 0 g

-- ---- a new halfspace

pub halfspace_length : (g : Region) (h : Halfspace) → length (with_halfspace g h) ≡ length g
unfolding with_halfspace
halfspace_length [] h = refl
halfspace_length (c ∷ []) h = refl
halfspace_length (c ∷ d ∷ cs) h = ap suc (halfspace_length (d ∷ cs) h)

pub halfspace_last : (g : Region) (h : Halfspace) → 0 < length g → last_convex (with_halfspace g h) ≡ last_convex g ++ h ∷ []
unfolding last_convex with_halfspace
halfspace_last [] h l = absurd (omega arith)
halfspace_last (c ∷ []) h l = refl
halfspace_last (c ∷ d ∷ []) h l = refl
halfspace_last (c ∷ d ∷ e ∷ cs) h l = halfspace_last (d ∷ e ∷ cs) h (omega arith)

pub halfspace_total : (g : Region) (h : Halfspace) → 0 < length g → total (with_halfspace g h) ≡ total g + 1
unfolding total with_halfspace
halfspace_total [] h l = absurd (omega arith)
halfspace_total (c ∷ []) h l = omega (arith, length-append c (h ∷ []))
halfspace_total (c ∷ d ∷ cs) h l = omega (arith, halfspace_total (d ∷ cs) h (omega arith))

convex_snoc : (k : ℕ) (c : Convex) (h : Halfspace) → convex_rows k (c ++ h ∷ []) ≡ convex_rows k c ++ row k h
unfolding convex_rows
convex_snoc k [] h = refl
convex_snoc k (a ∷ c) h = ap (λ l. row k a ++ l) (convex_snoc k c h)

rows_halfspace_from : (k : ℕ) (g : Region) (h : Halfspace) → 0 < length g → rows_from k (with_halfspace g h) ≡ rows_from k g ++ row (k + (length g - 1)) h
unfolding rows_from with_halfspace
rows_halfspace_from k [] h l = absurd (omega arith)
rows_halfspace_from k (c ∷ []) h l =
    append-nil (convex_rows k (c ++ h ∷ [])) ∙ convex_snoc k c h ∙ (λ j. sym (append-nil (convex_rows k c)) j ++ row (sym (add-zero k) j) h)
rows_halfspace_from k (c ∷ d ∷ cs) h l =
    let e : suc k + (length (d ∷ cs) - 1) ≡ k + (length (c ∷ d ∷ cs) - 1) = omega arith in
    ap (λ l. convex_rows k c ++ l) (rows_halfspace_from (suc k) (d ∷ cs) h (omega arith))
    ∙ sym (append_assoc (convex_rows k c) (rows_from (suc k) (d ∷ cs)) (row (suc k + (length (d ∷ cs) - 1)) h))
    ∙ ap (λ n. (convex_rows k c ++ rows_from (suc k) (d ∷ cs)) ++ row n h) e

pub halfspace_rows : (g : Region) (h : Halfspace) → 0 < length g → rows (with_halfspace g h) ≡ rows g ++ row (length g - 1) h
unfolding rows
halfspace_rows g h l =
    let e : 0 + (length g - 1) ≡ length g - 1 = omega arith in
    rows_halfspace_from 0 g h l ∙ ap (λ n. rows_from 0 g ++ row n h) e

-- ---- five numbers a row

convex_five : (k : ℕ) (c : Convex) → length (convex_rows k c) ≡ 5 * length c
unfolding convex_rows
convex_five k [] = refl
convex_five k (h ∷ c) = omega (arith, convex_five k c)

rows_five : (k : ℕ) (g : Region) → length (rows_from k g) ≡ 5 * total g
unfolding rows_from total
rows_five k [] = refl
rows_five k (c ∷ cs) = omega (arith, length-append (convex_rows k c) (rows_from (suc k) cs), convex_five k c, rows_five (suc k) cs)

pub rows_length : (g : Region) → length (rows g) ≡ 5 * total g
unfolding rows
rows_length g = rows_five 0 g
