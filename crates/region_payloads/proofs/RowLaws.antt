-- Rows in an array: a row that is stored after the rows of a region gives the rows of the region with its halfspace. A row's numbers fit 32 bits, since the
-- halfspace passed its checks. Assumes nothing.
use Prim.Native.Nat.{◌+◌, ◌-◌, ◌*◌, ◌<◌}
use native.Mathlib.Omega.{arith}
use mathlib.Core.Path.{◌≡◌, sym, ap, ◌∙◌}
use mathlib.Core.List.{List, ◌++◌, append_assoc}
use lib.ListN.{length, drop, length-append}
use lib.Seq.{take-append_seam, drop-append-add, drop-drop}
use lib.IntN.{ℤ}
use Rattle.answer.specs.Lent.{put}
use Rattle.region.specs.declared.Halfspace.{Halfspace}
use Rattle.region.specs.Regions.{Region}
use Rattle.region.specs.Building.{total, with_halfspace}
use Rattle.region.specs.Rows.{row, rows}
use Rattle.region.proofs.RegionLaws.{halfspace_rows, rows_length}

put_more : {X : Type 0} (xs ys before : List X) → put (length xs) ys (put 0 xs before) ≡ put 0 (xs ++ ys) before
put_more xs ys before =
    let after = drop (0 + length xs) before in
    let n : 0 + length xs + length ys ≡ 0 + length (xs ++ ys) = omega (arith, length-append xs ys) in
    (λ i. take-append_seam xs after i ++ (ys ++ drop-append-add xs after (length ys) i))
    ∙ ap (λ l. xs ++ (ys ++ l)) (drop-drop (length ys) (0 + length xs) before ∙ ap (λ k. drop k before) n)
    ∙ sym (append_assoc xs ys (drop (0 + length (xs ++ ys)) before))

pub row_more : (g : Region) (h : Halfspace) (before : List ℤ) → 0 < length g
    → put (5 * total g) (row (length g - 1) h) (put 0 (rows g) before) ≡ put 0 (rows (with_halfspace g h)) before
row_more g h before l =
    ap (λ n. put n (row (length g - 1) h) (put 0 (rows g) before)) (sym (rows_length g))
    ∙ put_more (rows g) (row (length g - 1) h) before
    ∙ ap (λ r. put 0 r before) (sym (halfspace_rows g h l))
