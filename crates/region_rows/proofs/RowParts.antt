-- A list in parts of one length: part i is what stands from its place on. A row list in fives: the number and the halfspace of row i. Assumes nothing.
use Prim.Native.Nat.{ℕ, zero, suc, ◌+◌, ◌*◌, ◌<◌}
use native.Mathlib.Nat.{add-zero}
use native.Mathlib.Omega.{arith}
use mathlib.Core.Path.{◌≡◌, sym, ap, ◌∙◌}
use mathlib.Core.List.{List}
use lib.ListN.{get_or, take, drop}
use lib.Seq.{get_or-drop, drop-drop}
use lib.IntN.{ℤ, pos}
use Rattle.std.specs.Simd.{first_chunks}
use Rattle.std.proofs.lemmas.List.{get_or-take}
use Rattle.vector.specs.Vectors.{vec}
use Rattle.region.specs.Rows.{halfspace_at}

module _ {X : Type 0} where
  pub part_at : (n k i : ℕ) (xs d : List X) → i < k → get_or (first_chunks n k xs) i d ≡ take n (drop (n * i) xs)
  part_at n zero i xs d l = absurd (omega arith)
  part_at n (suc k) zero xs d l = let e : n * 0 ≡ 0 = omega arith in ap (λ m. take n (drop m xs)) (sym e)
  part_at n (suc k) (suc i) xs d l =
      let e : n + n * i ≡ n * suc i = omega arith in
      part_at n k i (drop n xs) d (omega arith) ∙ ap (take n) (drop-drop (n * i) n xs ∙ ap (λ m. drop m xs) e)

-- ---- row i of a row list

module _ (rs : List ℤ) (k i : ℕ) (d : List ℤ) (l : i < k) where
  number : (j : ℕ) → j < 5 → get_or (get_or (first_chunks 5 k rs) i d) j (pos 0) ≡ get_or (drop (5 * i) rs) j (pos 0)
  number j h = ap (λ r. get_or r j (pos 0)) (part_at 5 k i rs d l) ∙ get_or-take 5 (drop (5 * i) rs) j (pos 0) h

  pub row_number : get_or (get_or (first_chunks 5 k rs) i d) 0 (pos 0) ≡ get_or rs (5 * i) (pos 0)
  row_number = number 0 (omega arith) ∙ get_or-drop (5 * i) rs 0 (pos 0) ∙ ap (λ m. get_or rs m (pos 0)) (add-zero (5 * i))

  pub row_halfspace : halfspace_at (get_or (first_chunks 5 k rs) i d) ≡ halfspace_at (drop (5 * i) rs)
  row_halfspace =
      λ t. record { n = vec (number 1 (omega arith) t) (number 2 (omega arith) t) (number 3 (omega arith) t); d = number 4 (omega arith) t }
