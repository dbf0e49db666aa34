-- Rows of an accepted file are fit to be prepared, and what they are prepared to is their region's. Assumes nothing.
use Prim.Native.Nat.{ℕ, ◌≤◌}
use native.Mathlib.Omega.{arith}
use mathlib.Core.Path.{◌≡◌, sym, ap, subst, subst₂, ◌∙◌}
use mathlib.Core.List.{List}
use lib.ListN.{length, take}
use lib.IntN.{ℤ}
use Rattle.region.specs.Regions.{Region}
use Rattle.classify_prepared.specs.declared.PreparedHalfspace.{PreparedHalfspace}
use Rattle.classify_prepared.specs.PreparedLists.{Prepared, stored, marked, convexes_of, FitRows}
use Rattle.classify_prepared.proofs.PreparingLaws.{rows_fit, rows_prepared}
use Rattle.covering_walk.specs.Walk.{RowsOf}

module _ (g : Region) (n : ℕ) (rs : List ℤ) (r : RowsOf g n rs) where
  pub rows_fits : FitRows n rs
  rows_fits = subst₂ FitRows (sym r.count) (sym r.list) (rows_fit g r.more r.good r.filled r.few)

  pub rows_ready : (before : List PreparedHalfspace) (first : List ℕ) {xs : List PreparedHalfspace} {es : List ℕ} {m c : ℕ} → 512 ≤ length before → 64 ≤ length first
      → xs ≡ stored 0 n rs before → es ≡ marked 0 n rs first → m ≡ n → c ≡ convexes_of 0 n rs → Prepared g (take m xs) (take c es)
  rows_ready before first {xs} {es} {m} {c} h k x y e z =
      subst (λ m. Prepared g (take m xs) (take c es)) (sym e)
      (rows_prepared g r.more r.good r.filled r.few before first r.count (omega (arith, r.most)) k
      (x ∙ ap (λ l. stored 0 n l before) r.list) (y ∙ ap (λ l. marked 0 n l first) r.list) (z ∙ ap (convexes_of 0 n) r.list))
