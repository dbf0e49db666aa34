-- The pass that checks rows: the region of the rows so far has the size that is stored, and the rows that are left lead from it to what all rows
-- lead to. Assumes nothing.
use Prim.Native.Nat.{ℕ, suc, ◌+◌, ◌-◌, ◌*◌, ◌/◌, ◌%◌, ◌≤◌, ◌<◌}
use native.Mathlib.Nat.{add-zero}
use native.Mathlib.Omega.{arith}
use mathlib.Core.Path.{◌≡◌, refl, sym, ap, ◌∙◌}
use mathlib.Core.List.{List, []}
use lib.ListN.{length, get_or, drop}
use lib.Seq.{get_or-drop, drop-drop}
use lib.IntN.{ℤ, pos}
use borrow.Author.Tests.{lt-ltb, le-ltb, eq-eqb, ne_eqb}
use Rattle.answer.specs.Answer.{refused, gives, then, with_value, Order}
use Rattle.answer.proofs.AnswerLaws.{value_gives, value_refused}
use Rattle.region.specs.Regions.{Region}
use Rattle.region.specs.Rows.{row_in, halfspace_at, rows_in, region_of}
use Rattle.region_rows.specs.declared.counts.RegionSize.{RegionSize}
use Rattle.region_rows.specs.RegionSizes.{region_size}
use Rattle.region_rows.proofs.NumberLaws.{taken, taken_few}

-- the rows of rs before element i make a region of the size k
pub record Checking (rs : List ℤ) (k : RegionSize) (i : ℕ) : Type 0 where
  pub region : Region
  pub left : ℕ
  pub place : i + 5 * left ≡ length rs
  pub counts : region_size region ≡ k
  pub few : length region ≤ 64
  pub same : rows_in (length rs / 5) [] rs ≡ rows_in left region (drop i rs)

pub start : (rs : List ℤ) → length rs % 5 ≡ 0 → (k : RegionSize) → k ≡ region_size [] → Checking rs k 0
start rs e k q = record { region = []; left = length rs / 5; place = omega arith; counts = sym q; few = omega arith; same = refl }

-- the row from element i on, and the rows after it
pub next_row : (n : ℕ) (g : Region) (rs : List ℤ) (i : ℕ)
    → rows_in (suc n) g (drop i rs) ≡ then (row_in g (get_or rs i (pos 0)) (halfspace_at (drop i rs))) (λ r. rows_in n r (drop (i + 5) rs))
unfolding rows_in
next_row n g rs i =
    let e : get_or (drop i rs) 0 (pos 0) ≡ get_or rs i (pos 0) = get_or-drop i rs 0 (pos 0) ∙ ap (λ j. get_or rs j (pos 0)) (add-zero i) in
    λ j. then (row_in g (e j) (halfspace_at (drop i rs))) (λ r. rows_in n r (drop-drop 5 i rs j))

module _ {rs : List ℤ} {k : RegionSize} {i : ℕ} (v : Checking rs k i) where
  pub few_counted : k.convexes ≤ 64
  few_counted = omega (arith, ap (λ k. k.convexes) v.counts)

  pub done : length rs ≤ i → gives k ≡ with_value region_size (rows_in (length rs / 5) [] rs)
  unfolding rows_in
  done l =
      let z : v.left ≡ 0 = omega (arith, v.place) in
      ap gives (sym v.counts) ∙ sym (ap (with_value region_size) (v.same ∙ ap (λ n. rows_in n v.region (drop i rs)) z))

  module _ (l : i < length rs) where
    split_row : rows_in (length rs / 5) [] rs ≡ then (row_in v.region (get_or rs i (pos 0)) (halfspace_at (drop i rs))) (λ r. rows_in (v.left - 1) r (drop (i + 5) rs))
    split_row =
        let z : v.left ≡ suc (v.left - 1) = omega (arith, v.place) in
        v.same ∙ ap (λ n. rows_in n v.region (drop i rs)) z ∙ next_row (v.left - 1) v.region rs i

    pub row_refused : (m : ℕ) → ((g : Region) → region_size g ≡ k → refused m ≡ with_value region_size (row_in g (get_or rs i (pos 0)) (halfspace_at (drop i rs))))
        → refused m ≡ with_value region_size (rows_in (length rs / 5) [] rs)
    row_refused m f =
        let row = row_in v.region (get_or rs i (pos 0)) (halfspace_at (drop i rs)) in
        let e : row ≡ refused m = value_refused region_size row m (sym (f v.region v.counts)) in
        sym (ap (with_value region_size) (split_row ∙ ap (λ a. then a (λ r. rows_in (v.left - 1) r (drop (i + 5) rs))) e))

    pub row_passed : (next : RegionSize) → ((g : Region) → region_size g ≡ k → gives next ≡ with_value region_size (row_in g (get_or rs i (pos 0)) (halfspace_at (drop i rs))))
        → Checking rs next (i + 5)
    row_passed next f =
        let row = row_in v.region (get_or rs i (pos 0)) (halfspace_at (drop i rs)) in
        let w = value_gives region_size row next (sym (f v.region v.counts)) in
        record {
          region = w.0;
          left = v.left - 1;
          place = omega (arith, v.place);
          counts = w.2;
          few = taken_few (taken v.region w.0 (get_or rs i (pos 0)) (halfspace_at (drop i rs)) w.1);
          same = split_row ∙ ap (λ a. then a (λ r. rows_in (v.left - 1) r (drop (i + 5) rs))) w.1;
        }

-- ---- all rows

module _ (rs : List ℤ) where
  pub no_rows : length rs ≡ 0 → refused Order ≡ with_value region_size (region_of rs)
  unfolding region_of
  no_rows e = rw (le-ltb 0 (length rs) (omega arith))

  pub no_fives : 0 < length rs → (length rs % 5 ≡ 0 → ⊥) → refused Order ≡ with_value region_size (region_of rs)
  unfolding region_of
  no_fives l e = rw (lt-ltb 0 (length rs) l, ne_eqb (length rs % 5) 0 e)

  pub all_rows : 0 < length rs → length rs % 5 ≡ 0 → with_value region_size (rows_in (length rs / 5) [] rs) ≡ with_value region_size (region_of rs)
  unfolding region_of
  all_rows l e = rw (lt-ltb 0 (length rs) l, eq-eqb (length rs % 5) 0 e)
