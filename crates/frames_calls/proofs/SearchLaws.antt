-- A search over rows is that of their region: the lists in the lent list are the cover's, read back as they were written (`outer_back`, `inner_back`), and the
-- point test of the rows is the region's (`rows_hold_law`). Assumes nothing.
use Prim.Native.Nat.{ℕ, suc, ◌+◌, ◌-◌, ◌*◌, ◌^◌, ◌≤◌, ◌<◌}
use native.Mathlib.Omega.{arith}
use native.Mathlib.Nat.{min-le_left}
use mathlib.Core.Path.{◌≡◌, refl, sym, ap, subst, ◌∙◌}
use mathlib.Core.List.{List, [], ◌∷◌}
use lib.ListN.{length, drop, length-take}
use lib.IntN.{ℤ}
use Rattle.answer.specs.Lent.{put}
use Rattle.vector.specs.declared.Vec3.{Vec3}
use Rattle.region.specs.Regions.{Region, holds}
use Rattle.region.specs.Building.{total}
use Rattle.region_points.specs.Points.{rows_hold}
use Rattle.region_points.proofs.PointLaws.{rows_hold_law}
use Rattle.ranges.specs.declared.Range.{Range}
use Rattle.ranges.specs.Ranges.{ranges_in}
use Rattle.ranges.proofs.Sound.{outer_few, inner_few}
use Rattle.covering.specs.declared.Counts.{Counts}
use Rattle.covering.specs.Cover.{Cover, cutting, listed, counts_of, both_listed}
use Rattle.covering.proofs.ListedLaws.{outer_back, inner_back}
use Rattle.covering_walk.specs.Walk.{RowsOf}
use Rattle.index.specs.declared.Entry.{Entry}
use Rattle.index.specs.Exposures.{OwnerCapacity, only}
use Rattle.index.specs.Entries.{is_owned, entries_in}
use Rattle.frames.specs.Walk.{shortened, entries_of, ahead, walk, delivered_by}
use Rattle.frames_walk.specs.declared.lists.Lists.{Lists}
use Rattle.frames_walk.specs.declared.lists.OwnedEntries.{OwnedEntries}
use Rattle.frames_walk.specs.declared.lists.RegionRows.{RegionRows}
use Rattle.frames_walk.specs.declared.DispositionCounts.{DispositionCounts}
use Rattle.frames_walk.specs.Lent.{Lent}
use Rattle.frames_walk.specs.Steps.{counts_by, outer_in, inner_in, held, Walks}
use Rattle.frames_walk.proofs.StepLaws.{few_counted}
use Rattle.frames_calls.specs.Searches.{walk_beside, Searches}

-- ---- few entries are visited

abbrev counting : DispositionCounts → ℕ
counting t = t.unchecked + t.held + t.discarded

walk_length : (d : ℕ) (held : _) (os ns : List Range) (es : List Entry) → length (walk d held os ns es) ≡ length es
unfolding walk
walk_length d held os ns [] = refl
walk_length d held os ns (e ∷ es) = ap suc (walk_length d held (ahead (shortened d e) os) (ahead (shortened d e) ns) es)

few_visited : (d : ℕ) (held : Vec3 → _) (os ns : List Range) (o : ℕ) (l : List ℤ) → counting (counts_by (walk d held os ns (entries_of o l))) ≤ OwnerCapacity
few_visited d held os ns o l =
    let es = only (is_owned o) (entries_in l) in
    let ms = walk d held os ns (entries_of o l) in
    omega (arith, few_counted ms, walk_length d held os ns (entries_of o l), length-take OwnerCapacity es, min-le_left OwnerCapacity (length es))

-- ---- the point test of the rows

held_rows : {g : Region} {n : ℕ} {rs : List ℤ} → RowsOf g n rs → (p : Vec3) → rows_hold p n rs ≡ holds g p
held_rows {g} {n} {rs} k p = ap (λ m. rows_hold p m rs) k.count ∙ ap (rows_hold p (total g)) k.list ∙ rows_hold_law p g k.more k.some k.filled

-- ---- the lists in the lent list

module _ (d b : ℕ) (g : Region) (one : 1 ≤ b) (ranges lists : List ℕ) (space : 4 * b ≤ length ranges) (c : Counts) (counts : c ≡ counts_of (listed b (cutting d g)))
    (list : lists ≡ both_listed b (listed b (cutting d g)) ranges) where
  abbrev C : Cover
  C = listed b (cutting d g)

  outer_short : length C.outer ≤ b
  outer_short = outer_few b one (cutting d g).accepted

  inner_short : length C.inner ≤ b
  inner_short = inner_few b one (cutting d g).full

  pub lent : (span : ℕ) → 0 < span → length lists ≡ length ranges → Lent c.outer (2 * b) c.inner span lists
  lent span h e =
      let o : c.outer ≡ length C.outer = ap (λ k. k.outer) counts in
      let n : c.inner ≡ length C.inner = ap (λ k. k.inner) counts in
      record { outer = omega (arith, outer_short); inner = omega (arith, inner_short); some = h }

  outer_list : ranges_in c.outer lists ≡ C.outer
  outer_list = (λ i. ranges_in (counts i).outer (list i)) ∙ outer_back b C ranges space outer_short

  inner_list : ranges_in c.inner (drop (2 * b) lists) ≡ C.inner
  inner_list = (λ i. ranges_in (counts i).inner (drop (2 * b) (list i))) ∙ inner_back b C ranges space outer_short

  pub searched : (x : OwnedEntries) (rs : RegionRows) → RowsOf g rs.count rs.rows.now → (l : Lists) → outer_in l ≡ ranges_in c.outer lists
      → inner_in l ≡ ranges_in c.inner (drop (2 * b) lists) → l.span ≡ 4 ^ (12 - d) → (numbers left : List ℕ) (t : DispositionCounts)
      → Walks x l rs numbers t left → Searches x.owner x.index.now d b g ranges numbers (record { counts = c; dispositions = t }) lists left
  searched x rs k l o n e numbers left t w =
      let v = w d e in
      let same : walk d (held rs) (outer_in l) (inner_in l) (entries_of x.owner x.index.now) ≡ walk_beside x.owner x.index.now d g C =
      λ i. walk d (λ p. held_rows k p i) ((o ∙ outer_list) i) ((n ∙ inner_list) i) (entries_of x.owner x.index.now) in
      record {
        counts = counts;
        lists_left = list;
        dispositions = v.dispositions ∙ ap counts_by same;
        numbers_left = v.numbers ∙ ap (λ ms. put 0 (delivered_by ms) numbers) same;
        few = subst (λ q. counting q ≤ OwnerCapacity) (sym (v.dispositions ∙ ap counts_by same)) (few_visited d (holds g) C.outer C.inner x.owner x.index.now);
      }
