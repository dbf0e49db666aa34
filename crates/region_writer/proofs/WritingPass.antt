-- The pass that writes rows: the region of the rows so far stands from element 8 on, and a row adds to its bytes what it adds to the region, so it fits
-- where the whole file does. Assumes nothing.
use Prim.Native.Nat.{ℕ, zero, suc, ◌+◌, ◌-◌, ◌*◌, ◌/◌, ◌%◌, ◌≤◌, ◌<◌}
use native.Mathlib.Omega.{arith}
use mathlib.Core.Path.{◌≡◌, refl, sym, ap, subst, ◌∙◌}
use mathlib.Core.Bool.{Bool, true, false, cond}
use mathlib.Core.List.{List, []}
use lib.Dec.{ltb, eqb}
use lib.ListN.{length, get_or, drop, length-append, take-append-drop}
use lib.IntN.{ℤ, pos}
use borrow.Author.Tests.{eqb-true}
use Rattle.answer.specs.Answer.{gives, check, Order}
use Rattle.answer.specs.Lent.{put}
use Rattle.answer.proofs.AnswerLaws.{check_passed, check_gives, same_value, then_gives}
use Rattle.answer.proofs.PutLaws.{put_length}
use Rattle.algebra.proofs.Sizes.{Upto}
use Rattle.vector.specs.Numbers.{Kℕ, eq_z}
use Rattle.vector.proofs.Sizes.{Small}
use Rattle.vector.proofs.SizeLaws.{between_upto}
use Rattle.vector.proofs.VectorLaws.{vector_small}
use Rattle.region.specs.declared.Halfspace.{Halfspace}
use Rattle.region.specs.declared.Style.{Style}
use Rattle.region.specs.Regions.{Region}
use Rattle.region.specs.Building.{last_convex, with_convex}
use Rattle.region.specs.Rows.{begins, opened, row_in, halfspace_at, rows_in, region_of}
use Rattle.region.specs.Writer.{begin, convexes_bytes, groups_bytes, region_bytes}
use Rattle.region.proofs.AddLaws.{Added}
use Rattle.region.proofs.RegionLaws.{convex_length}
use Rattle.region.proofs.RowsBack.{last_total}
use Rattle.region_rows.proofs.NumberLaws.{RowAdded, taken}
use Rattle.region_rows.proofs.CheckingPass.{next_row}
use Rattle.region_writer.specs.declared.WriteCursor.{WriteCursor}
use Rattle.region_writer.specs.Writing.{width, opening, with_convex_at, with_halfspace_at, RegionStands, RowFits, FileFits, RowsStand}
use Rattle.region_writer.proofs.GrowthLaws.{region_length, convex_more, halfspace_longer, stands_convex, stands_halfspace}

-- ---- a new halfspace

-- the halfspace h makes the region r of g, which stands in xs
pub record Follows (s : Style) (g r : Region) (before xs : List ℕ) (p : WriteCursor) (h : Halfspace) : Type 0 where
  pub stands : RegionStands s g before xs p
  pub begun : 0 < length g
  pub added : Added g r h
  pub room : 12 + length (region_bytes s r) ≤ length before

module _ {s : Style} {g r : Region} {before xs : List ℕ} {p : WriteCursor} {h : Halfspace} (f : Follows s g r before xs p h) where
  grown : length (region_bytes s r) ≡ length (region_bytes s g) + width s
  grown = ap (λ r. length (region_bytes s r)) (sym f.added.is) ∙ halfspace_longer g h f.begun s

  same_length : length xs ≡ length before
  same_length = ap length f.stands.bytes ∙ put_length 8 (region_bytes s g) before (omega (arith, grown, f.room))

  head_before : (t : Style) → s ≡ t → 4 + 16 * p.last ≤ p.at
  head_before Style.Plain q = omega (arith, f.stands.at, f.stands.last, ap (λ s. length (region_bytes s g)) q, region_length Style.Plain g, last_total g)
  head_before Style.Grouped q = omega (arith, f.stands.at, f.stands.last, ap (λ s. length (region_bytes s g)) q, region_length Style.Grouped g, last_total g)

  pub halfspace_fits : (p.at + width s ≤ length xs) × (4 + 16 * p.last ≤ p.at) × (p.last < 100)
  halfspace_fits = (omega (arith, f.stands.at, grown, same_length, f.room), head_before s refl, omega (arith, f.stands.last, f.added.in_convex))

  pub halfspace_small : Small h.n × Upto Kℕ h.d
  halfspace_small = (vector_small h.n f.added.good.vector, between_upto h.d f.added.good.offset)

  pub halfspace_stands : {q : WriteCursor} {ys : List ℕ} → q ≡ record { at = p.at + width s; convexes = p.convexes; last = p.last + 1 }
      → ys ≡ with_halfspace_at s p h xs → RegionStands s r before ys q
  halfspace_stands {ys = ys} e b =
      let q : WriteCursor = record { at = p.at + width s; convexes = p.convexes; last = p.last + 1 } in
      let w = stands_halfspace f.stands (omega (arith, grown, f.room)) h f.begun b in
      subst (λ q. RegionStands s r before ys q) (sym e) (subst (λ r. RegionStands s r before ys q) f.added.is w)

-- ---- a new row

module _ {s : Style} {xs : List ℕ} {p : WriteCursor} {c : ℤ} {h : Halfspace} (f : RowFits s xs p c h) where
  row : RowAdded f.region f.next c h
  row = taken f.region f.next c h f.is

  opens : (t : Bool) → eq_z c (pos p.convexes) ≡ t → opened f.region c ≡ cond t (with_convex f.region) f.region
  opens t e = ap (λ t. cond t (with_convex f.region) f.region) (ap (λ n. eq_z c (pos n)) (sym f.stands.convexes) ∙ e)

  pub goes_on : eq_z c (pos p.convexes) ≡ false → Follows s f.region f.next f.before xs p h
  goes_on e = record {
    stands = f.stands;
    begun = omega (arith, ap length (opens false e), row.begun);
    added = subst (λ g. Added g f.next h) (opens false e) row.added;
    room = f.room;
  }

  module _ (e : eq_z c (pos p.convexes) ≡ true) where
    begins_added : Added (with_convex f.region) f.next h
    begins_added = subst (λ g. Added g f.next h) (opens true e) row.added

    begun : 0 < length (with_convex f.region)
    begun = omega (arith, convex_length f.region)

    longer : length (region_bytes s f.next) ≡ length (region_bytes s f.region) + 4 + width s
    longer = omega (
      arith,
      ap (λ r. length (region_bytes s r)) begins_added.is,
      halfspace_longer (with_convex f.region) h begun s,
      ap length (convex_more s f.region),
      length-append (region_bytes s f.region) (begin (opening s)),
    )

    pub convex_fits : (p.at + 4 ≤ length xs) × (p.convexes ≤ 64)
    convex_fits =
        let same = ap length f.stands.bytes ∙ put_length 8 (region_bytes s f.region) f.before (omega (arith, longer, f.room)) in
        (omega (arith, f.stands.at, longer, f.room), omega (arith, f.stands.convexes, ap length (opens true e), row.few, convex_length f.region))

    pub begins_row : {q : WriteCursor} {ys : List ℕ} → q ≡ record { at = p.at + 4; convexes = p.convexes + 1; last = 0 } → ys ≡ with_convex_at s p xs
        → Follows s (with_convex f.region) f.next f.before ys q h
    begins_row {ys = ys} o b = record {
      stands = subst (λ q. RegionStands s (with_convex f.region) f.before ys q) (sym o) (stands_convex f.stands (omega (arith, longer, f.room)) b);
      begun = begun;
      added = begins_added;
      room = f.room;
    }

-- ---- rows that are left only add

opened_longer : (s : Style) (g : Region) (t : Bool) → length (region_bytes s g) ≤ length (region_bytes s (cond t (with_convex g) g))
opened_longer s g true = omega (arith, ap length (convex_more s g), length-append (region_bytes s g) (begin (opening s)))
opened_longer s g false = omega arith

row_longer : (s : Style) {g r : Region} {c : ℤ} {h : Halfspace} → RowAdded g r c h → length (region_bytes s g) ≤ length (region_bytes s r)
row_longer s {g} {r} {c} {h} t =
    omega (arith, opened_longer s g (begins g c), halfspace_longer (opened g c) h t.begun s, ap (λ r. length (region_bytes s r)) t.added.is)

rows_longer : (s : Style) (n : ℕ) (g f : Region) (rs : List ℤ) → rows_in n g rs ≡ gives f → length (region_bytes s g) ≤ length (region_bytes s f)
unfolding rows_in
rows_longer s zero g f rs e = omega (arith, ap (λ g. length (region_bytes s g)) (same_value g f e))
rows_longer s (suc n) g f rs e =
    let c = get_or rs 0 (pos 0) in
    let w = then_gives (row_in g c (halfspace_at rs)) (λ next. rows_in n next (drop 5 rs)) f e in
    omega (arith, rows_longer s n w.0 f (drop 5 rs) w.2, row_longer s (taken g w.0 c (halfspace_at rs) w.1))

-- ---- the pass

-- the rows of rs before element i are written into xs, which was `before`, and the next record goes to p. All rows make the region `whole`, whose file fits
pub record Writing (s : Style) (rs : List ℤ) (before xs : List ℕ) (p : WriteCursor) (i : ℕ) : Type 0 where
  pub whole : Region
  pub is : region_of rs ≡ gives whole
  pub room : 12 + length (region_bytes s whole) ≤ length before
  pub region : Region
  pub left : ℕ
  pub place : i + 5 * left ≡ length rs
  pub leads : rows_in left region (drop i rs) ≡ gives whole
  pub stands : RegionStands s region before xs p

all_rows : (rs : List ℤ) (g : Region) → region_of rs ≡ gives g → (rows_in (length rs / 5) [] rs ≡ gives g) × (length rs % 5 ≡ 0)
unfolding region_of
all_rows rs g e =
    let all = rows_in (length rs / 5) [] rs in
    let a = check_gives Order (ltb 0 (length rs)) (check Order (eqb (length rs % 5) 0) all) g e in
    (check_gives Order (eqb (length rs % 5) 0) all g a, eqb-true (length rs % 5) 0 (check_passed Order (eqb (length rs % 5) 0) all g a))

none_stand : (s : Style) (before : List ℕ) → RegionStands s [] before before (record { at = 8; convexes = 0; last = 0 })
unfolding convexes_bytes groups_bytes last_convex
none_stand Style.Plain before = record { at = refl; convexes = refl; last = refl; bytes = sym (take-append-drop 8 before) }
none_stand Style.Grouped before = record { at = refl; convexes = refl; last = refl; bytes = sym (take-append-drop 8 before) }

pub start : (s : Style) (rs : List ℤ) (before : List ℕ) → FileFits s rs (length before) → Writing s rs before before (record { at = 8; convexes = 0; last = 0 }) 0
start s rs before q =
    let w = all_rows rs q.region q.is in
    record {
      whole = q.region;
      is = q.is;
      room = q.room;
      region = [];
      left = length rs / 5;
      place = omega (arith, w.1);
      leads = w.0;
      stands = none_stand s before;
    }

module _ {s : Style} {rs : List ℤ} {before xs : List ℕ} {p : WriteCursor} {i : ℕ} (v : Writing s rs before xs p i) where
  pub done : length rs ≤ i → RowsStand s rs before xs p.at
  unfolding rows_in
  done l g f =
      let z : v.left ≡ 0 = omega (arith, v.place) in
      let all : v.region ≡ v.whole = same_value v.region v.whole (sym (ap (λ n. rows_in n v.region (drop i rs)) z) ∙ v.leads) in
      let e : v.region ≡ g = all ∙ same_value v.whole g (sym v.is ∙ f) in
      (v.stands.at ∙ ap (λ g. 8 + length (region_bytes s g)) e, v.stands.bytes ∙ ap (λ g. put 8 (region_bytes s g) before) e)

  module _ (l : i < length rs) where
    abbrev c : ℤ
    c = get_or rs i (pos 0)

    abbrev h : Halfspace
    h = halfspace_at (drop i rs)

    -- the region with the row, from which the rows that are left lead on
    next : (r : Region) × (row_in v.region c h ≡ gives r) × (rows_in (v.left - 1) r (drop (i + 5) rs) ≡ gives v.whole)
    next =
        let z : v.left ≡ suc (v.left - 1) = omega (arith, v.place) in
        let e = sym (next_row (v.left - 1) v.region rs i) ∙ sym (ap (λ n. rows_in n v.region (drop i rs)) z) ∙ v.leads in
        then_gives (row_in v.region c h) (λ r. rows_in (v.left - 1) r (drop (i + 5) rs)) v.whole e

    pub row_fits : RowFits s xs p c h
    row_fits = record {
      region = v.region;
      before = before;
      stands = v.stands;
      next = next.0;
      is = next.1;
      room = omega (arith, v.room, rows_longer s (v.left - 1) next.0 v.whole (drop (i + 5) rs) next.2);
    }

    pub more : {q : WriteCursor} {ys : List ℕ} → ((f : RowFits s xs p c h) → RegionStands s f.next f.before ys q) → Writing s rs before ys q (i + 5)
    unfolding row_fits
    more w = record {
      whole = v.whole;
      is = v.is;
      room = v.room;
      region = next.0;
      left = v.left - 1;
      place = omega (arith, v.place);
      leads = next.2;
      stands = w row_fits;
    }
