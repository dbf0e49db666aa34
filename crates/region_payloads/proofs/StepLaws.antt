-- The reader's state and the rows after a record, by its answer: the size decides every check as the region itself does, since it is
-- the region's size, and a record that is accepted leaves the size and the rows of the region with it. Assumes nothing.
use Prim.Native.Nat.{ℕ, ◌-◌, ◌*◌, ◌<◌}
use native.Mathlib.Omega.{arith}
use mathlib.Core.Path.{◌≡◌, refl, sym, ap, subst, ◌∙◌}
use mathlib.Core.Bool.{Bool, true, false, cond, ◌&&◌}
use mathlib.Core.List.{List}
use lib.Dec.{ltb, eqb}
use lib.ListN.{length}
use lib.IntN.{ℤ}
use borrow.Author.Tests.{lt-ltb, le-ltb}
use Rattle.answer.specs.Answer.{Answer, refused, gives, check, with_value, Order, Crowd}
use Rattle.answer.specs.Lent.{put}
use Rattle.answer.proofs.AnswerLaws.{refused_gives, check_gives, same_value, value_gives, value_refused}
use Rattle.region.specs.declared.Halfspace.{Halfspace}
use Rattle.region.specs.Regions.{Region}
use Rattle.region.specs.Building.{with_convex, begun, last_filled, few_convexes, add}
use Rattle.region.specs.Rows.{row, rows}
use Rattle.region.specs.Reader.{File, with_region, convex_in, halfspace_in, end_in}
use Rattle.region.proofs.AddLaws.{added}
use Rattle.region.proofs.RegionLaws.{convex_rows_law}
use Rattle.region_rows.specs.declared.counts.RegionSize.{RegionSize}
use Rattle.region_rows.specs.RegionSizes.{region_size, add_convex, add_halfspace}
use Rattle.region_rows.proofs.CountLaws.{convex_counts, halfspace_counts}
use Rattle.std.specs.declared.ops.ControlFlow.TheVariants.{Break}
use Rattle.region_payloads.specs.Payloads.{Step, step_given, step_of, region_size_after, StandsFor, SizeAfter, RecordAfter, SizeAfterBy, RecordAfterBy}
use Rattle.region_payloads.proofs.RowLaws.{row_more}

-- ---- an answer that is taken

module _ {before : List ℤ} {end : Bool} {next : ℕ} {a : Answer File} {rs : List ℤ} where
  pub taken_refused : (n : ℕ) → a ≡ refused n → RecordAfter before end next a (refused n) rs
  taken_refused n e = record { step = ap (step_of end next) (sym e); rows = λ y q. refused_gives n y (sym e ∙ q) }

  pub taken_as : {last : Bool} {place : ℕ} {b : Answer File} {o : Answer Step} → last ≡ end → place ≡ next → b ≡ a → RecordAfter before last place b o rs → RecordAfter before end next a o rs
  taken_as e n q t = record {
    step = t.step ∙ (λ i. step_of (e i) (n i) (q i));
    rows = λ y p. t.rows y (q ∙ p);
  }

-- ---- an answer that is counted

module _ {before : List ℤ} {a : Answer File} {rs : List ℤ} where
  pub counted_refused : (n : ℕ) → a ≡ refused n → SizeAfter before a (refused n) rs
  counted_refused n e = record { counts = ap region_size_after (sym e); rows = λ y q. refused_gives n y (sym e ∙ q) }

  pub counted_gives : (y : File) (k : RegionSize) → a ≡ gives y → StandsFor before y.region k rs → SizeAfter before a (gives k) rs
  counted_gives y k e st = record {
    counts = ap gives st.counts ∙ ap region_size_after (sym e);
    rows = λ z p. st.rows ∙ ap (λ v. put 0 (rows v.region) before) (same_value y z (sym e ∙ p));
  }

  pub counted_as : {b : Answer File} {c : Answer RegionSize} → b ≡ a → SizeAfter before b c rs → SizeAfter before a c rs
  counted_as q t = record { counts = t.counts ∙ ap region_size_after q; rows = λ y p. t.rows y (q ∙ p) }

  -- what was counted
  pub counted_gave : {c : Answer RegionSize} (k : RegionSize) → c ≡ gives k → SizeAfter before a c rs → (y : File) × (a ≡ gives y) × StandsFor before y.region k rs
  counted_gave k e t =
      let w = value_gives (λ y. region_size y.region) a k (sym t.counts ∙ e) in
      (w.0, w.1, record { counts = sym w.2; rows = t.rows w.0 w.1 })

  pub counted_refuses : {c : Answer RegionSize} (n : ℕ) → c ≡ refused n → SizeAfter before a c rs → a ≡ refused n
  counted_refuses n e t = value_refused (λ y. region_size y.region) a n (sym t.counts ∙ e)

pub step_counted : (next : ℕ) (a : Answer File) → step_given next (region_size_after a) ≡ step_of false next a
step_counted next (refused n) = refl
step_counted next (gives y) = refl

pub counted_taken : {f : File → Answer File} {k : RegionSize} {next : ℕ} {rs rs' : List ℤ} (c : Answer RegionSize) {o : Answer Step} → o ≡ step_given next c
    → SizeAfterBy f k rs c rs' → RecordAfterBy f k next rs o rs'
counted_taken {f = f} {next = next} c e t x before st =
    let r = t x before st in
    record { step = e ∙ ap (step_given next) r.counts ∙ step_counted next (f x); rows = r.rows }

-- ---- a convex

module _ (x : File) (k : RegionSize) (e : k ≡ region_size x.region) where
  abbrev opened : Bool → Answer File
  opened t = check Order t (check Crowd (few_convexes (with_convex x.region)) (gives (with_region x (with_convex x.region))))

  convex_is : (t : Bool) → cond (ltb 0 k.convexes) (ltb 0 k.last) true ≡ t → opened t ≡ convex_in x
  convex_is t h = ap opened (sym (subst (λ k. cond (ltb 0 k.convexes) (ltb 0 k.last) true ≡ t) e h))

  pub convex_order : cond (ltb 0 k.convexes) (ltb 0 k.last) true ≡ false → refused Order ≡ region_size_after (convex_in x)
  convex_order h = ap region_size_after (convex_is false h)

  crowded : (t : Bool) (g : Region) → check Crowd t (gives (region_size g)) ≡ region_size_after (check Crowd t (gives (with_region x g)))
  crowded true g = refl
  crowded false g = refl

  pub convex_more : cond (ltb 0 k.convexes) (ltb 0 k.last) true ≡ true → add_convex k ≡ region_size_after (convex_in x)
  convex_more h =
      ap add_convex e
      ∙ convex_counts x.region
      ∙ crowded (few_convexes (with_convex x.region)) (with_convex x.region)
      ∙ ap region_size_after (convex_is true h)

convex_kept : (x y : File) → convex_in x ≡ gives y → rows y.region ≡ rows x.region
convex_kept x y e =
    let all = gives (with_region x (with_convex x.region)) in
    let few = check Crowd (few_convexes (with_convex x.region)) all in
    let p = check_gives Crowd (few_convexes (with_convex x.region)) all y (check_gives Order (cond (begun x.region) (last_filled x.region) true) few y e) in
    ap (λ z. rows z.region) (sym (same_value (with_region x (with_convex x.region)) y p)) ∙ convex_rows_law x.region

pub convex_counted : {k : RegionSize} {before rs : List ℤ} {c : Answer RegionSize} (x : File) → StandsFor before x.region k rs → c ≡ region_size_after (convex_in x)
    → SizeAfter before (convex_in x) c rs
convex_counted {before = before} x st e = record { counts = e; rows = λ y q. st.rows ∙ ap (λ r. put 0 r before) (sym (convex_kept x y q)) }

pub convex_taken : {k : RegionSize} {next : ℕ} {before rs : List ℤ} {o : Answer Step} (x : File) → StandsFor before x.region k rs
    → o ≡ step_of false next (convex_in x) → RecordAfter before false next (convex_in x) o rs
convex_taken {before = before} x st e = record { step = e; rows = λ y q. st.rows ∙ ap (λ r. put 0 r before) (sym (convex_kept x y q)) }

-- ---- a halfspace

module _ (k : RegionSize) (h : Halfspace) (x : File) (before rs : List ℤ) (st : StandsFor before x.region k rs) where
  abbrev convexes : length x.region ≡ k.convexes
  convexes = sym (ap (λ k. k.convexes) st.counts)

  pub halfspace_order : k.convexes ≡ 0 → SizeAfter before (halfspace_in x h) (refused Order) rs
  halfspace_order e =
      let none = le-ltb 0 (length x.region) (omega (arith, convexes)) in
      counted_refused Order (ap (λ t. check Order t (with_value (with_region x) (add x.region h))) none)

  module _ (b : 0 < k.convexes) where
    begun_region : 0 < length x.region
    begun_region = omega (arith, convexes)

    answered : (a : Answer Region) → add x.region h ≡ a → halfspace_in x h ≡ with_value (with_region x) a
    answered a e = λ i. check Order (lt-ltb 0 (length x.region) begun_region i) (with_value (with_region x) (e i))

    counted : add_halfspace k h ≡ with_value region_size (add x.region h)
    counted = ap (λ k. add_halfspace k h) st.counts ∙ halfspace_counts x.region h begun_region

    pub halfspace_refused : (n : ℕ) → refused n ≡ add_halfspace k h → SizeAfter before (halfspace_in x h) (refused n) rs
    halfspace_refused n e = counted_refused n (answered (refused n) (value_refused region_size (add x.region h) n (sym (e ∙ counted))))

    pub halfspace_more : (m : RegionSize) → gives m ≡ add_halfspace k h
        → (rs' : List ℤ) → rs' ≡ put (5 * k.all) (row (k.convexes - 1) h) rs
        → SizeAfter before (halfspace_in x h) (gives m) rs'
    halfspace_more m e rs' w =
        let g = x.region in
        let v = value_gives region_size (add g h) m (sym (e ∙ counted)) in
        counted_gives (with_region x v.0) m (answered (gives v.0) v.1) (record {
          counts = sym v.2;
          rows =
              w
              ∙ (λ i. put (5 * (st.counts i).all) (row ((st.counts i).convexes - 1) h) (st.rows i))
              ∙ row_more g h before begun_region
              ∙ ap (λ g. put 0 (rows g) before) (added g v.0 h v.1).is;
        })

-- ---- the end

module _ (k : RegionSize) (next : ℕ) (x : File) (left : List ℕ) (following : ℕ) (e : k ≡ region_size x.region) (f : length left ≡ following) where
  ends : (b : Bool) → (ltb 0 k.convexes && (ltb 0 k.last && eqb following 0)) ≡ b
      → begun x.region && (last_filled x.region && eqb (length left) 0) ≡ b
  ends b h = subst (λ n. begun x.region && (last_filled x.region && eqb n 0) ≡ b) (sym f) (subst (λ k. (ltb 0 k.convexes && (ltb 0 k.last && eqb following 0)) ≡ b) e h)

  pub end_refused : (ltb 0 k.convexes && (ltb 0 k.last && eqb following 0)) ≡ false → refused Order ≡ step_of true next (end_in x left)
  end_refused h = ap (λ t. step_of true next (check Order t (gives x))) (sym (ends false h))

  pub end_done : (ltb 0 k.convexes && (ltb 0 k.last && eqb following 0)) ≡ true → gives (Break k.all) ≡ step_of true next (end_in x left)
  end_done h = ap (λ k. gives (Break k.all)) e ∙ ap (λ t. step_of true next (check Order t (gives x))) (sym (ends true h))

end_kept : (x y : File) (left : List ℕ) → end_in x left ≡ gives y → rows y.region ≡ rows x.region
end_kept x y left e = ap (λ z. rows z.region) (sym (same_value x y (check_gives Order (begun x.region && (last_filled x.region && eqb (length left) 0)) (gives x) y e)))

pub end_taken : {k : RegionSize} {next : ℕ} {before rs : List ℤ} {o : Answer Step} (x : File) (left : List ℕ) → StandsFor before x.region k rs
    → o ≡ step_of true next (end_in x left) → RecordAfter before true next (end_in x left) o rs
end_taken {before = before} x left st e = record { step = e; rows = λ y q. st.rows ∙ ap (λ r. put 0 r before) (sym (end_kept x y left q)) }
