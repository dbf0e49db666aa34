-- The checks of a row need only the size of the region so far. A row that passes adds one halfspace, and one convex where its number is the next.
-- Assumes nothing.
use Prim.Native.Nat.{ℕ, ◌+◌, ◌-◌, ◌≤◌, ◌<◌}
use native.Mathlib.Omega.{arith}
use mathlib.Core.Path.{◌≡◌, refl, sym, ap, ◌∙◌}
use mathlib.Core.Bool.{Bool, true, false, cond, ◌&&◌, ◌||◌}
use lib.Dec.{ltb}
use lib.ListN.{length}
use lib.IntN.{ℤ, pos, ◌+ℤ◌}
use borrow.Author.Tests.{leb-true, ltb-true, le-leb}
use Rattle.algebra.proofs.Tests.{and_left}
use Rattle.answer.specs.Answer.{Answer, refused, gives, check, then, with_value, Order, Crowd}
use Rattle.answer.proofs.AnswerLaws.{check_passed, check_gives}
use Rattle.vector.specs.Numbers.{eq_z}
use Rattle.region.specs.declared.Halfspace.{Halfspace}
use Rattle.region.specs.Regions.{Region}
use Rattle.region.specs.Building.{with_convex, begun, few_convexes, add}
use Rattle.region.specs.Rows.{begins, goes_on, opened, row_in}
use Rattle.region.proofs.AddLaws.{Added, added}
use Rattle.region.proofs.RegionLaws.{convex_length, halfspace_length}
use Rattle.region_rows.specs.declared.counts.RegionSize.{RegionSize}
use Rattle.region_rows.specs.RegionSizes.{region_size, add_convex, add_halfspace}
use Rattle.region_rows.proofs.CountLaws.{convex_counts, halfspace_counts}
use Rattle.region_rows.specs.Opening.{opens_convex}

-- ---- a row

-- after n convexes a row's number is that of a new convex or of the last one
abbrev pub belongs_to : ℕ → ℤ → Bool
belongs_to n c = eq_z c (pos n) || (ltb 0 n && eq_z (c +ℤ pos 1) (pos n))

module _ (g : Region) (c : ℤ) where
  opened_begun' : (t : Bool) → t || goes_on g c ≡ true → 0 < length (cond t (with_convex g) g)
  opened_begun' true e = omega (arith, convex_length g)
  opened_begun' false e = ltb-true 0 (length g) (and_left (begun g) (eq_z (c +ℤ pos 1) (pos (length g))) e)

  pub opened_begun : begins g c || goes_on g c ≡ true → 0 < length (opened g c)
  opened_begun e = opened_begun' (begins g c) e

module _ (h : Halfspace) where
  crowded : (t : Bool) (g : Region) → 0 < length g → then (check Crowd t (gives (region_size g))) (λ o. add_halfspace o h) ≡ with_value region_size (check Crowd t (add g h))
  crowded true g b = halfspace_counts g h b
  crowded false g b = refl

  -- the convex is the next one, or the last one of at most 64
  in_convex : (t : Bool) (g : Region) → length g ≤ 64 → 0 < length (cond t (with_convex g) g)
      → then (cond t (add_convex (region_size g)) (gives (region_size g))) (λ o. add_halfspace o h)
      ≡ with_value region_size (check Crowd (few_convexes (cond t (with_convex g) g)) (add (cond t (with_convex g) g) h))
  in_convex true g l b = ap (λ a. then a (λ o. add_halfspace o h)) (convex_counts g) ∙ crowded (few_convexes (with_convex g)) (with_convex g) b
  in_convex false g l b = halfspace_counts g h b ∙ ap (λ t. with_value region_size (check Crowd t (add g h))) (sym (le-leb (length g) 64 l))

module _ (k : RegionSize) (c : ℤ) (h : Halfspace) where
  abbrev row : Bool → Region → Answer Region
  row t g = check Order t (check Crowd (few_convexes (opened g c)) (add (opened g c) h))

  belongs : (t : Bool) → belongs_to k.convexes c ≡ t → (g : Region) → region_size g ≡ k → begins g c || goes_on g c ≡ t
  belongs t b g e = ap (λ k. belongs_to k.convexes c) e ∙ b

  pub no_number : belongs_to k.convexes c ≡ false → (g : Region) → region_size g ≡ k → refused Order ≡ with_value region_size (row_in g c h)
  unfolding row_in
  no_number b g e = ap (λ t. with_value region_size (row t g)) (sym (belongs false b g e))

  pub row_added : belongs_to k.convexes c ≡ true → k.convexes ≤ 64 → (g : Region) → region_size g ≡ k
      → then (opens_convex k c) (λ o. add_halfspace o h) ≡ with_value region_size (row_in g c h)
  unfolding row_in
  row_added b l g e =
      let belong = belongs true b g e in
      ap (λ k. then (opens_convex k c) (λ o. add_halfspace o h)) (sym e)
      ∙ in_convex h (begins g c) g (omega (arith, ap (λ k. k.convexes) e)) (opened_begun g c belong)
      ∙ ap (λ t. with_value region_size (row t g)) (sym belong)

-- ---- a row that passed

pub record RowAdded (g r : Region) (c : ℤ) (h : Halfspace) : Type 0 where
  pub begun : 0 < length (opened g c)
  pub few : length (opened g c) ≤ 64
  pub added : Added (opened g c) r h

pub taken : (g r : Region) (c : ℤ) (h : Halfspace) → row_in g c h ≡ gives r → RowAdded g r c h
unfolding row_in
taken g r c h e =
    let last = add (opened g c) h in
    let crowd = check Crowd (few_convexes (opened g c)) last in
    let a = check_gives Order (begins g c || goes_on g c) crowd r e in
    record {
      begun = opened_begun g c (check_passed Order (begins g c || goes_on g c) crowd r e);
      few = leb-true (length (opened g c)) 64 (check_passed Crowd (few_convexes (opened g c)) last r a);
      added = added (opened g c) r h (check_gives Crowd (few_convexes (opened g c)) last r a);
    }

module _ {g r : Region} {c : ℤ} {h : Halfspace} (t : RowAdded g r c h) where
  pub taken_length : length r ≡ length (opened g c)
  taken_length = ap length (sym t.added.is) ∙ halfspace_length (opened g c) h

  pub taken_few : length r ≤ 64
  taken_few = omega (arith, taken_length, t.few)
