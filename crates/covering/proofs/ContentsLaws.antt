-- What the cover's lists contain: the accepted identifiers are those of the full trixels and the partial ones, and the outer list contains them and what
-- it swallowed. Both lie among the identifiers of the depth, so the counts are small. Assumes nothing.
use Prim.Native.Nat.{ℕ, zero, suc, ◌+◌, ◌-◌, ◌*◌, ◌^◌, ◌≤◌}
use native.Mathlib.Nat.{pow-le-pow_right}
use native.Mathlib.Omega.{arith}
use mathlib.Core.Path.{◌≡◌, refl, sym, ap, ◌∙◌, subst}
use mathlib.Core.List.{[], ◌∷◌}
use lib.Dec.{lit<}
use Rattle.mesh.specs.declared.Trixel.{Trixel}
use Rattle.mesh.specs.Trixels.{child, root_trixel}
use Rattle.mesh.specs.Identifiers.{identifiers_at}
use Rattle.region.specs.Regions.{Region}
use Rattle.classify.specs.Classes.{region_class}
use Rattle.ranges.specs.declared.Range.{Range}
use Rattle.ranges.specs.Contents.{identifiers, Contains}
use Rattle.ranges.proofs.ContentsLaws.{identifiers_append, identifiers_few, between_contains, between_outer, identifiers_outer}
use Rattle.ranges.proofs.ListLaws.{Between}
use Rattle.covering.specs.Cover.{Found, descendants, left_out, taken_full, taken_partial, both, four, visit, visit_root, cutting, Cover, listed}
use Rattle.covering.proofs.CoverLaws.{by_class, Which, full_stretch, power, below, found_outside, found_full, found_last, found_cut, found_between, cutting_between, cutting_at_depth}

-- a full trixel n levels above the depth has 4^n descendants there
pub descendants_count : (n i : ℕ) → identifiers (descendants n i ∷ []) ≡ 4 ^ n
unfolding identifiers
descendants_count n i = omega (arith, full_stretch i (4 ^ n), power n)

-- ---- the accepted identifiers are those of full trixels and the partial ones

abbrev Shared : Found → Type 0
Shared a = identifiers a.accepted ≡ identifiers a.full + a.partial

shared_outside : Shared left_out
unfolding identifiers
shared_outside = refl

shared_full : (r : Range) → Shared (taken_full r)
shared_full r = omega arith

shared_last : (i : ℕ) → Shared (taken_partial (descendants 0 i))
unfolding identifiers
shared_last i = descendants_count 0 i

shared_both : (a b : Found) → Shared a → Shared b → Shared (both a b)
shared_both a b p q = omega (arith, identifiers_append a.accepted b.accepted, identifiers_append a.full b.full)

shared_four : (F : ℕ → Found) → ((k : ℕ) → Shared (F k)) → Shared (four (F 0) (F 1) (F 2) (F 3))
shared_four F p =
    shared_both (F 0) (both (F 1) (both (F 2) (F 3))) (p 0) (shared_both (F 1) (both (F 2) (F 3)) (p 1) (shared_both (F 2) (F 3) (p 2) (p 3)))

module _ (g : Region) where
  pub found_shared : (n : ℕ) (t : Trixel) (i : ℕ) → Shared (visit n g t i)
  found_shared zero t i = by_class (region_class g t)
      (λ e. subst Shared (sym (found_outside g 0 t i e)) shared_outside)
      (λ e. subst Shared (sym (found_last g t i e)) (shared_last i))
      (λ e. subst Shared (sym (found_full g 0 t i e)) (shared_full (descendants 0 i)))
  found_shared (suc n) t i = by_class (region_class g t)
      (λ e. subst Shared (sym (found_outside g (suc n) t i e)) shared_outside)
      (λ e. subst Shared (sym (found_cut g n t i e)) (shared_four (below g n t i) (λ k. found_shared n (child k t) (4 * i + k))))
      (λ e. subst Shared (sym (found_full g (suc n) t i e)) (shared_full (descendants (suc n) i)))

  -- a trixel n levels above the depth adds at most 4^n to full and partial
  pub found_few : (n : ℕ) (t : Trixel) (i : ℕ) → identifiers (visit n g t i).full + (visit n g t i).partial ≤ 4 ^ n
  found_few n t i =
      let e = full_stretch i (4 ^ n) in
      let f = identifiers_few (i * 4 ^ n) ((i + 1) * 4 ^ n) (visit n g t i).accepted (found_between g Which.accepted n t i) in
      omega (arith, found_shared n t i)

  pub cutting_shared : (d : ℕ) → identifiers (cutting d g).accepted ≡ identifiers (cutting d g).full + (cutting d g).partial
  unfolding cutting
  cutting_shared d = shared_both (four (R 0) (R 1) (R 2) (R 3)) (four (R 4) (R 5) (R 6) (R 7)) (shared_four R p) (shared_four (λ k. R (4 + k)) (λ k. p (4 + k)))
    where
      R : ℕ → Found
      R k = visit_root (d - 1) g k

      p : (k : ℕ) → Shared (R k)
      p k = found_shared (d - 1) (root_trixel k) (8 + k)

-- ---- the lists, under a budget B

module _ (g : Region) (d B : ℕ) where
  abbrev c : Cover
  c = listed B (cutting d g)

  module _ (one : 1 ≤ B) where
    pub outer_between : Between (8 * 4 ^ (d - 1)) (16 * 4 ^ (d - 1)) c.outer
    outer_between = between_outer B one (8 * 4 ^ (d - 1)) (16 * 4 ^ (d - 1)) (cutting d g).accepted (cutting_between g d Which.accepted)

    pub outer_counted : identifiers c.outer ≡ c.full + c.partial + c.swallowed
    outer_counted =
        identifiers_outer B one (8 * 4 ^ (d - 1)) (16 * 4 ^ (d - 1)) (cutting d g).accepted (cutting_between g d Which.accepted)
        ∙ ap (λ n. n + c.swallowed) (cutting_shared g d)

    -- how many identifiers the depth has
    pub outer_few : identifiers c.outer ≤ 8 * 4 ^ (d - 1)
    outer_few = omega (arith, identifiers_few (8 * 4 ^ (d - 1)) (16 * 4 ^ (d - 1)) c.outer outer_between)

    pub counts_few : c.full + c.partial + c.swallowed ≤ 8 * 4 ^ (d - 1)
    counts_few = omega (arith, outer_few, outer_counted)

    -- swallowed, from the outer list at the end
    pub swallowed_left : c.swallowed ≡ identifiers c.outer - c.full - c.partial
    swallowed_left = omega (arith, outer_counted)

    pub counts_small : d ≤ 12 → c.full + c.partial + c.swallowed ≤ 2 ^ 25
    counts_small h =
        let m : 4 ^ (d - 1) ≤ 4 ^ 11 = pow-le-pow_right {n = 4} (lit< tt) {i = d - 1} {j = 11} (omega arith) in
        omega (arith, counts_few)

-- ---- how many of the identifiers at the depth they contain, each counted once

module _ (g : Region) (d B : ℕ) (deep : 1 ≤ d) where
  abbrev low : ℕ
  low = 2 ^ (2 * d + 1)

  abbrev lists : Cover
  lists = listed B (cutting d g)

  pub full_contains : Contains (identifiers_at d) (cutting d g).full lists.full
  full_contains = between_contains low low (cutting d g).full (cutting_at_depth g d Which.full deep)

  pub accepted_contains : Contains (identifiers_at d) (cutting d g).accepted (lists.full + lists.partial)
  accepted_contains =
      subst (Contains (identifiers_at d) (cutting d g).accepted) (cutting_shared g d)
      (between_contains low low (cutting d g).accepted (cutting_at_depth g d Which.accepted deep))

  pub outer_contains : 1 ≤ B → Contains (identifiers_at d) lists.outer (lists.full + lists.partial + lists.swallowed)
  outer_contains one =
      subst (Contains (identifiers_at d) lists.outer) (outer_counted g d B one)
      (between_contains low low lists.outer (between_outer B one low (low + low) (cutting d g).accepted (cutting_at_depth g d Which.accepted deep)))
