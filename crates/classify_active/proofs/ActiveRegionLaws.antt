-- What is stored of a region beside an anchor, convex by convex: one that is outside for every close trixel is left out, of the others the active
-- halfspaces are stored. Assumes nothing.
use Prim.Native.Nat.{ℕ, suc, ◌+◌, ◌-◌, ◌≤◌, ◌<◌}
use native.Mathlib.Omega.{arith}
use mathlib.Core.Path.{◌≡◌, refl, sym, ap, ◌∙◌}
use mathlib.Core.Bool.{true}
use mathlib.Core.List.{List, [], ◌∷◌, ◌++◌, append_assoc, append-nil}
use lib.ListN.{length, get_or, take, drop, set}
use lib.Seq.{take_at, take-append-add, length-take-le, take-suc-set}
use Rattle.algebra.specs.Lists.{every}
use Rattle.algebra.proofs.Tests.{and_left, and_right, and_both}
use Rattle.answer.specs.Lent.{put}
use Rattle.mesh.specs.declared.Trixel.{Trixel}
use Rattle.region.specs.Regions.{Convex, Region}
use Rattle.region.specs.Building.{total}
use Rattle.region.proofs.GoodRegions.{good_convex, good}
use Rattle.region.proofs.FilledLaws.{Filled}
use Rattle.classify.specs.declared.Class.{Class}
use Rattle.classify.specs.declared.Class.TheVariants.{Outside}
use Rattle.classify.specs.Shape.{positive, volume}
use Rattle.classify_prepared.specs.declared.PreparedHalfspace.{PreparedHalfspace}
use Rattle.classify_prepared.specs.declared.prepared_region.HalfspaceLists.{HalfspaceLists}
use Rattle.classify_active.specs.declared.anchors.Anchor.{Anchor}
use Rattle.classify.specs.Classes.{convex_class, region_class}
use Rattle.classify_cap.specs.declared.BoundingCap.{BoundingCap}
use Rattle.classify_cap.specs.Middle.{IsBoundingCap}
use Rattle.classify_active.specs.Anchor.{close_to, Close}
use Rattle.classify_prepared.specs.PreparedLists.{convex_prepared, region_prepared, ends_from, Prepared, PreparedConvex, Ready, Classed, join}
use Rattle.classify_prepared.specs.PreparedRegions.{halfspaces_in, ends_in, ReadyRegion}
use Rattle.classify_region.proofs.ScanLaws.{join_assoc, join_outside, region_cons, no_total, no_region, ConvexNext, region_start, convex_next, region_end}
use Rattle.classify_prepared.proofs.PreparingLaws.{length_convex, length_region, length_ends}
use Rattle.classify_active.specs.Active.{Alike, Stores, AddedConvex, RegionSearch}

-- ---- a convex at the end of a region

module _ (c : Convex) where
  region_snoc : (g : Region) (t : Trixel) → region_class (g ++ c ∷ []) t ≡ join (region_class g t) (convex_class c t)
  region_snoc [] t = region_cons c [] t ∙ ap (join (convex_class c t)) (no_region [] t tt no_total) ∙ join_outside (convex_class c t) ∙ ap (λ a. join a (convex_class c t)) (sym (no_region [] t tt no_total))
  region_snoc (v ∷ vs) t =
      region_cons v (vs ++ c ∷ []) t ∙ ap (join (convex_class v t)) (region_snoc vs t)
      ∙ sym (join_assoc (convex_class v t) (region_class vs t) (convex_class c t)) ∙ ap (λ a. join a (convex_class c t)) (sym (region_cons v vs t))

  region_list_snoc : (g : Region) → region_prepared (g ++ c ∷ []) ≡ region_prepared g ++ convex_prepared c
  unfolding region_prepared
  region_list_snoc [] = append-nil (convex_prepared c)
  region_list_snoc (v ∷ vs) = ap (λ l. convex_prepared v ++ l) (region_list_snoc vs) ∙ sym (append_assoc (convex_prepared v) (region_prepared vs) (convex_prepared c))

  ends_snoc : (m : ℕ) (g : Region) → ends_from m (g ++ c ∷ []) ≡ ends_from m g ++ (m + total g + length c) ∷ []
  unfolding ends_from total
  ends_snoc m [] = let e : m + length c ≡ m + 0 + length c = omega arith in ap (λ n. n ∷ []) e
  ends_snoc m (v ∷ vs) =
      let e : m + length v + total vs + length c ≡ m + (length v + total vs) + length c = omega arith in
      ap (λ l. (m + length v) ∷ l) (ends_snoc (m + length v) vs ∙ ap (λ n. ends_from (m + length v) vs ++ n ∷ []) e)

  total_snoc : (g : Region) → total (g ++ c ∷ []) ≡ total g + length c
  unfolding total
  total_snoc [] = omega arith
  total_snoc (v ∷ vs) = omega (arith, total_snoc vs)

  filled_snoc : (g : Region) → Filled g → 0 < length c → Filled (g ++ c ∷ [])
  filled_snoc [] f h = (h, tt)
  filled_snoc (v ∷ vs) f h = (f.0, filled_snoc vs f.1 h)

  region_good_snoc : (g : Region) → good g ≡ true → good_convex c ≡ true → good (g ++ c ∷ []) ≡ true
  unfolding good every
  region_good_snoc [] e f = and_both f refl
  region_good_snoc (v ∷ vs) e f = and_both (and_left (good_convex v) (every good_convex vs) e) (region_good_snoc vs (and_right (good_convex v) (every good_convex vs) e) f)

few_convexes_law : (g : Region) → Filled g → length g ≤ total g
unfolding total
few_convexes_law [] f = omega arith
few_convexes_law (c ∷ cs) f = omega (arith, f.0, few_convexes_law cs f.1)

-- ---- what is put at a position leaves what is before it

module _ {A : Type 0} (k : ℕ) (xs before : List A) (h : k ≤ length before) where
  put_before : take k (put k xs before) ≡ take k before
  put_before = take_at (take k before) (xs ++ drop (k + length xs) before) k (length-take-le k before h)

  put_with : take (k + length xs) (put k xs before) ≡ take k before ++ xs
  put_with =
      let l = length-take-le k before h in
      ap (λ m. take (m + length xs) (put k xs before)) (sym l)
      ∙ take-append-add (take k before) (xs ++ drop (k + length xs) before) (length xs)
      ∙ ap (λ m. take k before ++ m) (take_at xs (drop (k + length xs) before) (length xs) refl)

-- ---- a convex is added to the lists

-- the region g stands in the first w halfspaces and the first c ends
module _ (g : Region) (ys : List PreparedHalfspace) (ms : List ℕ) (w c : ℕ) (p : Prepared g (take w ys) (take c ms)) (lw : w ≤ length ys) (lc : c ≤ length ms) where
  stored_count : w ≡ total g
  stored_count = sym (length-take-le w ys lw) ∙ ap length p.halfspaces ∙ length_region g

  stored_convexes : c ≡ length g
  stored_convexes = sym (length-take-le c ms lc) ∙ ap length p.ends ∙ length_ends 0 g

  pub stored_few : c ≤ w
  stored_few = omega (arith, stored_count, stored_convexes, few_convexes_law g p.filled)

  -- where nothing is counted, what is stored behind changes nothing
  pub still_prepared : (u : Convex) {ys' : List PreparedHalfspace} → Stores w u ys ys' → Prepared g (take w ys') (take c ms)
  still_prepared u s = record {
    filled = p.filled;
    good = p.good;
    halfspaces = ap (take w) s.list ∙ put_before w (convex_prepared u) ys lw ∙ p.halfspaces;
    ends = p.ends;
  }

  -- there is a place for the end of the convex u, if its halfspaces have theirs
  pub end_place : (u : Convex) {ys' : List PreparedHalfspace} → Stores w u ys ys' → {m : ℕ} → m ≡ w + length u → w < m → (c < 32) × (m ≤ 32)
  end_place u s e l = (omega (arith, s.small, e, stored_few), omega (arith, s.small, e))

  -- the convex u is behind the others
  pub more_prepared : (u : Convex) {ys' : List PreparedHalfspace} → Stores w u ys ys' → {m : ℕ} → m ≡ w + length u → w < m → c < length ms
      → Prepared (g ++ u ∷ []) (take m ys') (take (c + 1) (set ms c m))
  more_prepared u s {m} e l h =
      let at : m ≡ w + length (convex_prepared u) = omega (arith, e, length_convex u) in
      let one : c + 1 ≡ suc c = omega arith in
      let end : m ≡ 0 + total g + length u = omega (arith, e, stored_count) in
      record {
        filled = filled_snoc u g p.filled (omega (arith, e));
        good = region_good_snoc u g p.good s.good;
        halfspaces = (λ j. take (at j) (s.list j)) ∙ put_with w (convex_prepared u) ys lw ∙ ap (λ l. l ++ convex_prepared u) p.halfspaces ∙ sym (region_list_snoc u g);
        ends = ap (λ j. take j (set ms c m)) one ∙ take-suc-set ms c m h ∙ (λ j. p.ends j ++ end j ∷ []) ∙ sym (ends_snoc u 0 g);
      }

-- ---- the convexes of a region

module _ (r : Anchor) (xs : List PreparedHalfspace) (es : List ℕ) where
  abbrev pub InRegionSearch : ℕ → ℕ → HalfspaceLists 32 32 → Type 0
  InRegionSearch i k a = (g : Region) → Prepared g xs es → RegionSearch r xs es g i k a

  pub region_search_start : (a : HalfspaceLists 32 32) → a.count ≡ 0 → a.convexes ≡ 0 → InRegionSearch 0 0 a
  unfolding total region_prepared ends_from good every
  region_search_start a e f g q = record {
    left = g;
    at = region_start xs es g q;
    stored = [];
    prepared = record { filled = tt; good = refl; halfspaces = ap (λ n. take n a.halfspaces) e; ends = ap (λ n. take n a.ends) f };
    class = λ t c. ap (λ b. join b (region_class g t)) (no_region [] t tt no_total);
  }

  module _ {i k : ℕ} {a : HalfspaceLists 32 32} (o : InRegionSearch i k a) (l : k < length es) where
    following : (g : Region) (q : Prepared g xs es) → ConvexNext xs es i k (get_or es k 0) (o g q).left
    following g q = convex_next xs es i k (o g q).left (o g q).at l (get_or es k 0) refl

    pub search_within : Ready xs es → (i ≤ get_or es k 0) × (get_or es k 0 ≤ length xs)
    search_within n = let f = following n.0 n.1 in (f.before, f.most)

    pub search_convex : Ready xs es → (v : Convex) × PreparedConvex v (take (get_or es k 0 - i) (drop i xs))
    search_convex n = let f = following n.0 n.1 in (f.convex, f.at)

    pub search_stored : Ready xs es → ReadyRegion a
    search_stored n = ((o n.0 n.1).stored, (o n.0 n.1).prepared)

    pub search_added : {b : HalfspaceLists 32 32} → AddedConvex r (take (get_or es k 0 - i) (drop i xs)) a b
        → InRegionSearch (get_or es k 0) (k + 1) b
    search_added f g q =
        let s = o g q in
        let n = following g q in
        let h = f s.stored s.prepared n.convex n.at in
        record {
          left = n.rest;
          at = n.after;
          stored = h.0;
          prepared = h.1;
          class = λ t c.
              ap (λ b. join b (region_class n.rest t)) (h.2 t c) ∙ join_assoc (region_class s.stored t) (convex_class n.convex t) (region_class n.rest t)
              ∙ ap (join (region_class s.stored t)) (sym (n.class t)) ∙ s.class t c;
        }

  -- no convex is left: what is stored is a region of its own
  pub region_search_end : {i k : ℕ} {a : HalfspaceLists 32 32} → InRegionSearch i k a → length es ≤ k → (g : Region) → Prepared g xs es
      → (h : Region) × Prepared h (halfspaces_in a) (ends_in a) × Alike r g h
  region_search_end {i} {k} o h g q =
      let a = o g q in (
        a.stored,
        a.prepared,
        λ t c.
            sym (a.class t c) ∙ ap (join (region_class a.stored t)) (region_end xs es i k a.left a.at h t)
            ∙ join_outside (region_class a.stored t),
      )

-- ---- a convex that is added, as a program finds it

module _ (r : Anchor) (g : Region) (v : Convex) where
  -- it is outside
  pub added_outside : ((t : Trixel) → Close r t → convex_class v t ≡ Outside) → (t : Trixel) → Close r t → region_class g t ≡ join (region_class g t) (convex_class v t)
  added_outside o t c = sym (join_outside (region_class g t)) ∙ ap (join (region_class g t)) (sym (o t c))

  -- its active halfspaces were stored
  pub added_active : (u : Convex) → ((t : Trixel) → Close r t → convex_class v t ≡ convex_class u t) → (t : Trixel) → Close r t
      → region_class (g ++ u ∷ []) t ≡ join (region_class g t) (convex_class v t)
  added_active u o t c = region_snoc u g t ∙ ap (join (region_class g t)) (sym (o t c))

-- ---- the class of a trixel that is close, by what is active

pub by_active : {xs ys : List PreparedHalfspace} {es ms : List ℕ} {r : Anchor} {t : Trixel} {m : BoundingCap}
    → ((g : Region) → Prepared g xs es → (h : Region) × Prepared h ys ms × Alike r g h)
    → IsBoundingCap t m → positive (volume t) ≡ true → close_to r m ≡ true → {c : Class} → Classed t ys ms c → Classed t xs es c
by_active {t = t} {m = m} k b v e f g p = let h = k g p in f h.0 h.1 ∙ sym (h.2 t (record { cap = m; bounds = b; oriented = v; close = e }))
