-- Rows are prepared one after the other: what is stored so far, with the rows that are left, gives all that the rule stores. For the rows of a region the
-- two lists are the region's prepared halfspaces and the ends of its convexes. Assumes nothing.
use Prim.Native.Nat.{ℕ, zero, suc, ◌+◌, ◌-◌, ◌*◌, ◌≤◌, ◌<◌}
use native.Mathlib.Omega.{arith}
use mathlib.Core.Path.{◌≡◌, refl, sym, ap, subst, ◌∙◌}
use mathlib.Core.Bool.{true}
use mathlib.Core.List.{List, [], ◌∷◌, ◌++◌, append_assoc}
use lib.ListN.{length, get_or, take, drop, set, length-set, length-append}
use lib.Seq.{drop-drop, take_at}
use lib.IntN.{ℤ, pos, nat_abs}
use Rattle.algebra.proofs.Tests.{and_left, and_right}
use Rattle.answer.specs.Lent.{put}
use Rattle.answer.proofs.PutLaws.{put_length, put_none, put_put, set_put}
use Rattle.vector.specs.Vectors.{is_vector}
use Rattle.region.specs.declared.Halfspace.{Halfspace}
use Rattle.region.specs.Regions.{Convex, Region}
use Rattle.region.specs.Building.{total, is_offset}
use Rattle.region.proofs.GoodRegions.{good_convex, good}
use Rattle.region.proofs.FilledLaws.{Filled}
use Rattle.region.specs.Rows.{convex_rows, rows_from, rows, halfspace_at}
use Rattle.classify_prepared.specs.declared.PreparedHalfspace.{PreparedHalfspace}
use Rattle.classify_prepared.specs.Measures.{prepared}
use Rattle.classify_prepared.specs.PreparedLists.{convex_prepared, region_prepared, ends_from, Prepared, stored, marked, convexes_of, FitRow, FitRows}
use Rattle.algebra.specs.Lists.{every}
use Rattle.region.proofs.GoodRegions.{good_halfspace}

pub length_convex : (c : Convex) → length (convex_prepared c) ≡ length c
unfolding convex_prepared
length_convex [] = refl
length_convex (h ∷ hs) = omega (arith, length_convex hs)

pub length_region : (g : Region) → length (region_prepared g) ≡ total g
unfolding region_prepared total
length_region [] = refl
length_region (c ∷ cs) = omega (arith, length-append (convex_prepared c) (region_prepared cs), length_convex c, length_region cs)

pub length_ends : (m : ℕ) (g : Region) → length (ends_from m g) ≡ length g
unfolding ends_from
length_ends m [] = refl
length_ends m (c ∷ cs) = omega (arith, length_ends (m + length c) cs)

pub region_good : (c : Convex) (cs : Region) → good (c ∷ cs) ≡ true → (good_convex c ≡ true) × (good cs ≡ true)
unfolding good every
region_good c cs e = (and_left (good_convex c) (every good_convex cs) e, and_right (good_convex c) (every good_convex cs) e)

pub convex_good : (h : Halfspace) (hs : Convex) → good_convex (h ∷ hs) ≡ true → (good_halfspace h ≡ true) × (good_convex hs ≡ true)
unfolding good_convex every
convex_good h hs e = (and_left (good_halfspace h) (every good_halfspace hs) e, and_right (good_halfspace h) (every good_halfspace hs) e)

-- ---- row by row

module _ (rs : List ℤ) (n : ℕ) (before : List PreparedHalfspace) (first : List ℕ) where
  -- before row number i
  pub record Preparing (i : ℕ) (xs : List PreparedHalfspace) (es : List ℕ) (c : ℕ) : Type 0 where
    pub upto : i ≤ n
    pub halfspaces : stored i (n - i) (drop (5 * i) rs) xs ≡ stored 0 n rs before
    pub ends : marked i (n - i) (drop (5 * i) rs) es ≡ marked 0 n rs first
    pub convexes : convexes_of c (n - i) (drop (5 * i) rs) ≡ convexes_of 0 n rs
    pub most : c ≤ 64

  pub prepare_start : Preparing 0 before first 0
  prepare_start =
      let e : n - 0 ≡ n = omega arith in
      record {
        upto = omega arith;
        halfspaces = ap (λ m. stored 0 m rs before) e;
        ends = ap (λ m. marked 0 m rs first) e;
        convexes = ap (λ m. convexes_of 0 m rs) e;
        most = omega arith;
      }

  taken : (i : ℕ) (xs : List PreparedHalfspace) (es : List ℕ) (c : ℕ) → Preparing i xs es c → i < n → {k : ℕ} → k ≡ nat_abs (get_or (drop (5 * i) rs) 0 (pos 0)) → k < 64
      → Preparing (i + 1) (set xs i (prepared (halfspace_at (drop (5 * i) rs)))) (set es k (i + 1)) (k + 1)
  unfolding stored marked convexes_of
  taken i xs es c p h {k} ek few =
      let e : suc (n - (i + 1)) ≡ n - i = omega arith in
      let one : i + 1 ≡ suc i = omega arith in
      let five : 5 * (i + 1) ≡ 5 * i + 5 = omega arith in
      let further : drop (5 * (i + 1)) rs ≡ drop 5 (drop (5 * i) rs) = ap (λ m. drop m rs) five ∙ sym (drop-drop 5 (5 * i) rs) in
      let q = prepared (halfspace_at (drop (5 * i) rs)) in
      record {
        upto = omega arith;
        halfspaces = (λ j. stored (one j) (n - (i + 1)) (further j) (set xs i q)) ∙ ap (λ m. stored i m (drop (5 * i) rs) xs) e ∙ p.halfspaces;
        ends = (λ j. marked (one j) (n - (i + 1)) (further j) (set es (ek j) (one j))) ∙ ap (λ m. marked i m (drop (5 * i) rs) es) e ∙ p.ends;
        convexes = (λ j. convexes_of (ek j + 1) (n - (i + 1)) (further j)) ∙ ap (λ m. convexes_of c m (drop (5 * i) rs)) e ∙ p.convexes;
        most = omega arith;
      }

  -- the next row: its halfspace q is stored, and its convex, number k, ends behind it
  pub prepare_more : (i : ℕ) (xs : List PreparedHalfspace) (es : List ℕ) (c : ℕ) → Preparing i xs es c → i < n → {q : PreparedHalfspace} {k : ℕ}
      → q ≡ prepared (halfspace_at (drop (5 * i) rs)) → k ≡ nat_abs (get_or (drop (5 * i) rs) 0 (pos 0)) → k < 64 → Preparing (i + 1) (set xs i q) (set es k (i + 1)) (k + 1)
  prepare_more i xs es c p h {q} {k} eq ek few = subst (λ q. Preparing (i + 1) (set xs i q) (set es k (i + 1)) (k + 1)) (sym eq) (taken i xs es c p h ek few)

  pub prepare_end : (i : ℕ) (xs : List PreparedHalfspace) (es : List ℕ) (c : ℕ) → Preparing i xs es c → n ≤ i
      → (xs ≡ stored 0 n rs before) × (es ≡ marked 0 n rs first) × (c ≡ convexes_of 0 n rs)
  unfolding stored marked convexes_of
  prepare_end i xs es c p h =
      let e : 0 ≡ n - i = omega (arith, p.upto) in (
        ap (λ m. stored i m (drop (5 * i) rs) xs) e ∙ p.halfspaces,
        ap (λ m. marked i m (drop (5 * i) rs) es) e ∙ p.ends,
        ap (λ m. convexes_of c m (drop (5 * i) rs)) e ∙ p.convexes,
      )

-- ---- the rows of a region

region_rows : (k : ℕ) (c : Convex) (cs : Region) (l : List ℤ) → rows_from k (c ∷ cs) ++ l ≡ convex_rows k c ++ (rows_from (suc k) cs ++ l)
unfolding rows_from
region_rows k c cs l = append_assoc (convex_rows k c) (rows_from (suc k) cs) l

-- the halfspaces of a convex, then those of the rest
convex_stored : (i k n : ℕ) (c : Convex) (l : List ℤ) (xs : List PreparedHalfspace) → i + length c ≤ length xs
    → stored i (length c + n) (convex_rows k c ++ l) xs ≡ stored (i + length c) n l (put i (convex_prepared c) xs)
unfolding stored convex_prepared convex_rows
convex_stored i k n [] l xs h =
    let a : 0 + n ≡ n = omega arith in
    let b : i ≡ i + 0 = omega arith in
    λ j. stored (b j) (a j) l (sym (put_none i xs) j)
convex_stored i k n (v ∷ vs) l xs h =
    let q = prepared v in
    let a : suc (length vs) + n ≡ suc (length vs + n) = omega arith in
    let b : suc i + length vs ≡ i + suc (length vs) = omega arith in
    let m : suc i ≡ i + length (q ∷ []) = omega arith in
    ap (λ m. stored i m (convex_rows k (v ∷ vs) ++ l) xs) a
    ∙ convex_stored (suc i) k n vs l (set xs i q) (omega (arith, length-set xs i q))
    ∙ ap (λ ys. stored (suc i + length vs) n l (put (suc i) (convex_prepared vs) ys)) (set_put i q xs (omega arith))
    ∙ (λ j. stored (b j) n l (put_put i (suc i) (q ∷ []) (convex_prepared vs) xs m (omega arith) j))

region_stored : (i k : ℕ) (g : Region) (l : List ℤ) (xs : List PreparedHalfspace) → i + total g ≤ length xs → stored i (total g) (rows_from k g ++ l) xs ≡ put i (region_prepared g) xs
unfolding stored region_prepared total
region_stored i k [] l xs h = sym (put_none i xs)
region_stored i k (c ∷ cs) l xs h =
    let m : i + length c ≡ i + length (convex_prepared c) = omega (arith, length_convex c) in
    let in_list : i + length (convex_prepared c) ≤ length xs = omega (arith, length_convex c) in
    ap (λ r. stored i (length c + total cs) r xs) (region_rows k c cs l)
    ∙ convex_stored i k (total cs) c (rows_from (suc k) cs ++ l) xs (omega arith)
    ∙ region_stored (i + length c) (suc k) cs l (put i (convex_prepared c) xs) (omega (arith, put_length i (convex_prepared c) xs in_list))
    ∙ put_put i (i + length c) (convex_prepared c) (region_prepared cs) xs m (omega arith)

set_set : (es : List ℕ) (k a b : ℕ) → set (set es k a) k b ≡ set es k b
set_set [] k a b = refl
set_set (x ∷ es) zero a b = refl
set_set (x ∷ es) (suc k) a b = ap (λ l. x ∷ l) (set_set es k a b)

-- the end of a convex, then those of the rest
convex_marked : (i k n : ℕ) (v : Halfspace) (vs : Convex) (l : List ℤ) (es : List ℕ)
    → marked i (suc (length vs) + n) (convex_rows k (v ∷ vs) ++ l) es ≡ marked (i + suc (length vs)) n l (set es k (i + suc (length vs)))
unfolding marked convex_rows
convex_marked i k n v [] l es =
    let a : 1 + n ≡ suc n = omega arith in
    let b : suc i ≡ i + 1 = omega arith in
    ap (λ m. marked i m (convex_rows k (v ∷ []) ++ l) es) a ∙ (λ j. marked (b j) n l (set es k (b j)))
convex_marked i k n v (w ∷ vs) l es =
    let a : suc (suc (length vs)) + n ≡ suc (suc (length vs) + n) = omega arith in
    let b : suc i + suc (length vs) ≡ i + suc (suc (length vs)) = omega arith in
    ap (λ m. marked i m (convex_rows k (v ∷ w ∷ vs) ++ l) es) a
    ∙ convex_marked (suc i) k n w vs l (set es k (suc i))
    ∙ ap (marked (suc i + suc (length vs)) n l) (set_set es k (suc i) (suc i + suc (length vs)))
    ∙ (λ j. marked (b j) n l (set es k (b j)))

region_marked : (i k : ℕ) (g : Region) (l : List ℤ) (es : List ℕ) → Filled g → k + length g ≤ length es → marked i (total g) (rows_from k g ++ l) es ≡ put k (ends_from i g) es
unfolding marked ends_from total
region_marked i k [] l es f h = sym (put_none k es)
region_marked i k ([] ∷ cs) l es f h = absurd (omega (arith, f.0))
region_marked i k ((v ∷ vs) ∷ cs) l es f h =
    let n = length (v ∷ vs) in
    let e : suc k ≡ k + length ((i + n) ∷ []) = omega arith in
    ap (λ r. marked i (n + total cs) r es) (region_rows k (v ∷ vs) cs l)
    ∙ convex_marked i k (total cs) v vs (rows_from (suc k) cs ++ l) es
    ∙ region_marked (i + n) (suc k) cs l (set es k (i + n)) f.1 (omega (arith, length-set es k (i + n)))
    ∙ ap (put (suc k) (ends_from (i + n) cs)) (set_put k (i + n) es (omega arith))
    ∙ put_put k (suc k) ((i + n) ∷ []) (ends_from (i + n) cs) es e (omega arith)

-- the number of a convex and 1, then those of the rest
convex_counted : (b k n : ℕ) (v : Halfspace) (vs : Convex) (l : List ℤ) → convexes_of b (suc (length vs) + n) (convex_rows k (v ∷ vs) ++ l) ≡ convexes_of (k + 1) n l
unfolding convexes_of convex_rows
convex_counted b k n v [] l = let a : 1 + n ≡ suc n = omega arith in ap (λ m. convexes_of b m (convex_rows k (v ∷ []) ++ l)) a
convex_counted b k n v (w ∷ vs) l =
    let a : suc (suc (length vs)) + n ≡ suc (suc (length vs) + n) = omega arith in
    ap (λ m. convexes_of b m (convex_rows k (v ∷ w ∷ vs) ++ l)) a ∙ convex_counted (k + 1) k n w vs l

region_counted : (k : ℕ) (g : Region) (l : List ℤ) → Filled g → convexes_of k (total g) (rows_from k g ++ l) ≡ k + length g
unfolding convexes_of total
region_counted k [] l f = omega arith
region_counted k ([] ∷ cs) l f = absurd (omega (arith, f.0))
region_counted k ((v ∷ vs) ∷ cs) l f =
    let n = length (v ∷ vs) in
    let one : k + 1 ≡ suc k = omega arith in
    let all : suc k + length cs ≡ k + length ((v ∷ vs) ∷ cs) = omega arith in
    ap (λ r. convexes_of k (n + total cs) r) (region_rows k (v ∷ vs) cs l)
    ∙ convex_counted k k (total cs) v vs (rows_from (suc k) cs ++ l)
    ∙ ap (λ m. convexes_of m (total cs) (rows_from (suc k) cs ++ l)) one
    ∙ region_counted (suc k) cs l f.1
    ∙ all

-- ---- the rows of a region that is good, and has no more than 64 convexes, fit

convex_fits : (k : ℕ) (c : Convex) (l : List ℤ) → k < 64 → good_convex c ≡ true → (n : ℕ) → FitRows n l → FitRows (length c + n) (convex_rows k c ++ l)
unfolding convex_rows
convex_fits k [] l few e n rest i h = rest i (omega arith)
convex_fits k (v ∷ vs) l few e n rest zero h =
    let both = convex_good v vs e in
    record {
      vector = and_left (is_vector v.n) (is_offset v.d) both.0;
      offset = and_right (is_vector v.n) (is_offset v.d) both.0;
      place = k;
      number = refl;
      few = few;
    }
convex_fits k (v ∷ vs) l few e n rest (suc i) h =
    let five : 5 * suc i ≡ suc (suc (suc (suc (suc (5 * i))))) = omega arith in
    subst (λ m. FitRow (drop m (convex_rows k (v ∷ vs) ++ l))) (sym five) (convex_fits k vs l few (convex_good v vs e).1 n rest i (omega arith))

region_fits : (k : ℕ) (g : Region) (l : List ℤ) → k + length g ≤ 64 → good g ≡ true → FitRows (total g) (rows_from k g ++ l)
unfolding total
region_fits k [] l few e = λ i h. absurd (omega arith)
region_fits k (c ∷ cs) l few e =
    subst (FitRows (length c + total cs)) (sym (region_rows k c cs l))
    (convex_fits k c (rows_from (suc k) cs ++ l) (omega arith) (region_good c cs e).0 (total cs) (region_fits (suc k) cs l (omega arith) (region_good c cs e).1))

-- ---- together

module _ (g : Region) (l : List ℤ) (is-good : good g ≡ true) (filled : Filled g) (few : length g ≤ 64) where
  pub rows_fit : FitRows (total g) (rows g ++ l)
  unfolding rows
  rows_fit = region_fits 0 g l (omega arith) is-good

  pub rows_prepared : {n c : ℕ} (before : List PreparedHalfspace) {xs : List PreparedHalfspace} (first : List ℕ) {es : List ℕ} → n ≡ total g → n ≤ length before → 64 ≤ length first
      → xs ≡ stored 0 n (rows g ++ l) before → es ≡ marked 0 n (rows g ++ l) first → c ≡ convexes_of 0 n (rows g ++ l) → Prepared g (take n xs) (take c es)
  unfolding rows
  rows_prepared {n} {c} before {xs} first {es} e h m x y z =
      let from : 0 + length g ≡ length g = omega arith in
      let count : c ≡ length g = z ∙ ap (λ k. convexes_of 0 k (rows g ++ l)) e ∙ region_counted 0 g l filled ∙ from in
      record {
        filled = filled;
        good = is-good;
        halfspaces =
            ap (take n) (x ∙ ap (λ k. stored 0 k (rows g ++ l) before) e ∙ region_stored 0 0 g l before (omega (arith, e)))
            ∙ take_at (region_prepared g) (drop (0 + length (region_prepared g)) before) n (length_region g ∙ sym e);
        ends =
            ap (take c) (y ∙ ap (λ k. marked 0 k (rows g ++ l) first) e ∙ region_marked 0 0 g l first filled (omega arith))
            ∙ take_at (ends_from 0 g) (drop (0 + length (ends_from 0 g)) first) c (length_ends 0 g ∙ sym count);
      }
