-- The scan of a region's rows is the region's own answer, where no convex is empty: the rows of a convex have one number, and the next convex's
-- another. Assumes nothing.
use Prim.Native.Nat.{ℕ, suc, ◌+◌, ◌-◌, ◌*◌, ◌≤◌, ◌<◌}
use native.Mathlib.Omega.{arith}
use mathlib.Core.Path.{◌≡◌, refl, sym, ap, ap₂, ◌∙◌}
use mathlib.Core.Bool.{Bool, true, false, ◌&&◌, ◌||◌}
use mathlib.Core.List.{List, [], ◌∷◌, ◌++◌, append_assoc}
use lib.ListN.{length, get_or, drop}
use lib.Seq.{get_or-drop, drop-drop}
use lib.IntN.{ℤ, pos}
use borrow.Author.Tests.{eq-eqb, ne_eqb}
use Rattle.algebra.specs.Lists.{every, some}
use Rattle.vector.specs.declared.Vec3.{Vec3}
use Rattle.region.specs.declared.Halfspace.{Halfspace}
use Rattle.region.specs.Regions.{Convex, Region, holds_halfspace, holds_convex, holds}
use Rattle.region.specs.Building.{total}
use Rattle.region.proofs.FilledLaws.{Filled}
use Rattle.region.specs.Rows.{row, convex_rows, rows_from, rows, halfspace_at}
use Rattle.region_points.specs.declared.Scan.{Scan}
use Rattle.region_points.specs.Points.{state, scanned, scan, rows_hold}

-- ---- Booleans

and_assoc : (a b c : Bool) → (a && b) && c ≡ a && (b && c)
and_assoc true b c = refl
and_assoc false b c = refl

or_assoc : (a b c : Bool) → (a || b) || c ≡ a || (b || c)
or_assoc true b c = refl
or_assoc false b c = refl

and_true : (a : Bool) → a && true ≡ a
and_true true = refl
and_true false = refl

or_false : (a : Bool) → a || false ≡ a
or_false true = refl
or_false false = refl

-- ---- the rows of one convex

module _ (p : Vec3) where
  convex_scan : (k : ℕ) (c : Convex) (n : ℕ) (all any : Bool) (rest : List ℤ)
      → scan p (length c + n) (state (pos k) all any) (convex_rows k c ++ rest) ≡ scan p n (state (pos k) (all && holds_convex c p) any) rest
  unfolding convex_rows holds_convex every
  convex_scan k [] n all any rest = let e : 0 + n ≡ n = omega arith in (λ j. scan p (e j) (state (pos k) (sym (and_true all) j) any) rest)
  convex_scan k (h ∷ hs) n all any rest =
      let m : suc (length hs) + n ≡ suc (length hs + n) = omega arith in
      ap (λ j. scan p j (state (pos k) all any) (convex_rows k (h ∷ hs) ++ rest)) m
      ∙ same k h (length hs + n) all any (convex_rows k hs ++ rest)
      ∙ convex_scan k hs n (all && holds_halfspace h p) any rest
      ∙ ap (λ t. scan p n (state (pos k) t any) rest) (and_assoc all (holds_halfspace h p) (holds_convex hs p))
    where
      same : (k : ℕ) (h : Halfspace) (n : ℕ) (all any : Bool) (rest : List ℤ)
          → scan p (suc n) (state (pos k) all any) (row k h ++ rest) ≡ scan p n (state (pos k) (all && holds_halfspace h p) any) rest
      same k h n all any rest = unfold scan in rw (eq-eqb k k refl)

  -- the first row of the next convex
  next_row : (k : ℕ) (h : Halfspace) (n : ℕ) (all any : Bool) (rest : List ℤ)
      → scan p (suc n) (state (pos k) all any) (row (suc k) h ++ rest) ≡ scan p n (state (pos (suc k)) (holds_halfspace h p) (any || all)) rest
  unfolding scan
  next_row k h n all any rest = rw (ne_eqb (suc k) k (λ e. omega arith))

  -- ---- the convexes after number k

  convexes_scan : (k : ℕ) (cs : Region) (all any : Bool) (tail : List ℤ) → Filled cs
      → scan p (total cs) (state (pos k) all any) (rows_from (suc k) cs ++ tail) ≡ (any || all) || holds cs p
  unfolding rows_from total holds some
  convexes_scan k [] all any tail f = unfold scan in sym (or_false (any || all))
  convexes_scan k ([] ∷ cs) all any tail f = absurd (omega (arith, f.0))
  convexes_scan k ((h ∷ hs) ∷ cs) all any tail f =
      let m : suc (length hs) + total cs ≡ suc (length hs + total cs) = omega arith in
      let rest = rows_from (suc (suc k)) cs ++ tail in
      ap₂ (λ j l. scan p j (state (pos k) all any) l) m (regroup h hs cs)
      ∙ next_row k h (length hs + total cs) all any (convex_rows (suc k) hs ++ rest)
      ∙ convex_scan (suc k) hs (total cs) (holds_halfspace h p) (any || all) rest
      ∙ convexes_scan (suc k) cs (holds_halfspace h p && holds_convex hs p) (any || all) tail f.1
      ∙ or_assoc (any || all) (holds_halfspace h p && holds_convex hs p) (holds cs p)
      ∙ ap (λ t. (any || all) || (t || holds cs p)) (whole h hs)
    where
      regroup : (h : Halfspace) (hs : Convex) (cs : Region) → (convex_rows (suc k) (h ∷ hs) ++ rows_from (suc (suc k)) cs) ++ tail
          ≡ row (suc k) h ++ (convex_rows (suc k) hs ++ (rows_from (suc (suc k)) cs ++ tail))
      regroup h hs cs = unfold convex_rows in ap (λ l. row (suc k) h ++ l) (append_assoc (convex_rows (suc k) hs) (rows_from (suc (suc k)) cs) tail)

      whole : (h : Halfspace) (hs : Convex) → holds_halfspace h p && holds_convex hs p ≡ holds_convex (h ∷ hs) p
      whole h hs = unfold holds_convex every in refl

  pub rows_hold_law : (g : Region) (tail : List ℤ) → 0 < length g → Filled g → rows_hold p (total g) (rows g ++ tail) ≡ holds g p
  unfolding rows_hold rows rows_from total holds some
  rows_hold_law [] tail b f = absurd (omega arith)
  rows_hold_law (c ∷ cs) tail b f =
      ap (scan p (length c + total cs) (state (pos 0) true false)) (append_assoc (convex_rows 0 c) (rows_from 1 cs) tail)
      ∙ convex_scan 0 c (total cs) true false (rows_from 1 cs ++ tail)
      ∙ convexes_scan 0 cs (holds_convex c p) false tail f.1

-- ---- the next row

-- ---- the scan row by row

-- after i of n rows, in the state s
pub record Scanning (p : Vec3) (n : ℕ) (rs : List ℤ) (i : ℕ) (s : Scan) : Type 0 where
  pub upto : i ≤ n
  pub left : scan p (n - i) s (drop (5 * i) rs) ≡ rows_hold p n rs

pub scan_start : (p : Vec3) (n : ℕ) (rs : List ℤ) → Scanning p n rs 0 (state (pos 0) true false)
unfolding rows_hold
scan_start p n rs =
    let e : n - 0 ≡ n = omega arith in
    record { upto = omega arith; left = ap (λ m. scan p m (state (pos 0) true false) rs) e }

module _ (p : Vec3) (n : ℕ) (rs : List ℤ) (i : ℕ) (s : Scan) (now : Scanning p n rs i s) where
  pub scan_next : {c : ℤ} {here : Bool} → i < n → c ≡ get_or rs (5 * i) (pos 0) → here ≡ holds_halfspace (halfspace_at (drop (5 * i) rs)) p → Scanning p n rs (i + 1) (scanned s c here)
  unfolding scan
  scan_next {c} {here} h ec eh =
      let e : suc (n - (i + 1)) ≡ n - i = omega arith in
      let five : 5 * (i + 1) ≡ 5 * i + 5 = omega arith in
      let zero : 5 * i ≡ 5 * i + 0 = omega arith in
      let number : c ≡ get_or (drop (5 * i) rs) 0 (pos 0) = ec ∙ ap (λ m. get_or rs m (pos 0)) zero ∙ sym (get_or-drop (5 * i) rs 0 (pos 0)) in
      record {
        upto = omega arith;
        left =
            ap (λ m. scan p (n - (i + 1)) (scanned s c here) (drop m rs)) five
            ∙ ap (scan p (n - (i + 1)) (scanned s c here)) (sym (drop-drop 5 (5 * i) rs))
            ∙ (λ j. scan p (n - (i + 1)) (scanned s (number j) (eh j)) (drop 5 (drop (5 * i) rs)))
            ∙ ap (λ m. scan p m s (drop (5 * i) rs)) e
            ∙ now.left;
      }

  pub scan_end : n ≤ i → s.any || s.all ≡ rows_hold p n rs
  unfolding scan
  scan_end h = let e : 0 ≡ n - i = omega arith in ap (λ m. scan p m s (drop (5 * i) rs)) e ∙ now.left
