-- The outer list in lent memory, when a range is pushed: what each branch of the code writes is what `outer_full` and `outer_push` say. Assumes nothing.
use Prim.Native.Nat.{ℕ, ◌+◌, ◌*◌, ◌-◌, ◌≤◌, ◌<◌}
use mathlib.Core.Path.{◌≡◌, refl, sym, ap, subst, ◌∙◌}
use mathlib.Core.Bool.{Bool, true, false}
use mathlib.Core.List.{List, [], ◌∷◌, ◌++◌}
use native.Mathlib.Omega.{arith}
use lib.Dec.{eqb}
use lib.ListN.{length, get_or, set}
use borrow.Author.Tests.{le-ltb, lt-ltb}
use Rattle.ranges_stored.specs.declared.MinHint.{MinHint}
use Rattle.ranges.specs.declared.Range.{Range}
use Rattle.ranges.specs.Ranges.{ranges_in}
use Rattle.ranges.specs.Lists.{gaps, join_at}
use Rattle.ranges.proofs.Pushing.{last_high, extend, new_gap, outer_full, outer_new, outer_push}
use Rattle.algebra.specs.Moves.{shifted_down}
use Rattle.ranges_stored.specs.Stored.{written, Writes, Hinted, PointsAt}
use Rattle.ranges.proofs.Loop.{length_snoc}
use Rattle.ranges.proofs.OuterPass.{length_extend, length_join_at, length_full, push_some}
use Rattle.ranges_stored.proofs.StoredLaws.{length_in, last_in, written_in, write_append, write_extend}
use Rattle.ranges_stored.proofs.ShiftLaws.{shifted_down_joins}
use Rattle.ranges_stored.proofs.HintLaws.{outer_below, outer_points, hinted_extend, hinted_join}

-- the ranges xs are ys, and those are written
pub writes : {xs ys : List Range} {l m : List ℕ} {n : ℕ} → xs ≡ ys → n ≡ length ys → m ≡ written ys l → Writes xs l m n
writes {l = l} e c w = record { count = c ∙ ap length (sym e); list = w ∙ ap (λ z. written z l) (sym e) }

-- ---- the list is full

-- range number i and the next join, and a new one stands behind the last
joins : (n i : ℕ) (l : List ℕ) (r : Range) → i + 1 < n → 2 * n ≤ length l
    → set (set (shifted_down 2 (2 * i + 1) l (2 * n - 2 - (2 * i + 1))) (2 * n - 2) r.low) (2 * n - 2 + 1) r.high ≡ written (join_at i (ranges_in n l) ++ r ∷ []) l
joins n i l r h fits =
    let j : length (join_at i (ranges_in n l)) + 1 ≡ n = fewer (ranges_in n l) (length_in n l) in
    ap (λ x. set (set x (2 * n - 2) r.low) (2 * n - 2 + 1) r.high) (shifted_down_joins n i (2 * i + 1) (2 * n - 2 - (2 * i + 1)) l h fits refl (omega arith))
    ∙ write_append (join_at i (ranges_in n l)) l r.low r.high (2 * n - 2) (2 * n - 2 + 1) (omega arith) (omega arith) (omega arith)
  where
    fewer : (xs : List Range) → length xs ≡ n → length (join_at i xs) + 1 ≡ n
    fewer [] e = absurd (omega arith)
    fewer (a ∷ xs) e = omega (arith, length_join_at i a xs (omega arith))

module _ (n : ℕ) (l : List ℕ) (r : Range) (g end : ℕ) (fits : 2 * n ≤ length l) (last : end + 1 ≡ 2 * n) (far : g ≡ r.low - get_or l end 0 - 1) (h : MinHint) where
  abbrev xs : List Range
  xs = ranges_in n l

  abbrev Full : List ℕ → Type 0
  Full m = (m ≡ written (outer_full xs r) l) × Hinted h (gaps (outer_full xs r))

  gap_is : g ≡ new_gap xs r
  gap_is = far ∙ ap (λ m. r.low - m - 1) (sym (last_in n l end last fits))

  -- the new gap is below all
  pub full_extends : Hinted h (gaps xs) → ((i : ℕ) → i < length (gaps xs) → g < get_or (gaps xs) i 0) → Full (set l end r.high)
  full_extends p f =
      let e : outer_full xs r ≡ extend xs r = outer_below xs r (λ i k. subst (λ u. u < get_or (gaps xs) i 0) gap_is (f i k)) in (
        ap (λ m. set m end r.high) (sym (written_in n l fits))
            ∙ write_extend xs l r end (omega (arith, length_in n l))
            ∙ ap (λ ys. written ys l) (sym e),
        subst (λ ys. Hinted h (gaps ys)) (sym e) (hinted_extend h xs r p),
      )

  -- another one is the smallest
  pub full_joins : PointsAt h (gaps xs) → h.from + 1 < n → h.floor ≤ g → (m : List ℕ)
      → m ≡ set (set (shifted_down 2 (2 * h.from + 1) l (2 * n - 2 - (2 * h.from + 1))) (2 * n - 2) r.low) (2 * n - 2 + 1) r.high → Full m
  full_joins p c k m w =
      let d : h.floor ≤ new_gap xs r = omega (arith, gap_is) in
      let e : outer_full xs r ≡ join_at h.from xs ++ r ∷ [] = outer_points h xs r p d in
      (w ∙ joins n h.from l r c fits ∙ ap (λ ys. written ys l) (sym e), subst (λ ys. Hinted h (gaps ys)) (sym e) (hinted_join h xs r p d))

-- ---- a range is pushed

pub appended : (n : ℕ) (l : List ℕ) (r : Range) → 2 * n + 2 ≤ length l → Writes (ranges_in n l ++ r ∷ []) l (set (set l (2 * n) r.low) (2 * n + 1) r.high) (n + 1)
appended n l r h =
    let stored : length (ranges_in n l) ≡ n = length_in n l in
    writes refl (omega (arith, stored, length_snoc (ranges_in n l) r))
    (ap (λ m. set (set m (2 * n) r.low) (2 * n + 1) r.high) (sym (written_in n l (omega arith)))
    ∙ write_append (ranges_in n l) l r.low r.high (2 * n) (2 * n + 1) (omega (arith, stored)) (omega (arith, stored)) (omega (arith, stored)))

push_touching : (B : ℕ) (xs : List Range) (r : Range) → 0 < length xs → eqb (last_high xs + 1) r.low ≡ true → outer_push B xs r ≡ extend xs r
push_touching B xs r h t = push_some B xs r h ∙ rw t

push_apart : (B : ℕ) (xs : List Range) (r : Range) → 0 < length xs → eqb (last_high xs + 1) r.low ≡ false → outer_push B xs r ≡ outer_new B xs r
push_apart B xs r h t = push_some B xs r h ∙ rw t

new_append : (B : ℕ) (xs : List Range) (r : Range) → length xs < B → outer_new B xs r ≡ xs ++ r ∷ []
unfolding outer_new
new_append B xs r h = rw (lt-ltb (length xs) B h)

new_full : (B : ℕ) (xs : List Range) (r : Range) → B ≤ length xs → outer_new B xs r ≡ outer_full xs r
unfolding outer_new
new_full B xs r h = rw (le-ltb (length xs) B h)

pub push_first : (B n : ℕ) (l : List ℕ) (r : Range) {m : List ℕ} {k : ℕ} → n ≡ 0 → Writes (ranges_in 0 l ++ r ∷ []) l m k → Writes (outer_push B (ranges_in n l) r) l m k
unfolding outer_push ranges_in
push_first B n l r {m} {k} e w = subst (λ i. Writes (outer_push B (ranges_in i l) r) l m k) (sym e) w

module _ (B n : ℕ) (l : List ℕ) (r : Range) (end : ℕ) (some : 0 < n) (fits : 2 * n ≤ length l) (last : end + 1 ≡ 2 * n) where
  stored : length (ranges_in n l) ≡ n
  stored = length_in n l

  at_end : {t : Bool} → eqb (get_or l end 0 + 1) r.low ≡ t → eqb (last_high (ranges_in n l) + 1) r.low ≡ t
  at_end e = ap (λ m. eqb (m + 1) r.low) (last_in n l end last fits) ∙ e

  pub push_extends : eqb (get_or l end 0 + 1) r.low ≡ true → Writes (outer_push B (ranges_in n l) r) l (set l end r.high) n
  push_extends t =
      writes (push_touching B (ranges_in n l) r (omega (arith, stored)) (at_end t))
      (sym (length_extend (ranges_in n l) r ∙ stored))
      (ap (λ m. set m end r.high) (sym (written_in n l fits)) ∙ write_extend (ranges_in n l) l r end (omega (arith, stored)))

  pub push_keeps : (h : MinHint) → eqb (get_or l end 0 + 1) r.low ≡ true → Hinted h (gaps (ranges_in n l)) → Hinted h (gaps (outer_push B (ranges_in n l) r))
  push_keeps h t p =
      subst (λ ys. Hinted h (gaps ys)) (sym (push_touching B (ranges_in n l) r (omega (arith, stored)) (at_end t))) (hinted_extend h (ranges_in n l) r p)

  module _ (t : eqb (get_or l end 0 + 1) r.low ≡ false) where
    pub push_hint : (h : MinHint) → B ≤ n → Hinted h (gaps (outer_full (ranges_in n l) r)) → Hinted h (gaps (outer_push B (ranges_in n l) r))
    push_hint h k p =
        subst (λ ys. Hinted h (gaps ys))
        (sym (push_apart B (ranges_in n l) r (omega (arith, stored)) (at_end t) ∙ new_full B (ranges_in n l) r (omega (arith, stored)))) p

    pub push_appends : {m : List ℕ} {k : ℕ} → n < B → Writes (ranges_in n l ++ r ∷ []) l m k → Writes (outer_push B (ranges_in n l) r) l m k
    push_appends {m} {k} h w =
        subst (λ ys. Writes ys l m k)
        (sym (push_apart B (ranges_in n l) r (omega (arith, stored)) (at_end t) ∙ new_append B (ranges_in n l) r (omega (arith, stored)))) w

    pub push_full : (m : List ℕ) → B ≤ n → m ≡ written (outer_full (ranges_in n l) r) l → Writes (outer_push B (ranges_in n l) r) l m n
    push_full m h e =
        writes (push_apart B (ranges_in n l) r (omega (arith, stored)) (at_end t) ∙ new_full B (ranges_in n l) r (omega (arith, stored)))
        (sym (length_full (ranges_in n l) r (omega (arith, stored)) ∙ stored))
        e
