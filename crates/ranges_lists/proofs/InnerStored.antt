-- The inner list in lent memory, with the last range beside it, when a range is pushed: what each branch of the code writes is what `inner_full`, `inner_close`,
-- `inner_push` and `inner_end` say. Assumes nothing.
use Prim.Native.Nat.{ℕ, suc, ◌+◌, ◌*◌, ◌-◌, ◌≤◌, ◌<◌}
use mathlib.Core.Path.{◌≡◌, refl, sym, ap, ap₂, subst, ◌∙◌}
use mathlib.Core.Bool.{true, false}
use mathlib.Core.List.{List, [], ◌∷◌, ◌++◌}
use native.Mathlib.Omega.{arith}
use lib.ListN.{length, set}
use borrow.Author.Tests.{lt-ltb, le-ltb}
use Rattle.ranges_stored.specs.declared.MinHint.{MinHint}
use Rattle.std.specs.Prelude.{Some, None}
use Rattle.ranges_stored.specs.declared.Pending.{Pending}
use Rattle.ranges_stored.specs.declared.StoredRanges.{StoredRanges}
use Rattle.ranges.specs.declared.Range.{Range}
use Rattle.ranges.specs.Ranges.{pairs, range, ranges_in}
use Rattle.ranges.specs.Lists.{touch, without}
use Rattle.ranges.proofs.Pushing.{empty, growing, inner_full, inner_close, inner_push, inner_end}
use Rattle.algebra.specs.Moves.{shifted_down}
use Rattle.ranges_stored.specs.Stored.{differences, written, Writes, Hinted, PointsAt, none_stored, state_of, Stores}
use Rattle.ranges.proofs.InnerPass.{length_without, length_inner_full}
use Rattle.ranges_stored.proofs.StoredLaws.{length_in, written_in, in_written, write_append}
use Rattle.ranges_stored.proofs.ShiftLaws.{shifted_down_removes}
use Rattle.ranges_stored.proofs.HintLaws.{inner_below, inner_points, hinted_drop, points_inside}
use Rattle.ranges_lists.proofs.OuterStored.{writes}

-- ---- the list is full

module _ (n : ℕ) (l : List ℕ) (r : Range) (s : ℕ) (fits : 2 * n ≤ length l) (long : s ≡ r.high - r.low) (h : MinHint) where
  abbrev xs : List Range
  xs = ranges_in n l

  abbrev Full : List ℕ → Type 0
  Full m = (m ≡ written (inner_full xs r) l) × Hinted h (differences 0 (inner_full xs r))

  many : length xs ≡ n
  many = length_in n l

  -- the new range is below all
  pub full_stays : PointsAt h (differences 0 xs) → s < h.floor → Full l
  full_stays p k =
      let e : inner_full xs r ≡ xs = inner_below xs r (λ i c. omega (arith, long, p.hinted.at_least i c)) in
      (sym (ap (λ ys. written ys l) e ∙ written_in n l fits), subst (λ ys. Hinted h (differences 0 ys)) (sym e) p.hinted)

  -- another one is the shortest
  pub full_shifts : PointsAt h (differences 0 xs) → h.floor ≤ s → (m : List ℕ)
      → m ≡ set (set (shifted_down 2 (2 * h.from) l (2 * n - 2 - 2 * h.from)) (2 * n - 2) r.low) (2 * n - 2 + 1) r.high → Full m
  full_shifts p d m e =
      let k = 2 * n - 2 in
      let i = h.from in
      let c : i < n = points_inside 0 0 n l p in
      let j : suc (length (without i xs)) ≡ length xs = length_without i xs (omega (arith, many)) in
      let f : inner_full xs r ≡ without i xs ++ r ∷ [] = inner_points h xs r p (omega (arith, long)) in (
        e
            ∙ ap (λ x. set (set x k r.low) (k + 1) r.high) (shifted_down_removes n i (k - 2 * i) l c fits (omega arith))
            ∙ write_append (without i xs) l r.low r.high k (k + 1) (omega (arith, many)) (omega (arith, many)) (omega (arith, many))
            ∙ ap (λ ys. written ys l) (sym f),
        subst (λ ys. Hinted h (differences 0 ys)) (sym f) (hinted_drop h xs r p (omega (arith, long))),
      )

-- ---- a range is closed

close_append : (B : ℕ) (xs : List Range) (r : Range) → length xs < B → inner_close B xs r ≡ xs ++ r ∷ []
unfolding inner_close
close_append B xs r h = rw (lt-ltb (length xs) B h)

close_at_budget : (B : ℕ) (xs : List Range) (r : Range) → B ≤ length xs → inner_close B xs r ≡ inner_full xs r
unfolding inner_close
close_at_budget B xs r h = rw (le-ltb (length xs) B h)

module _ (B n : ℕ) (l : List ℕ) (r : Range) (fits : 2 * n ≤ length l) where
  stored : length (ranges_in n l) ≡ n
  stored = length_in n l

  pub close_appends : {m : List ℕ} {k : ℕ} → n < B → Writes (ranges_in n l ++ r ∷ []) l m k → Writes (inner_close B (ranges_in n l) r) l m k
  close_appends {m} {k} h w = subst (λ ys. Writes ys l m k) (sym (close_append B (ranges_in n l) r (omega (arith, stored)))) w

  pub close_full : (m : List ℕ) → 1 ≤ n → B ≤ n → m ≡ written (inner_full (ranges_in n l) r) l → Writes (inner_close B (ranges_in n l) r) l m n
  close_full m one h e =
      writes (close_at_budget B (ranges_in n l) r (omega (arith, stored)))
      (sym (length_inner_full (ranges_in n l) r (omega (arith, stored)) ∙ stored))
      e

  pub close_hint : (h : MinHint) → B ≤ n → Hinted h (differences 0 (inner_full (ranges_in n l) r)) → Hinted h (differences 0 (inner_close B (ranges_in n l) r))
  close_hint h k p = subst (λ ys. Hinted h (differences 0 ys)) (sym (close_at_budget B (ranges_in n l) r (omega (arith, stored)))) p

-- ---- a range is pushed

pub state_none : (p : Pending) (l : List ℕ) → p.last ≡ None → state_of p l ≡ empty
unfolding state_of
state_none p l e = rw e

pub state_some : (p : Pending) (l : List ℕ) (r : Range) → p.last ≡ Some r → state_of p l ≡ growing (ranges_in p.stored.n l) r
unfolding state_of
state_some p l r e = rw e

-- the ranges xs are stored, and a range beside them
beside : {xs : List Range} {l l' : List ℕ} (r : Range) (m : StoredRanges) → Writes xs l l' m.n → Stores (growing xs r) l l' (record { stored = m; last = Some r })
beside {xs} {l} {l'} r m w =
    record {
      state = state_some (record { stored = m; last = Some r }) l' r refl ∙ ap (λ ys. growing ys r) (ap₂ ranges_in w.count w.list ∙ in_written xs l);
      stored = w;
    }

module _ (B : ℕ) (p : Pending) (l : List ℕ) (r : Range) where
  pub pending_first : p.last ≡ None → Stores (inner_push B (state_of p l) r) l l (record { stored = none_stored; last = Some r })
  unfolding inner_push pairs
  pending_first e = rw (state_none p l e) (beside r none_stored (record { count = refl; list = refl }))

  module _ (a : Range) (is : p.last ≡ Some a) where
    pub pending_grows : 2 * p.stored.n ≤ length l → touch a r ≡ true
        → Stores (inner_push B (state_of p l) r) l l (record { stored = p.stored; last = Some (record { low = a.low; high = r.high }) })
    unfolding inner_push
    pending_grows k t = rw (state_some p l a is, t) (beside (record { low = a.low; high = r.high }) p.stored (record { count = sym (length_in p.stored.n l); list = sym (written_in p.stored.n l k) }))

    pub pending_closes : (m : StoredRanges) (l' : List ℕ) → touch a r ≡ false → Writes (inner_close B (ranges_in p.stored.n l) a) l l' m.n
        → Stores (inner_push B (state_of p l) r) l l' (record { stored = m; last = Some r })
    unfolding inner_push
    pending_closes m l' t w = rw (state_some p l a is, t) (beside r m w)

module _ (B : ℕ) (p : Pending) (l : List ℕ) where
  pub end_none : p.last ≡ None → Writes (inner_end B (state_of p l)) l l 0
  unfolding inner_end pairs
  end_none e = rw (state_none p l e) (record { count = refl; list = refl })

  pub end_some : (a : Range) → p.last ≡ Some a → (l' : List ℕ) (m : ℕ) → Writes (inner_close B (ranges_in p.stored.n l) a) l l' m → Writes (inner_end B (state_of p l)) l l' m
  unfolding inner_end
  end_some a e l' m w = rw (state_some p l a e) w
