-- `index_entries::find` goes on while an entry has another key, two entries a turn, and counts the owner's. The loop's invariant: the entries before number i
-- have other keys, and `owned` of them are the owner's. The measure is the entries left. Assumes nothing.
use Prim.Native.Nat.{ℕ, suc, ◌+◌, ◌*◌, ◌-◌, ◌≤◌, ◌<◌}
use mathlib.Core.Path.{◌≡◌, refl, sym, ap, subst, ◌∙◌}
use mathlib.Core.Bool.{Bool, true, false, cond, not}
use mathlib.Core.List.{List}
use native.Mathlib.Omega.{arith}
use native.Mathlib.Numerals.{add-one}
use borrow.Author.Count.{below_more}
use lib.ListN.{drop}
use lib.IntN.{ℤ}
use Rattle.algebra.specs.Lists.{tally}
use Rattle.index.specs.declared.Entry.{Entry}
use Rattle.index.specs.declared.Key.{Key}
use Rattle.index.specs.Entries.{is_owned, is_keyed, Width, entry_at, entries_from}
use Rattle.index_entries.specs.Steps.{leading}
use Rattle.index_entries.proofs.SearchLaws.{search_ends, counted_more}
use Rattle.index_entries.proofs.find.Given as goal

-- ---- of a list l and a key k

module _ (l : List ℤ) (k : Key) where
  abbrev pub at : ℕ → Bool
  at j = is_keyed k (entry_at l (1 + Width * j))

  -- the entries before number i have another key
  abbrev pub Others : ℕ → Type 0
  Others i = (j : ℕ) → j < i → not (at j) ≡ true

  pub one_more : (i : ℕ) → Others i → at i ≡ false → Others (i + 1)
  one_more i h e = below_more (λ j. not (at j) ≡ true) i h (ap not e)

  pub two_more : (i : ℕ) → Others (i + 1) → at (i + 1) ≡ false → Others (i + 2)
  two_more i h e j b = one_more (i + 1) h e j (omega arith)

  pub ends : (n i : ℕ) → i ≤ n → Others i → (i < n → at i ≡ true) → i ≡ leading (λ e. not (is_keyed k e)) (entries_from n (drop 1 l))
  ends n i h all stop = search_ends (λ e. not (is_keyed k e)) n l 1 i h all (λ b. ap not (stop b))

  -- all n have
  pub none : (n i : ℕ) → n ≡ i → Others i → n ≡ leading (λ e. not (is_keyed k e)) (entries_from n (drop 1 l))
  none n i e all = ends n n (omega arith) (λ j b. all j (omega arith)) (λ b. absurd (omega arith))

  -- how many of the entries before number i are the owner's
  pub record Owned (i w : ℕ) : Type 0 where
    pub few : w ≤ i
    pub same : w ≡ tally (is_owned k.owner) (entries_from i (drop 1 l))

  counts : (t : Bool) (w m : ℕ) → w ≡ m → cond t (w + 1) w ≡ cond t (suc m) m
  counts true w m e = omega arith
  counts false w m e = e

  pub none_owned : Owned 0 0
  unfolding entries_from tally
  none_owned = record { few = omega arith; same = refl }

  -- the next entry, as it is counted
  abbrev pub CountsIfOwned : ℕ → ℕ → Entry → Type 0
  CountsIfOwned w r e = (r ≡ cond (is_owned k.owner e) (w + 1) w) × (r ≤ w + 1)

  pub one_owned : (i w r : ℕ) (e : Entry) → e ≡ entry_at l (1 + Width * i) → CountsIfOwned w r e → Owned i w → Owned (i + 1) r
  one_owned i w r e is c h =
      let o = is_owned k.owner in
      let m : ℕ = tally o (entries_from i (drop 1 l)) in
      record {
        few = omega (arith, c.1, h.few);
        same = c.0 ∙ counts (o e) w m h.same ∙ ap (λ x. cond (o x) (suc m) m) is ∙ sym (counted_more o i l 1) ∙ ap (λ j. tally o (entries_from j (drop 1 l))) (sym (add-one i));
      }

  pub two_owned : (i w r : ℕ) (e : Entry) → e ≡ entry_at l (1 + Width * (i + 1)) → CountsIfOwned w r e → Owned (i + 1) w → Owned (i + 2) r
  two_owned i w r e is c h = let s : i + 1 + 1 ≡ i + 2 = omega arith in subst (λ j. Owned j r) s (one_owned (i + 1) w r e is c h)

  pub all_owned : (n i w : ℕ) → n ≡ i → Owned i w → w ≡ tally (is_owned k.owner) (entries_from n (drop 1 l))
  all_owned n i w e h = h.same ∙ ap (λ j. tally (is_owned k.owner) (entries_from j (drop 1 l))) (sym e)

abbrev pub invariant-loop-i : goal.invariant-loop-i
invariant-loop-i l = (l.i ≤ l.n) × Others l.index l.key l.i × Owned l.index l.key l.i l.owned

abbrev pub decreases-loop-i : goal.decreases-loop-i
decreases-loop-i l = l.n - l.i
