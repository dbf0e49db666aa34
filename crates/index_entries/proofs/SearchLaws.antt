-- A search goes on while a test passes, from the first entry or from the last: where it ends is how many entries at the front pass it, or stand before those
-- at the end that do, by recursion over the entries. There the entry with a key stands, or an entry is inserted. On the way those that pass another test are
-- counted, one after the other. Assumes nothing.
use Prim.Native.Nat.{ℕ, zero, suc, ◌+◌, ◌*◌, ◌≤◌, ◌<◌}
use mathlib.Core.Path.{◌≡◌, sym, ap, ◌∙◌, refl}
use mathlib.Core.Bool.{Bool, true, false, cond, not, ◌||◌}
use mathlib.Core.List.{List, [], ◌∷◌, ◌++◌}
use native.Mathlib.Omega.{arith}
use lib.ListN.{length, take, drop}
use lib.IntN.{ℤ}
use lib.Seq.{drop-drop}
use lib.Dec.{ltb, leb-suc-suc}
use borrow.Author.Tests.{lt-ltb}
use Rattle.algebra.specs.Lists.{every, some, tally}
use Rattle.algebra.proofs.Tests.{and_both, and_no_left, and_no_right}
use Rattle.index.specs.declared.Entry.{Entry}
use Rattle.index.specs.declared.Key.{Key}
use Rattle.index.specs.Entries.{precedes, is_keyed, Width, entry_at, entries_from, inserted, withdrawn}
use Rattle.index_entries.specs.Steps.{leading, staying}
use Rattle.index_entries.proofs.EntryLaws.{entry_drop}

-- ---- where a search ends

module _ (f : Entry → Bool) where
  -- of n entries, whose first number is that of number a, the first i pass, and the next one does not
  pub search_ends : (n : ℕ) (l : List ℤ) (a i : ℕ) → i ≤ n → ((j : ℕ) → j < i → f (entry_at l (a + Width * j)) ≡ true) → (i < n → f (entry_at l (a + Width * i)) ≡ false)
      → i ≡ leading f (entries_from n (drop a l))
  unfolding entries_from leading
  search_ends zero l a zero h all stop = refl
  search_ends zero l a (suc i) h all stop = absurd (omega arith)
  search_ends (suc n) l a zero h all stop =
      let e : a ≡ a + Width * 0 = omega arith in
      sym (ap (λ t. cond t (suc (leading f (entries_from n (drop Width (drop a l))))) 0) (ap f (entry_drop a l ∙ ap (entry_at l) e) ∙ stop (omega arith)))
  search_ends (suc n) l a (suc i) h all stop =
      let e : a ≡ a + Width * 0 = omega arith in
      let next : (j : ℕ) → a + Width * suc j ≡ a + Width + Width * j = λ j. omega arith in
      let here : f (entry_at (drop a l) 0) ≡ true = ap f (entry_drop a l ∙ ap (entry_at l) e) ∙ all 0 (omega arith) in
      let rest = search_ends n l (a + Width) i (omega arith) (λ j k. ap (λ m. f (entry_at l m)) (sym (next j)) ∙ all (suc j) (omega arith)) (λ k. ap (λ m. f (entry_at l m)) (sym (next i)) ∙ stop (omega arith)) in
      ap suc (rest ∙ ap (λ m. leading f (entries_from n m)) (sym (drop-drop Width a l)))
      ∙ sym (ap (λ t. cond t (suc (leading f (entries_from n (drop Width (drop a l))))) 0) here)

  -- of n entries all pass; one of them does not
  all_pass : (n : ℕ) (l : List ℤ) (a : ℕ) → ((j : ℕ) → j < n → f (entry_at l (a + Width * j)) ≡ true) → every f (entries_from n (drop a l)) ≡ true
  unfolding entries_from every
  all_pass zero l a all = refl
  all_pass (suc n) l a all =
      let e : a ≡ a + Width * 0 = omega arith in
      let next : (j : ℕ) → a + Width + Width * j ≡ a + Width * suc j = λ j. omega arith in
      and_both (ap f (entry_drop a l ∙ ap (entry_at l) e) ∙ all 0 (omega arith))
      (ap (λ m. every f (entries_from n m)) (drop-drop Width a l) ∙ all_pass n l (a + Width) (λ j k. ap (λ m. f (entry_at l m)) (next j) ∙ all (suc j) (omega arith)))

  one_fails : (n : ℕ) (l : List ℤ) (a j : ℕ) → j < n → f (entry_at l (a + Width * j)) ≡ false → every f (entries_from n (drop a l)) ≡ false
  unfolding entries_from every
  one_fails zero l a j h e = absurd (omega arith)
  one_fails (suc n) l a zero h e =
      let o : a ≡ a + Width * 0 = omega arith in
      and_no_left (every f (entries_from n (drop Width (drop a l)))) (ap f (entry_drop a l ∙ ap (entry_at l) o) ∙ e)
  one_fails (suc n) l a (suc j) h e =
      let next : a + Width + Width * j ≡ a + Width * suc j = omega arith in
      and_no_right (f (entry_at (drop a l) 0))
      (ap (λ m. every f (entries_from n m)) (drop-drop Width a l) ∙ one_fails n l (a + Width) j (omega arith) (ap (λ m. f (entry_at l m)) next ∙ e))

  -- of n entries those from number i on pass, and the one before them does not
  pub stay_ends : (n : ℕ) (l : List ℤ) (a i : ℕ) → i ≤ n → ((j : ℕ) → i ≤ j → j < n → f (entry_at l (a + Width * j)) ≡ true)
      → ((j : ℕ) → i ≡ suc j → f (entry_at l (a + Width * j)) ≡ false) → i ≡ staying f (entries_from n (drop a l))
  unfolding entries_from staying
  stay_ends zero l a zero h all stop = refl
  stay_ends zero l a (suc i) h all stop = absurd (omega arith)
  stay_ends (suc n) l a zero h all stop =
      let e : every f (entries_from (suc n) (drop a l)) ≡ true = all_pass (suc n) l a (λ j k. all j (omega arith) k) in
      sym (ap (λ t. cond t 0 (suc (staying f (entries_from n (drop Width (drop a l)))))) e)
  stay_ends (suc n) l a (suc i) h all stop =
      let next : (j : ℕ) → a + Width + Width * j ≡ a + Width * suc j = λ j. omega arith in
      let e : every f (entries_from (suc n) (drop a l)) ≡ false = one_fails (suc n) l a i (omega arith) (stop i refl) in
      let rest = stay_ends n l (a + Width) i (omega arith) (λ j p q. ap (λ m. f (entry_at l m)) (next j) ∙ all (suc j) (omega arith) (omega arith))
      (λ j p. ap (λ m. f (entry_at l m)) (next j) ∙ stop (suc j) (omega arith)) in
      ap suc (rest ∙ ap (λ m. staying f (entries_from n m)) (sym (drop-drop Width a l)))
      ∙ sym (ap (λ t. cond t 0 (suc (staying f (entries_from n (drop Width (drop a l)))))) e)

-- ---- what is counted on the way, entry by entry

pub counted_more : (f : Entry → Bool) (i : ℕ) (l : List ℤ) (a : ℕ)
    → tally f (entries_from (suc i) (drop a l)) ≡ cond (f (entry_at l (a + Width * i))) (suc (tally f (entries_from i (drop a l)))) (tally f (entries_from i (drop a l)))
unfolding entries_from tally
counted_more f zero l a = let e : a ≡ a + Width * 0 = omega arith in ap (λ x. cond (f x) 1 0) (entry_drop a l ∙ ap (entry_at l) e)
counted_more f (suc i) l a =
    let e : a + Width + Width * i ≡ a + Width * suc i = omega arith in
    let r = drop-drop Width a l in
    let counting : Bool → ℕ → ℕ = λ t n. cond t (suc n) n in
    ap (counting (f (entry_at (drop a l) 0)))
    (ap (λ m. tally f (entries_from (suc i) m)) r ∙ counted_more f i l (a + Width) ∙ (λ j. counting (f (entry_at l (e j))) (tally f (entries_from i (sym r j)))))
    ∙ exchanged (f (entry_at (drop a l) 0)) (f (entry_at l (a + Width * suc i))) (tally f (entries_from i (drop Width (drop a l))))
  where
    exchanged : (t u : Bool) (n : ℕ) → cond t (suc (cond u (suc n) n)) (cond u (suc n) n) ≡ cond u (suc (cond t (suc n) n)) (cond t (suc n) n)
    exchanged true true n = refl
    exchanged true false n = refl
    exchanged false true n = refl
    exchanged false false n = refl

-- ---- what stands there

pub inserted_at : (e : Entry) (es : List Entry) → take (staying (precedes e) es) es ++ e ∷ drop (staying (precedes e) es) es ≡ inserted e es
unfolding staying inserted
inserted_at e [] = refl
inserted_at e (x ∷ es) = by_test (every (precedes e) (x ∷ es)) (inserted_at e es)
  where
    i : ℕ
    i = staying (precedes e) es

    by_test : (t : Bool) → take i es ++ e ∷ drop i es ≡ inserted e es
        → take (cond t 0 (suc i)) (x ∷ es) ++ e ∷ drop (cond t 0 (suc i)) (x ∷ es) ≡ cond t (e ∷ x ∷ es) (x ∷ inserted e es)
    by_test true r = refl
    by_test false r = ap (λ k. x ∷ k) r

pub withdrawn_at : (n : Key) (es : List Entry) → take (leading (λ x. not (is_keyed n x)) es) es ++ drop (suc (leading (λ x. not (is_keyed n x)) es)) es ≡ withdrawn n es
unfolding leading withdrawn
withdrawn_at n [] = refl
withdrawn_at n (x ∷ es) = by_test (is_keyed n x) (withdrawn_at n es)
  where
    i : ℕ
    i = leading (λ y. not (is_keyed n y)) es

    by_test : (t : Bool) → take i es ++ drop (suc i) es ≡ withdrawn n es
        → take (cond (not t) (suc i) 0) (x ∷ es) ++ drop (suc (cond (not t) (suc i) 0)) (x ∷ es) ≡ cond t es (x ∷ withdrawn n es)
    by_test true r = refl
    by_test false r = ap (λ k. x ∷ k) r

-- a search for what does not pass finds an entry where some passes
pub found : (f : Entry → Bool) (es : List Entry) → ltb (leading (λ x. not (f x)) es) (length es) ≡ some f es
unfolding leading some
found f [] = refl
found f (x ∷ es) = by_test (f x) (found f es)
  where
    i : ℕ
    i = leading (λ y. not (f y)) es

    by_test : (t : Bool) → ltb i (length es) ≡ some f es → ltb (cond (not t) (suc i) 0) (suc (length es)) ≡ (t || some f es)
    by_test true r = lt-ltb 0 (suc (length es)) (omega arith)
    by_test false r = leb-suc-suc (suc i) (length es) ∙ r
