-- A walk, entry by entry: what the code does with an entry of the owner takes the walk past it, what it passes over is none that the walk visits, and from
-- the first entry to the last that is the whole walk. Assumes nothing.
use Prim.Native.Nat.{ℕ, suc, ◌+◌, ◌-◌, ◌/◌, ◌^◌, ◌≤◌, ◌<◌}
use mathlib.Core.Path.{◌≡◌, refl, sym, ap, subst, ◌∙◌}
use mathlib.Core.Bool.{Bool, true, false, cond}
use mathlib.Core.List.{List, [], ◌∷◌, ◌++◌, map, append_assoc, append-nil}
use native.Mathlib.Omega.{arith}
use native.Mathlib.Numerals.{add-one}
use lib.ListN.{length, get_or, take, drop, length-append, length-map, get_or-map}
use lib.Seq.{take-nil, drop-cons}
use Rattle.std.proofs.lemmas.List.{drop_all}
use lib.IntN.{ℤ}
use Rattle.algebra.specs.Lists.{tally}
use Rattle.answer.specs.Lent.{put}
use Rattle.answer.proofs.PutLaws.{put_none}
use Rattle.index.specs.declared.Entry.{Entry}
use Rattle.index.specs.Exposures.{OwnerCapacity, only}
use Rattle.index.specs.Entries.{is_owned, entry_at, entries_in}
use Rattle.frames.specs.declared.Disposition.{Disposition}
use Rattle.frames.specs.Walk.{natural, number_of, entries_of, ahead, begins, disposition_of, WalkStep, walk_step, walk, is_delivered, delivered_by}
use Rattle.frames_walk.specs.declared.lists.Lists.{Lists}
use Rattle.frames_walk.specs.declared.lists.OwnedEntries.{OwnedEntries}
use Rattle.frames_walk.specs.declared.lists.RegionRows.{RegionRows}
use Rattle.frames_walk.specs.declared.DispositionCounts.{DispositionCounts}
use Rattle.frames_walk.specs.declared.WalkState.{WalkState}
use Rattle.frames_walk.specs.Steps.{disposition_counts, with_disposition, counts_by, outer_in, inner_in, held, left, Walking, VisitsEntry, VisitsIfOwned, Walks}
use Rattle.frames_walk.proofs.StepLaws.{counts_more, numbers_more}

-- ---- an entry of the owner

module _ (g : RegionRows) (e : Entry) (a : WalkState) (now : List ℕ) (b : WalkState) (then : List ℕ) where
  -- what the code does with it
  pub record Turn (i : ℕ) (f : Disposition) : Type 0 where
    pub id : i ≡ natural e.id / a.lists.span
    pub outer : outer_in b.lists ≡ ahead i (outer_in a.lists)
    pub inner : inner_in b.lists ≡ ahead i (inner_in a.lists)
    pub span : b.lists.span ≡ a.lists.span
    pub disposition : f ≡ disposition_of (held g) (begins i (inner_in b.lists)) (begins i (outer_in b.lists)) e.pointing
    pub visited : b.visited ≡ a.visited + 1
    pub dispositions : b.dispositions ≡ with_disposition a.dispositions f
    pub numbers : then ≡ cond (is_delivered f) (put (a.dispositions.unchecked + a.dispositions.held) (number_of e ∷ []) now) now

  pub turned : (i : ℕ) (f : Disposition) → Turn i f → VisitsEntry g e a now b then
  unfolding walk
  turned k f t d all es before h =
      let i = t.id ∙ ap (λ x. natural e.id / x) h.span in
      let os = t.outer ∙ ap (λ x. ahead x (outer_in a.lists)) i in
      let ns = t.inner ∙ ap (λ x. ahead x (inner_in a.lists)) i in
      let f' = t.disposition ∙ (λ j. disposition_of (held g) (begins (i j) (ns j)) (begins (i j) (os j)) e.pointing) in
      let ms : List WalkStep = h.behind in
      record {
        span = t.span ∙ h.span;
        behind = ms ++ walk_step e f ∷ [];
        parts =
            append_assoc ms (walk_step e f ∷ []) (walk d (held g) (outer_in b.lists) (inner_in b.lists) es)
            ∙ (λ j. ms ++ walk_step e (f' j) ∷ walk d (held g) (os j) (ns j) es)
            ∙ h.parts;
        visited = omega (arith, t.visited, h.visited, length-append ms (walk_step e f ∷ []));
        dispositions = t.dispositions ∙ ap (λ x. with_disposition x f) h.dispositions ∙ sym (counts_more ms e f);
        numbers =
            t.numbers
            ∙ (λ j. cond (is_delivered f) (put ((h.dispositions j).unchecked + (h.dispositions j).held) (number_of e ∷ []) (h.numbers j)) (h.numbers j))
            ∙ numbers_more ms e f before;
      }

-- ---- any entry

module _ (o : ℕ) (e : Entry) (m : ℕ) (es : List Entry) where
  abbrev chosen : Bool → List Entry
  chosen t = cond t (e ∷ only (is_owned o) es) (only (is_owned o) es)

  left_other : is_owned o e ≡ false → left o m (e ∷ es) ≡ left o m es
  unfolding only
  left_other t = ap (λ x. take (OwnerCapacity - m) (chosen x)) t

  left_full : OwnerCapacity ≤ m → left o m (e ∷ es) ≡ left o m es
  left_full h =
      let z : OwnerCapacity - m ≡ 0 = omega arith in
      ap (λ k. take k (only (is_owned o) (e ∷ es))) z ∙ sym (ap (λ k. take k (only (is_owned o) es)) z)

  left_own : is_owned o e ≡ true → m < OwnerCapacity → left o m (e ∷ es) ≡ e ∷ left o (m + 1) es
  unfolding only
  left_own t h =
      let s : OwnerCapacity - m ≡ suc (OwnerCapacity - (m + 1)) = omega arith in
      λ j. take (s j) (chosen (t j))

module _ (o : ℕ) (g : RegionRows) (e : Entry) (a : WalkState) (now : List ℕ) where
  pub visits_other : is_owned o e ≡ false → VisitsIfOwned o g e a now a now
  visits_other t d all es before h = subst (λ xs. Walking g d all xs before a now) (left_other o e a.visited es t) h

  pub visits_full : OwnerCapacity ≤ a.visited → VisitsIfOwned o g e a now a now
  visits_full f d all es before h = subst (λ xs. Walking g d all xs before a now) (left_full o e a.visited es f) h

  pub visits_own : (b : WalkState) (then : List ℕ) → is_owned o e ≡ true → a.visited < OwnerCapacity → b.visited ≡ a.visited + 1 → VisitsEntry g e a now b then → VisitsIfOwned o g e a now b then
  visits_own b then t f m visits d all es before h =
      let own : Walking g d all (e ∷ left o b.visited es) before a now =
      subst (λ xs. Walking g d all xs before a now) (left_own o e a.visited es t f ∙ ap (λ k. e ∷ left o k es) (sym m)) h in
      visits d all (left o b.visited es) before own

-- ---- all entries, one after the other

module _ (x : OwnedEntries) (l : Lists) (g : RegionRows) (before : List ℕ) where
  abbrev o : ℕ
  o = x.owner

  abbrev index : List ℤ
  index = x.index.now

  -- those from number i on
  abbrev from : ℕ → List Entry
  from i = drop i (entries_in index)

  abbrev whole : ℕ → List WalkStep
  whole d = walk d (held g) (outer_in l) (inner_in l) (entries_of o index)

  -- past i entries
  abbrev pub Past : ℕ → WalkState → List ℕ → Type 0
  Past i a now = (d : ℕ) → l.span ≡ 4 ^ (12 - d) → Walking g d (whole d) (left o a.visited (from i)) before a now

  pub past_none : (t : DispositionCounts) → t ≡ disposition_counts 0 0 0 → Past 0 (record { visited = 0; lists = l; dispositions = t }) before
  unfolding only tally
  past_none t e d s = record {
    span = s;
    behind = [];
    parts = refl;
    visited = refl;
    dispositions = e;
    numbers = sym (put_none 0 before);
  }

  -- each by its numbers
  module _ (es : List (List ℤ)) (each : map (λ e. entry_at e 0) es ≡ entries_in index) where
    next : (i : ℕ) (d : List ℤ) → i < length es → from i ≡ entry_at (get_or es i d) 0 ∷ from (i + 1)
    next i d h =
        ap (drop i) (sym each)
        ∙ drop-cons (map (λ e. entry_at e 0) es) i (entry_at d 0) (omega (arith, length-map es (λ e. entry_at e 0)))
        ∙ (λ j. get_or-map (λ e. entry_at e 0) es i d j ∷ drop (sym (add-one i) j) (each j))

    pub past_next : (i : ℕ) (n : List ℤ) (e : Entry) (a b : WalkState) (now then : List ℕ) → i < length es → e ≡ entry_at (get_or es i n) 0
        → VisitsIfOwned o g e a now b then → Past i a now → Past (i + 1) b then
    past_next i n e a b now then h is goes past d s =
        goes d (whole d) (from (i + 1)) before
        (subst (λ xs. Walking g d (whole d) (left o a.visited xs) before a now) (next i n h ∙ ap (λ f. f ∷ from (i + 1)) (sym is)) (past d s))

    pub past_all : (i : ℕ) (a : WalkState) (now : List ℕ) → length es ≤ i → Past i a now → Walks x l g before a.dispositions now
    unfolding only walk
    past_all i a now h past d s =
        let p = past d s in
        let z : from i ≡ [] = drop_all i (entries_in index) (omega (arith, length-map es (λ e. entry_at e 0), ap length each)) in
        let none : left o a.visited (from i) ≡ [] = ap (left o a.visited) z ∙ take-nil (OwnerCapacity - a.visited) in
        let all = sym (append-nil p.behind)
        ∙ ap (λ xs. p.behind ++ walk d (held g) (outer_in a.lists) (inner_in a.lists) xs) (sym none)
        ∙ p.parts in
        record { dispositions = p.dispositions ∙ ap counts_by all; numbers = p.numbers ∙ ap (λ ms. put 0 (delivered_by ms) before) all }
