-- The cutting as it goes on: a range that is accepted is pushed onto the outer list, at the front of the lent list, and a full one onto the inner list
-- behind it, and neither touches the other's part. What several trixels find one after the other is what they find together. Assumes nothing.
use Prim.Native.Nat.{ℕ, zero, suc, ◌+◌, ◌-◌, ◌*◌, ◌≤◌}
use native.Mathlib.Omega.{arith}
use mathlib.Core.Path.{◌≡◌, refl, sym, ap, subst, ◌∙◌}
use mathlib.Core.List.{List, [], ◌∷◌, ◌++◌, foldl, append_assoc, append-nil}
use lib.ListN.{length, take, drop, take-append-drop}
use lib.Seq.{take_at, drop_at, length-take-le, drop-append-add}
use Rattle.answer.specs.Lent.{put}
use Rattle.region.specs.Regions.{Region}
use Rattle.ranges_stored.specs.declared.MinHint.{MinHint}
use Rattle.ranges_stored.specs.declared.Pending.{Pending}
use Rattle.ranges_stored.specs.declared.StoredRanges.{StoredRanges}
use Rattle.ranges.specs.declared.Range.{Range}
use Rattle.ranges.specs.Ranges.{pairs, range, ranges_in}
use Rattle.ranges.specs.Lists.{gaps, outer_of, inner_of}
use Rattle.ranges.specs.Contents.{identifiers, swallowed_of}
use Rattle.ranges.proofs.ContentsLaws.{identifiers_append}
use Rattle.ranges.proofs.Pushing.{outer_push, outer_pass, empty, inner_push, inner_end, inner_pass}
use Rattle.ranges_stored.specs.Stored.{differences, differences_in, written, Writes, Hinted, none_stored, nothing_yet, state_of, Stores}
use Rattle.ranges.proofs.OnePass.{one_pass}
use Rattle.ranges_stored.proofs.StoredLaws.{laid, laid_put, length_written}
use Rattle.ranges_lists.proofs.Pushes.{writes_in, writes_none, writes_push, stores_none, stores_push, stores_end}
use Rattle.covering.specs.Cover.{Found, left_out, taken_full, taken_partial, both, four, cut_into, visit_root, cutting, listed, counts_of, both_listed}
use Rattle.covering.proofs.ContentsLaws.{outer_counted, counts_small}
use Rattle.covering_tally.specs.declared.Tally.{Tally}
use Rattle.covering_tally.specs.Tally.{counts_in, nothing, inner_state, TallyHolds, Adds, InnerStored, InnerEnded, CountsContained, one_more}

-- ---- the front part of a list, and what is behind it

in_front : (n : ℕ) (front back : List ℕ) → 2 * n ≤ length front → ranges_in n (front ++ back) ≡ ranges_in n front
unfolding ranges_in
in_front zero front back h = refl
in_front (suc n) [] back h = absurd (omega arith)
in_front (suc n) (x ∷ []) back h = absurd (omega arith)
in_front (suc n) (x ∷ y ∷ front) back h = ap (λ l. range x y ∷ l) (in_front n front back (omega arith))

laid_front : (xs : List Range) (front back : List ℕ) → 2 * length xs ≤ length front → laid xs (front ++ back) ≡ laid xs front ++ back
unfolding laid
laid_front [] front back h = refl
laid_front (a ∷ xs) [] back h = absurd (omega arith)
laid_front (a ∷ xs) (x ∷ []) back h = absurd (omega arith)
laid_front (a ∷ xs) (x ∷ y ∷ front) back h = ap (λ l. a.low ∷ a.high ∷ l) (laid_front xs front back (omega arith))

written_front : (xs : List Range) (front back : List ℕ) → 2 * length xs ≤ length front → written xs (front ++ back) ≡ written xs front ++ back
written_front xs front back h = sym (laid_put xs (front ++ back)) ∙ laid_front xs front back h ∙ ap (λ l. l ++ back) (laid_put xs front)

-- what is known of the gaps at the front, where another list is behind it
pub hinted_before : (h : MinHint) (n b : ℕ) (before after rest : List ℕ) → n ≤ b → 2 * b ≤ length before → after ≡ take (2 * b) before ++ rest
    → Hinted h (gaps (ranges_in n before)) → Hinted h (gaps (ranges_in n after))
hinted_before h n b before after rest few long e p = subst (λ rs. Hinted h (gaps rs)) (sym same) p
  where
    short : 2 * n ≤ length (take (2 * b) before)
    short = omega (arith, length-take-le (2 * b) before long)

    same : ranges_in n after ≡ ranges_in n before
    same =
        ap (ranges_in n) e ∙ in_front n (take (2 * b) before) rest short
        ∙ sym (in_front n (take (2 * b) before) (drop (2 * b) before) short)
        ∙ ap (ranges_in n) (take-append-drop (2 * b) before)

past_laid : (k : ℕ) (xs : List Range) (l : List ℕ) → 2 * length xs ≤ k → 2 * length xs ≤ length l → drop k (laid xs l) ≡ drop k l
unfolding laid
past_laid k [] l h f = refl
past_laid zero (a ∷ xs) l h f = absurd (omega arith)
past_laid (suc zero) (a ∷ xs) l h f = absurd (omega arith)
past_laid (suc (suc k)) (a ∷ xs) [] h f = absurd (omega arith)
past_laid (suc (suc k)) (a ∷ xs) (x ∷ []) h f = absurd (omega arith)
past_laid (suc (suc k)) (a ∷ xs) (x ∷ y ∷ l) h f = past_laid k xs l (omega arith) (omega arith)

past_written : (k : ℕ) (xs : List Range) (l : List ℕ) → 2 * length xs ≤ k → 2 * length xs ≤ length l → drop k (written xs l) ≡ drop k l
past_written k xs l h f = ap (drop k) (sym (laid_put xs l)) ∙ past_laid k xs l h f

-- what is known of the sizes, less one, behind, where another list is written at the front
pub hinted_behind : (h : MinHint) (n b : ℕ) {xs : List Range} {before after : List ℕ} {m : ℕ} → Writes xs before after m → m ≤ b → 2 * b ≤ length before
    → Hinted h (differences_in (2 * b) 0 n before) → Hinted h (differences_in (2 * b) 0 n after)
hinted_behind h n b {xs} {before} w few long p =
    subst (λ l. Hinted h (differences 0 (ranges_in n l))) (sym (ap (drop (2 * b)) w.list ∙ past_written (2 * b) xs before (omega (arith, w.count)) (omega (arith, w.count)))) p

fold_snoc : {S : Type 0} (step : S → Range → S) (s : S) (rs : List Range) (r : Range) → foldl step s (rs ++ r ∷ []) ≡ step (foldl step s rs) r
fold_snoc step s [] r = refl
fold_snoc step s (x ∷ rs) r = fold_snoc step (step s x) rs r

-- ---- what is found, put together

both_assoc : (a b c : Found) → both (both a b) c ≡ both a (both b c)
both_assoc a b c =
    let n : a.seen + b.seen + c.seen ≡ a.seen + (b.seen + c.seen) = omega arith in
    let p : a.partial + b.partial + c.partial ≡ a.partial + (b.partial + c.partial) = omega arith in
    λ i. record {
      accepted = append_assoc a.accepted b.accepted c.accepted i;
      full = append_assoc a.full b.full c.full i;
      seen = n i;
      partial = p i;
    }

both_nothing : (a : Found) → both nothing a ≡ a
both_nothing a =
    let n : 0 + a.seen ≡ a.seen = omega arith in
    let p : 0 + a.partial ≡ a.partial = omega arith in
    λ i. record { accepted = a.accepted; full = a.full; seen = n i; partial = p i }

nothing_more : (a : Found) → both a nothing ≡ a
nothing_more a =
    let n : a.seen + 0 ≡ a.seen = omega arith in
    let p : a.partial + 0 ≡ a.partial = omega arith in
    λ i. record { accepted = append-nil a.accepted i; full = append-nil a.full i; seen = n i; partial = p i }

-- one after the other, and four together
four_together : (a v0 v1 v2 v3 : Found) → both (both (both (both a v0) v1) v2) v3 ≡ both a (four v0 v1 v2 v3)
four_together a v0 v1 v2 v3 = both_assoc (both (both a v0) v1) v2 v3 ∙ both_assoc (both a v0) v1 (both v2 v3) ∙ both_assoc a v0 (both v1 (both v2 v3))

-- the first k roots
unfoldable pub found_to : ℕ → Region → ℕ → Found
found_to n g zero = nothing
found_to n g (suc k) = both (found_to n g k) (visit_root n g k)

found_all : (d : ℕ) (g : Region) → found_to (d - 1) g 8 ≡ cutting d g
unfolding found_to cutting
found_all d g =
    let r = visit_root (d - 1) g in
    ap (λ f. both (both (both (both f (r 4)) (r 5)) (r 6)) (r 7)) (four_together nothing (r 0) (r 1) (r 2) (r 3) ∙ both_nothing (four (r 0) (r 1) (r 2) (r 3)))
    ∙ four_together (four (r 0) (r 1) (r 2) (r 3)) (r 4) (r 5) (r 6) (r 7)

-- ---- one trixel

module _ (b : ℕ) (start : List ℕ) (a : Found) (s : Tally) (out : List ℕ) (w : TallyHolds b start a s out) where
  pub left_out_law : TallyHolds b start (both a left_out) (one_more s) out
  left_out_law = record {
    front = w.front;
    back = w.back;
    list = w.list;
    width = w.width;
    outer = subst (λ rs. Writes (outer_pass b rs) (take (2 * b) start) w.front s.outer.n) (sym (append-nil a.accepted)) w.outer;
    inner = subst (λ rs. Stores (inner_state b rs) (drop (2 * b) start) w.back s.inner) (sym (append-nil a.full)) w.inner;
    seen = ap (λ n. n + 1) w.seen;
    full = w.full ∙ ap identifiers (sym (append-nil a.full));
    partial = omega (arith, w.partial);
  }

  -- a range more in the outer list
  module _ (r : Range) (out' : List ℕ) (m : StoredRanges) (few : s.outer.n ≤ b) (v : Writes (outer_push b (ranges_in s.outer.n out) r) out out' m.n) (most : m.n ≤ b) where
    front' : List ℕ
    front' = written (outer_push b (ranges_in s.outer.n w.front) r) w.front

    same : ranges_in s.outer.n out ≡ ranges_in s.outer.n w.front
    same = ap (ranges_in s.outer.n) w.list ∙ in_front s.outer.n w.front w.back (omega (arith, w.width))

    short : 2 * length (outer_push b (ranges_in s.outer.n w.front) r) ≤ length w.front
    short = subst (λ rs. 2 * length (outer_push b rs r) ≤ length w.front) same (omega (arith, w.width, v.count))

    pushed_list : out' ≡ front' ++ w.back
    unfolding front'
    pushed_list =
        v.list ∙ (λ i. written (outer_push b (same i) r) (w.list i)) ∙ written_front (outer_push b (ranges_in s.outer.n w.front) r) w.front w.back short

    pushed_width : length front' ≡ 2 * b
    unfolding front'
    pushed_width = length_written (outer_push b (ranges_in s.outer.n w.front) r) w.front short ∙ w.width

    pushed_outer : Writes (outer_pass b (a.accepted ++ r ∷ [])) (take (2 * b) start) front' m.n
    unfolding front' outer_pass
    pushed_outer = subst (λ rs. Writes rs (take (2 * b) start) front' m.n) (sym (fold_snoc (outer_push b) [] a.accepted r))
        (writes_push b (outer_pass b a.accepted) r (take (2 * b) start) w.front front' s.outer.n m.n w.outer
        (record { count = v.count ∙ ap (λ rs. length (outer_push b rs r)) same; list = refl }))

    pub taken_partial_law : TallyHolds b start (both a (taken_partial r)) (record { outer = m; inner = s.inner; seen = s.seen + 1; budget = s.budget; full = s.full; partial = s.partial + 1 }) out'
    taken_partial_law = record {
      front = front';
      back = w.back;
      list = pushed_list;
      width = pushed_width;
      outer = pushed_outer;
      inner = subst (λ rs. Stores (inner_state b rs) (drop (2 * b) start) w.back s.inner) (sym (append-nil a.full)) w.inner;
      seen = ap (λ n. n + 1) w.seen;
      full = w.full ∙ ap identifiers (sym (append-nil a.full));
      partial = omega (arith, w.partial);
    }

    -- and in the inner list behind it
    pub taken_full_law : (out'' : List ℕ) (p : Pending) → InnerStored b out' out'' (inner_push b (state_of s.inner (drop (2 * b) out')) r) p
        → TallyHolds b start (both a (taken_full r)) (record { outer = m; inner = p; seen = s.seen + 1; budget = s.budget; full = s.full + (r.high - r.low + 1); partial = s.partial }) out''
    unfolding identifiers
    taken_full_law out'' p k =
        let before : take (2 * b) out' ≡ front' = ap (take (2 * b)) pushed_list ∙ take_at front' w.back (2 * b) pushed_width in
        let after : drop (2 * b) out' ≡ w.back = ap (drop (2 * b)) pushed_list ∙ drop_at front' w.back (2 * b) pushed_width in
        record {
          front = front';
          back = k.rest;
          list = k.list ∙ ap (λ l. l ++ k.rest) before;
          width = pushed_width;
          outer = pushed_outer;
          inner = subst (λ st. Stores st (drop (2 * b) start) k.rest p) (sym (fold_snoc (inner_push b) empty a.full r))
              (stores_push b (inner_state b a.full) (drop (2 * b) start) w.back k.rest s.inner w.inner r p
              (subst (λ l. Stores (inner_push b (state_of s.inner l) r) l k.rest p) after k.stores));
          seen = ap (λ n. n + 1) w.seen;
          full = omega (arith, w.full, identifiers_append a.full (r ∷ []));
          partial = omega (arith, w.partial);
        }

-- ---- a trixel that is cut

-- what its four children find, one after the other
pub four_adds : (v0 v1 v2 v3 : Found) {s s' : Tally} {out out' : List ℕ}
    → Adds (both (both (both (both nothing v0) v1) v2) v3) s out s' out' → Adds (four v0 v1 v2 v3) s out s' out'
four_adds v0 v1 v2 v3 {s} {s'} {out} {out'} h =
    subst (λ f. Adds f s out s' out') (four_together nothing v0 v1 v2 v3 ∙ both_nothing (four v0 v1 v2 v3)) h

-- one after the other
pub none_adds : {s : Tally} {out : List ℕ} → Adds nothing s out s out
none_adds {s} {out} start a w = subst (λ f. TallyHolds s.budget start f s out) (sym (nothing_more a)) w

pub more_adds : (v w : Found) {s s₁ s₂ : Tally} {out out₁ out₂ : List ℕ} → Adds v s out s₁ out₁ → Adds w s₁ out₁ s₂ out₂ → Adds (both v w) s out s₂ out₂
more_adds v w {s₂ = s₂} {out₂ = out₂} h k start a z = subst (λ f. TallyHolds s₂.budget start f s₂ out₂) (both_assoc a v w) (k start _ (h start _ z))

cut_both : (f : Found) → both left_out f ≡ cut_into f
cut_both f = let p : 0 + f.partial ≡ f.partial = omega arith in λ i. record { accepted = f.accepted; full = f.full; seen = 1 + f.seen; partial = p i }

-- the trixel itself, then what is found in it
pub cut_adds : (f : Found) {s r s' : Tally} {out out' : List ℕ} → r ≡ one_more s → Adds f r out s' out' → Adds (cut_into f) s out s' out'
cut_adds f {s} {r} {s'} {out} {out'} e h start a w =
    subst (λ v. TallyHolds s'.budget start v s' out') (both_assoc a left_out f ∙ ap (both a) (cut_both f))
    (h start _ (subst (λ q. TallyHolds q.budget start (both a left_out) q out) (sym e) (left_out_law s.budget start a s out w)))

-- ---- the beginning and the end

-- the stored outer ranges are those of the rule
pub outer_stored : {b : ℕ} {start : List ℕ} {a : Found} {s : Tally} {out : List ℕ} → TallyHolds b start a s out → 1 ≤ b → s.outer.n ≤ b
    → ranges_in s.outer.n out ≡ outer_of b a.accepted
outer_stored {b} {start} {a} {s} w one few =
    ap (ranges_in s.outer.n) w.list ∙ in_front s.outer.n w.front w.back (omega (arith, w.width))
    ∙ writes_in (outer_pass b a.accepted) (take (2 * b) start) w.front s.outer.n w.outer
    ∙ (one_pass b a.accepted one).0

module _ (b : ℕ) (start : List ℕ) (long : 4 * b ≤ length start) where
  wide : length (take (2 * b) start) ≡ 2 * b
  wide = length-take-le (2 * b) start (omega arith)

  pub walk_start : TallyHolds b start nothing (record { outer = none_stored; inner = nothing_yet; seen = 0; budget = b; full = 0; partial = 0 }) start
  unfolding outer_pass identifiers
  walk_start = record {
    front = take (2 * b) start;
    back = drop (2 * b) start;
    list = sym (take-append-drop (2 * b) start);
    width = wide;
    outer = writes_none (take (2 * b) start);
    inner = stores_none (drop (2 * b) start);
    seen = refl;
    full = refl;
    partial = refl;
  }

  -- two lists in the lent list: each stands in its own part
  two_parts : (o n : List Range) → length o ≤ b → put (2 * b) (pairs n) (put 0 (pairs o) start) ≡ written o (take (2 * b) start) ++ written n (drop (2 * b) start)
  two_parts o n few =
      let F = written o (take (2 * b) start) in
      let R = drop (2 * b) start in
      let short : 2 * length o ≤ length (take (2 * b) start) = omega (arith, wide) in
      let lF : length F ≡ 2 * b = length_written o (take (2 * b) start) short ∙ wide in
      let m = length (pairs n) in
      let whole : put 0 (pairs o) start ≡ F ++ R =
      ap (written o) (sym (take-append-drop (2 * b) start)) ∙ written_front o (take (2 * b) start) R short in
      let past : 2 * b + m ≡ length F + m = ap (λ k. k + m) (sym lF) in
      let none : m ≡ 0 + m = omega arith in
      ap (put (2 * b) (pairs n)) whole
      ∙ (λ i. take_at F R (2 * b) lF i ++ (pairs n ++ (ap (λ k. drop k (F ++ R)) past ∙ drop-append-add F R m ∙ ap (λ k. drop k R) none) i))

  -- the outer list contains m identifiers
  pub walk_end : (a : Found) (s : Tally) (out out' : List ℕ) (n m : ℕ) → TallyHolds b start a s out → 1 ≤ b → s.outer.n ≤ b
      → InnerEnded b out out' (inner_end b (state_of s.inner (drop (2 * b) out))) n
      → m ≡ identifiers (ranges_in s.outer.n out) → identifiers (outer_of b a.accepted) ≡ identifiers a.full + a.partial + swallowed_of b a.accepted
      → (counts_in s n m ≡ counts_of (listed b a)) × (out' ≡ both_listed b (listed b a) start)
  unfolding inner_pass
  walk_end a s out out' n m w one few e c all =
      let after : drop (2 * b) out ≡ w.back = ap (drop (2 * b)) w.list ∙ drop_at w.front w.back (2 * b) w.width in
      let before : take (2 * b) out ≡ w.front = ap (take (2 * b)) w.list ∙ take_at w.front w.back (2 * b) w.width in
      let o : outer_pass b a.accepted ≡ outer_of b a.accepted = (one_pass b a.accepted one).0 in
      let i : inner_pass b a.full ≡ inner_of b a.full = (one_pass b a.full one).1 in
      let k : Writes (inner_pass b a.full) (drop (2 * b) start) e.rest n =
      stores_end b (inner_state b a.full) (drop (2 * b) start) w.back e.rest s.inner w.inner n
      (subst (λ l. Writes (inner_end b (state_of s.inner l)) l e.rest n) after e.writes) in
      let x : m - s.full - s.partial ≡ swallowed_of b a.accepted =
      omega (arith, c, ap identifiers (outer_stored w one few), all, w.full, w.partial) in
      let lo : s.outer.n ≡ length (outer_of b a.accepted) = w.outer.count ∙ ap length o in
      let li : n ≡ length (inner_of b a.full) = k.count ∙ ap length i in (
        λ j. record { outer = lo j; inner = li j; seen = w.seen j; full = w.full j; partial = w.partial j; swallowed = x j },
        e.list
            ∙ (λ j. before j ++ e.rest)
            ∙ (λ j. (w.outer.list ∙ ap (λ rs. written rs (take (2 * b) start)) o) j ++ (k.list ∙ ap (λ rs. written rs (drop (2 * b) start)) i) j)
            ∙ sym (two_parts (outer_of b a.accepted) (inner_of b a.full) (omega (arith, lo))),
      )

pub roots_done : {b : ℕ} {start : List ℕ} {s : Tally} {out : List ℕ} (d k : ℕ) (g : Region) → k ≡ 8 → TallyHolds b start (found_to (d - 1) g k) s out → TallyHolds b start (cutting d g) s out
roots_done {b} {start} {s} {out} d k g e w = subst (λ f. TallyHolds b start f s out) (ap (found_to (d - 1) g) e ∙ found_all d g) w

-- after the whole cutting
pub cutting_contained : {b : ℕ} {start : List ℕ} {s : Tally} {out : List ℕ} (d : ℕ) (g : Region) → TallyHolds b start (cutting d g) s out → 1 ≤ b → s.outer.n ≤ b → d ≤ 12
    → CountsContained s out
cutting_contained {b} d g w one few h =
    let e = ap identifiers (outer_stored w one few) in
    let c = outer_counted g d b one in
    record { few = omega (arith, e, c, counts_small g d b one h); counted = omega (arith, e, c, w.full, w.partial) }
