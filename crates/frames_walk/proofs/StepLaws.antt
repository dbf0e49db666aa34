-- Another step of a walk: it delivers one number or none, and adds one to one count or to none; and as many numbers are delivered, and tests made, as are
-- counted. By recursion over the steps before, disposition by disposition. Assumes nothing.
use Prim.Native.Nat.{ℕ, suc, ◌+◌, ◌≤◌}
use mathlib.Core.Path.{◌≡◌, refl, sym, ap, ◌∙◌}
use mathlib.Core.Bool.{Bool, true, false, cond}
use mathlib.Core.List.{List, [], ◌∷◌, ◌++◌, map, append-nil}
use native.Mathlib.Omega.{arith}
use lib.ListN.{length}
use Rattle.algebra.specs.Lists.{tally}
use Rattle.algebra.proofs.Tests.{split}
use Rattle.answer.specs.Lent.{put}
use Rattle.answer.proofs.PutLaws.{put_put}
use Rattle.index.specs.declared.Entry.{Entry}
use Rattle.index.specs.Exposures.{only}
use Rattle.frames.specs.declared.Disposition.{Disposition}
use Rattle.frames.specs.declared.Disposition.TheVariants.{Skipped, Unchecked, Held, Discarded}
use Rattle.frames.specs.Walk.{WalkStep, walk_step, is_unchecked, is_held, is_discarded, is_delivered, is_tested, number_of, delivered_by, tests_of}
use Rattle.frames_walk.specs.Steps.{disposition_counts, with_disposition, counts_by}

-- ---- the counts

tally_last : {A : Type 0} (f : A → Bool) (xs : List A) (x : A) → tally f (xs ++ x ∷ []) ≡ cond (f x) (tally f xs + 1) (tally f xs)
unfolding tally
tally_last f [] x = refl
tally_last f (y ∷ xs) x = by_test (f y) (f x) (tally_last f xs x)
  where
    by_test : (t u : Bool) → tally f (xs ++ x ∷ []) ≡ cond u (tally f xs + 1) (tally f xs)
        → cond t (suc (tally f (xs ++ x ∷ []))) (tally f (xs ++ x ∷ [])) ≡ cond u (cond t (suc (tally f xs)) (tally f xs) + 1) (cond t (suc (tally f xs)) (tally f xs))
    by_test true true h = omega arith
    by_test true false h = omega arith
    by_test false u h = h

pub counts_more : (ms : List WalkStep) (e : Entry) (f : Disposition) → counts_by (ms ++ walk_step e f ∷ []) ≡ with_disposition (counts_by ms) f
counts_more ms e f = (λ i. disposition_counts (tally_last (λ m. is_unchecked m.disposition) ms (walk_step e f) i) (tally_last (λ m. is_held m.disposition) ms (walk_step e f) i) (tally_last (λ m. is_discarded m.disposition) ms (walk_step e f) i))
    ∙ by_disposition f
  where
    by_disposition : (g : Disposition) → disposition_counts
        (cond (is_unchecked g) ((counts_by ms).unchecked + 1) (counts_by ms).unchecked)
        (cond (is_held g) ((counts_by ms).held + 1) (counts_by ms).held)
        (cond (is_discarded g) ((counts_by ms).discarded + 1) (counts_by ms).discarded) ≡ with_disposition (counts_by ms) g
    by_disposition Skipped = refl
    by_disposition Unchecked = refl
    by_disposition Held = refl
    by_disposition Discarded = refl

-- ---- those of all steps

module _ (ms : List WalkStep) where
  abbrev u : ℕ
  u = (counts_by ms).unchecked

  abbrev h : ℕ
  h = (counts_by ms).held

  abbrev x : ℕ
  x = (counts_by ms).discarded

-- no more than there are steps
pub few_counted : (ms : List WalkStep) → u ms + h ms + x ms ≤ length ms
unfolding tally
few_counted [] = omega arith
few_counted (m ∷ ms) = by_disposition m.disposition (few_counted ms)
  where
    by_disposition : (g : Disposition) → u ms + h ms + x ms ≤ length ms
        → cond (is_unchecked g) (suc (u ms)) (u ms) + cond (is_held g) (suc (h ms)) (h ms) + cond (is_discarded g) (suc (x ms)) (x ms) ≤ suc (length ms)
    by_disposition Skipped e = omega arith
    by_disposition Unchecked e = omega arith
    by_disposition Held e = omega arith
    by_disposition Discarded e = omega arith

pub tests_counted : (ms : List WalkStep) → tests_of ms ≡ h ms + x ms
unfolding tally
tests_counted [] = refl
tests_counted (m ∷ ms) = by_disposition m.disposition (tests_counted ms)
  where
    by_disposition : (g : Disposition) → tests_of ms ≡ h ms + x ms
        → cond (is_tested g) (suc (tests_of ms)) (tests_of ms) ≡ cond (is_held g) (suc (h ms)) (h ms) + cond (is_discarded g) (suc (x ms)) (x ms)
    by_disposition Skipped e = e
    by_disposition Unchecked e = e
    by_disposition Held e = omega arith
    by_disposition Discarded e = omega arith

-- ---- the numbers

abbrev own : Entry → Bool → List ℕ
own e t = cond t (number_of e ∷ []) []

delivered_more : (ms : List WalkStep) (e : Entry) (f : Disposition) → delivered_by (ms ++ walk_step e f ∷ []) ≡ delivered_by ms ++ own e (is_delivered f)
unfolding only
delivered_more [] e f = split (is_delivered f) (λ t. rw t) (λ t. rw t)
delivered_more (m ∷ ms) e f =
    split (is_delivered m.disposition)
    (λ t. rw t (ap (λ ns. number_of m.entry ∷ ns) (delivered_more ms e f)))
    (λ t. rw t (delivered_more ms e f))

pub length_delivered : (ms : List WalkStep) → length (delivered_by ms) ≡ (counts_by ms).unchecked + (counts_by ms).held
unfolding only tally
length_delivered [] = refl
length_delivered (m ∷ ms) = by_disposition m.disposition (length_delivered ms)
  where
    by_disposition : (g : Disposition) → length (delivered_by ms) ≡ (counts_by ms).unchecked + (counts_by ms).held
        → length (map (λ x. number_of x.entry) (cond (is_delivered g) (m ∷ only (λ x. is_delivered x.disposition) ms) (only (λ x. is_delivered x.disposition) ms)))
        ≡ cond (is_unchecked g) (suc (counts_by ms).unchecked) (counts_by ms).unchecked + cond (is_held g) (suc (counts_by ms).held) (counts_by ms).held
    by_disposition Skipped h = h
    by_disposition Unchecked h = omega arith
    by_disposition Held h = omega arith
    by_disposition Discarded h = h

-- a number stored behind those delivered, where the entry is delivered
pub numbers_more : (ms : List WalkStep) (e : Entry) (f : Disposition) (before : List ℕ) → cond (is_delivered f)
    (put ((counts_by ms).unchecked + (counts_by ms).held) (number_of e ∷ []) (put 0 (delivered_by ms) before)) (put 0 (delivered_by ms) before)
    ≡ put 0 (delivered_by (ms ++ walk_step e f ∷ [])) before
numbers_more ms e f before =
    let more : (t : Bool) → is_delivered f ≡ t → delivered_by (ms ++ walk_step e f ∷ []) ≡ delivered_by ms ++ own e t =
    λ t q. delivered_more ms e f ∙ ap (λ u. delivered_by ms ++ own e u) q in
    split (is_delivered f)
    (λ t. rw t
    (put_put 0 ((counts_by ms).unchecked + (counts_by ms).held) (delivered_by ms) (number_of e ∷ []) before (omega (arith, length_delivered ms)) (omega arith)
    ∙ ap (λ ns. put 0 ns before) (sym (more true t))))
    (λ t. rw t (ap (λ ns. put 0 ns before) (sym (more false t ∙ append-nil (delivered_by ms)))))
