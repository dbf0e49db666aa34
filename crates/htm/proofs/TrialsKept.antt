-- A trial counts the same frames under both settings: what is delivered, unchecked or after a test, is what the region holds, whatever depth and budget are
-- (FramesKept). The part handed back is the outer list of the chosen setting, which stands at the front of its buffer (`outer_front`). Assumes nothing.
use Prim.Native.Nat.{ℕ, suc, ◌+◌, ◌*◌, ◌≤◌, ◌<◌}
use Rattle.std.specs.Prelude.{Ok}
use Rattle.answer.specs.declared.Refusal.{Refusal}
use native.Mathlib.Omega.{arith}
use mathlib.Core.Path.{◌≡◌, refl, sym, ap, subst, ◌∙◌}
use mathlib.Core.Bool.{Bool, true, false, cond}
use mathlib.Core.List.{List, [], ◌∷◌}
use lib.Dec.{leb}
use lib.ListN.{length, take}
use lib.IntN.{ℤ}
use borrow.Author.Tests.{leb-true, leb-false, le-leb}
use Rattle.algebra.specs.Lists.{tally}
use Rattle.algebra.proofs.Tests.{and_left, split}
use Rattle.answer.specs.Answer.{Answer, gives, check, then, Depth, Budget, Space, Owner}
use Rattle.answer.specs.Lent.{stored}
use Rattle.answer.proofs.AnswerLaws.{check_passed, check_gives, same_value, then_gives, value_gives}
use Rattle.vector.specs.Numbers.{is_depth}
use Rattle.vector.proofs.DepthLaws.{depth_range}
use Rattle.region.specs.Regions.{Region}
use Rattle.region.specs.Budgets.{is_budget, budget_of}
use Rattle.region.specs.Reader.{File, read, Accepted}
use Rattle.ranges.specs.Ranges.{pairs}
use Rattle.covering.proofs.ListedLaws.{outer_front}
use Rattle.index.specs.Exposures.{is_owner}
use Rattle.index.specs.Entries.{IndexLength}
use Rattle.index.specs.Answers.{in_list}
use Rattle.index.specs.HistoryCorrect.{IsIndex}
use Rattle.frames.specs.declared.Disposition.{Disposition}
use Rattle.frames.specs.declared.Disposition.TheVariants.{Skipped, Unchecked, Held, Discarded}
use Rattle.frames.specs.Walk.{WalkStep, is_unchecked, is_held, is_delivered}
use Rattle.trial.specs.declared.Setting.{Setting}
use Rattle.trial.specs.declared.Choice.TheVariants.{First, Second}
use Rattle.trial.specs.declared.Trial.{Trial}
use Rattle.trial.specs.Trials.{cover_by, walk_by, sky_of, choice_of, trial_of, is_setting}
use Rattle.trial.specs.Answers.{trial_into, trial_answer, lists_by, first_after, second_after, fitting, of_choice, part_of, check_setting, room_for}
use Rattle.htm.specs.Trials.{held_by, SameHeld, chosen_of, Smaller, TrialCorrect, TrialsOfCalls}
use Rattle.htm.proofs.PromiseKept.{outer_proper}
use Rattle.htm.proofs.FramesKept.{delivered_tally}

-- ---- what is delivered

-- unchecked and held are the ways to be delivered
both_ways : (ms : List WalkStep) → tally (λ m. is_unchecked m.disposition) ms + tally (λ m. is_held m.disposition) ms ≡ tally (λ m. is_delivered m.disposition) ms
unfolding tally
both_ways [] = refl
both_ways (m ∷ ms) = by_disposition m.disposition (both_ways ms)
  where
    u : ℕ
    u = tally (λ k. is_unchecked k.disposition) ms

    h : ℕ
    h = tally (λ k. is_held k.disposition) ms

    d : ℕ
    d = tally (λ k. is_delivered k.disposition) ms

    by_disposition : (f : Disposition) → u + h ≡ d → cond (is_unchecked f) (suc u) u + cond (is_held f) (suc h) h ≡ cond (is_delivered f) (suc d) d
    by_disposition Skipped e = e
    by_disposition Unchecked e = omega arith
    by_disposition Held e = omega arith
    by_disposition Discarded e = e

module _ (o : ℕ) (l : List ℤ) (g : Region) (i : IsIndex l) where
  under : (s : Setting) → is_depth s.depth ≡ true
      → tally (λ m. is_unchecked m.disposition) (walk_by o l g s) + tally (λ m. is_held m.disposition) (walk_by o l g s) ≡ held_by o l g
  unfolding walk_by
  under s h = let d = depth_range s.depth h in both_ways (walk_by o l g s) ∙ delivered_tally s.depth s.budget g d.0 d.1 l i o

  same_held : (s t : Setting) → is_depth s.depth ≡ true → is_depth t.depth ≡ true → SameHeld (held_by o l g) (trial_of o l g s t)
  unfolding trial_of
  same_held s t h k = record { first = under s h; second = under t k }

pub trials_kept : (o : ℕ) (l : List ℤ) (f : List ℕ) (x : File) (s t : Setting) → IsIndex l → Accepted f x → is_setting s ≡ true → is_setting t ≡ true
    → SameHeld (held_by o l x.region) (trial_of o l x.region s t)
trials_kept o l f x s t i r h k =
    same_held o l x.region i s t (and_left (is_depth s.depth) (is_budget s.budget) h) (and_left (is_depth t.depth) (is_budget t.budget) k)

-- ---- the choice

smaller : (s t : Setting) (g : Region) → Smaller (choice_of (sky_of s g) (sky_of t g)) s t g
smaller s t g = split (leb (sky_of s g) (sky_of t g)) first second
  where
    first : leb (sky_of s g) (sky_of t g) ≡ true → Smaller (choice_of (sky_of s g) (sky_of t g)) s t g
    first e = subst (λ b. Smaller (cond b First Second) s t g) (sym e) (record { no_first = omega arith; no_second = leb-true (sky_of s g) (sky_of t g) e; equal = λ q. refl })

    second : leb (sky_of s g) (sky_of t g) ≡ false → Smaller (choice_of (sky_of s g) (sky_of t g)) s t g
    second e =
        let h : sky_of t g < sky_of s g = omega (arith, leb-false (sky_of s g) (sky_of t g) e) in
        subst (λ b. Smaller (cond b First Second) s t g) (sym e) (record { no_first = omega arith; no_second = omega arith; equal = λ q. absurd (omega arith) })

-- ---- of the answers and of the calls

-- what an answer that gives says of its file, settings and buffers
record Into (f : List ℕ) (s t : Setting) (first second : List ℕ) (x : File) : Type 0 where
  accepted : Accepted f x
  depths : (is_depth s.depth ≡ true) × (is_depth t.depth ≡ true)
  one : 4 * budget_of s.budget ≤ length first
  two : 4 * budget_of t.budget ≤ length second

into : (o : ℕ) (l : List ℤ) (f : List ℕ) (s t : Setting) (first second : List ℕ) (x : File) → trial_into o l f s t first second ≡ gives x → Into f s t first second x
into o l f s t first second x e =
    let a5 : File → Answer File = λ y. in_list l (gives y) in
    let a4 : File → Answer File = λ y. room_for t second (a5 y) in
    let a3 : File → Answer File = λ y. room_for s first (a4 y) in
    let a2 : File → Answer File = λ y. check_setting t (a3 y) in
    let a1 : File → Answer File = λ y. check_setting s (a2 y) in
    let v = then_gives (read f) a1 x (check_gives Owner (is_owner o) (then (read f) a1) x e) in
    let y = v.0 in
    let sd = is_depth s.depth in
    let td = is_depth t.depth in
    let sb = is_budget s.budget in
    let tb = is_budget t.budget in
    let sr = leb (4 * budget_of s.budget) (length first) in
    let tr = leb (4 * budget_of t.budget) (length second) in
    let e1 = check_gives Budget sb (a2 y) x (check_gives Depth sd (check Budget sb (a2 y)) x v.2) in
    let e2 = check_gives Budget tb (a3 y) x (check_gives Depth td (check Budget tb (a3 y)) x e1) in
    let e3 = check_gives Space sr (a4 y) x e2 in
    let e4 = check_gives Space tr (a5 y) x e3 in
    let same : y ≡ x = same_value y x (check_gives Space (leb IndexLength (length l)) (gives y) x e4) in
    record {
      accepted = v.1 ∙ ap gives same;
      depths = (check_passed Depth sd (check Budget sb (a2 y)) x v.2, check_passed Depth td (check Budget tb (a3 y)) x e1);
      one = leb-true (4 * budget_of s.budget) (length first) (check_passed Space sr (a4 y) x e2);
      two = leb-true (4 * budget_of t.budget) (length second) (check_passed Space tr (a5 y) x e3);
    }

-- the front of a buffer as a cover under the setting s leaves it
front : (s : Setting) (x : File) (before : List ℕ) → 4 * budget_of s.budget ≤ length before
    → fitting (2 * length (cover_by s x.region).outer) (lists_by s x before) ≡ pairs (cover_by s x.region).outer
front s x before h =
    let b = budget_of s.budget in
    let c = cover_by s x.region in
    let k = outer_front b c before h (outer_proper s.depth s.budget x.region).few in
    ap (λ t. cond t (take (2 * length c.outer) (lists_by s x before)) []) (le-leb (2 * length c.outer) (length (lists_by s x before)) k.0) ∙ k.1

-- the part by the choice: b says whether the first is chosen
chosen_part : (s t : Setting) (x : File) (first second : List ℕ) → 4 * budget_of s.budget ≤ length first → 4 * budget_of t.budget ≤ length second → (b : Bool)
    → of_choice (cond b First Second) (fitting (2 * length (cover_by s x.region).outer) (lists_by s x first))
    (fitting (2 * length (cover_by t x.region).outer) (lists_by t x second))
    ≡ pairs (cover_by (chosen_of (cond b First Second) s t) x.region).outer
chosen_part s t x first second h k true = front s x first h
chosen_part s t x first second h k false = front t x second k

pub trials_answers : (o : ℕ) (l : List ℤ) (f : List ℕ) (s t : Setting) (first second : List ℕ) (r : Trial) → trial_answer o l f s t first second ≡ gives r
    → TrialCorrect o l f s t r (part_of {E = Refusal} (Ok r) (first_after o l f s t first second) (second_after o l f s t first second))
unfolding trial_answer first_after second_after trial_of
trials_answers o l f s t first second r e =
    let v = value_gives (λ x. trial_of o l x.region s t) (trial_into o l f s t first second) r e in
    let x = v.0 in
    let g = x.region in
    let k = into o l f s t first second x v.1 in
    let same : trial_of o l g s t ≡ r = v.2 in
    let m = sky_of s g in
    let n = sky_of t g in
    let lists-one : first_after o l f s t first second ≡ lists_by s x first = ap (λ a. stored (lists_by s) a first) v.1 in
    let lists-two : second_after o l f s t first second ≡ lists_by t x second = ap (λ a. stored (lists_by t) a second) v.1 in
    let part = chosen_part s t x first second k.one k.two (leb m n) in
    record {
      file = x;
      accepted = k.accepted;
      same_held = λ i. subst (SameHeld (held_by o l g)) same (same_held o l g i s t k.depths.0 k.depths.1);
      smaller = subst (λ u. Smaller u.choice s t g) same (smaller s t g);
      outer =
          (λ j. part_of {E = Refusal} (Ok (sym same j)) (lists-one j) (lists-two j)) ∙ part ∙ ap (λ u. pairs (cover_by (chosen_of u.choice s t) g).outer) same;
    }

pub trials_calls : TrialsOfCalls
trials_calls o l f s t first second one two part r k c =
    subst (λ p. TrialCorrect o l f s t r p) (sym (c ∙ (λ i. part_of {E = Refusal} (Ok r) (k.first_left i) (k.second_left i)))) (trials_answers o l f s t first second r (sym k.answer))
