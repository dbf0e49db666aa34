-- The promise of the answers: demand 3 said of what the lookup, the point test and the cover answer, and of the lists that stand in the lent list
-- after the cover. Assumes nothing.
use Prim.Native.Nat.{ℕ, ◌*◌, ◌≤◌}
use Rattle.std.specs.Prelude.{Result, Ok}
use Rattle.answer.specs.declared.Refusal.{Refusal}
use mathlib.Core.Path.{◌≡◌, sym, ap, ◌∙◌, subst, subst₂, subst₃}
use mathlib.Core.Bool.{Bool, true}
use mathlib.Core.List.{List}
use lib.Dec.{leb}
use lib.ListN.{length}
use borrow.Author.Tests.{leb-true, le-leb}
use Rattle.answer.specs.Answer.{gives, check, Vector, Space}
use Rattle.answer.specs.Lent.{room, stored}
use Rattle.answer.proofs.AnswerLaws.{check_passed, check_gives, same_value, then_gives, value_gives, given_is}
use Rattle.vector.specs.declared.Vec3.{Vec3}
use Rattle.vector.specs.Vectors.{is_vector}
use Rattle.region.specs.Regions.{holds}
use Rattle.region.specs.Budgets.{budget_of}
use Rattle.region.specs.Reader.{File, read, Accepted}
use Rattle.region.specs.Answers.{point_test}
use Rattle.mesh.specs.Lookup.{lookup}
use Rattle.covering.specs.Cover.{cover, counts_of}
use Rattle.covering.specs.declared.Counts.{Counts}
use Rattle.covering.proofs.ListedLaws.{outer_back, inner_back}
use Rattle.htm.specs.Answers.{cover_into, cover_answer, both_lists, cover_after, outer_in, inner_in}
use Rattle.htm.specs.Promise.{CoverSound, ListsSound, DemandThree}
use Rattle.htm.proofs.PromiseKept.{promise_kept}
use Rattle.answer.specs.Calls.{answer_of}

-- ---- the three answers

-- what a cover that gives says of its file
pub record Covered (f before : List ℕ) (c : Counts) : Type 0 where
  pub file : File
  pub accepted : Accepted f file
  pub space : 4 * budget_of file.budget ≤ length before
  pub counts : counts_of (cover file) ≡ c
  pub lists : both_lists file before ≡ cover_after f before

pub covered : (f before : List ℕ) (c : Counts) → cover_answer f before ≡ gives c → Covered f before c
unfolding cover_answer cover_after
covered f before c e =
    let v = value_gives (λ x. counts_of (cover x)) (cover_into f before) c e in
    let x = v.0 in
    let t = then_gives (read f) (λ y. room (4 * budget_of y.budget) before y) x v.1 in
    let n = 4 * budget_of t.0.budget in
    let same : t.0 ≡ x = same_value t.0 x (check_gives Space (leb n (length before)) (gives t.0) x t.2) in
    let long : n ≤ length before = leb-true n (length before) (check_passed Space (leb n (length before)) (gives t.0) x t.2) in
    record {
      file = x;
      accepted = t.1 ∙ ap gives same;
      space = subst (λ y. 4 * budget_of y.budget ≤ length before) same long;
      counts = v.2;
      lists = sym (ap (λ a. stored both_lists a before) v.1);
    }

-- what a point test that gives says of its point
tested : (f : List ℕ) (p : Vec3) (h : Bool) (x : File) → point_test f p ≡ gives h → Accepted f x → (is_vector p ≡ true) × (holds x.region p ≡ h)
unfolding point_test
tested f p h x e r =
    let t = then_gives (read f) (λ y. check Vector (is_vector p) (gives (holds y.region p))) h e in
    let held = gives (holds t.0.region p) in
    let s : t.0 ≡ x = same_value t.0 x (sym t.1 ∙ r) in (
      check_passed Vector (is_vector p) held h t.2,
      subst (λ z. holds z.region p ≡ h) s (same_value (holds t.0.region p) h (check_gives Vector (is_vector p) held h t.2)),
    )

-- Whatever the cover and the point test answer for one file: the file is accepted, the lookup answers at its depth, and the promise holds of the answers and of
-- the two lists in the lent list as the cover leaves it.
pub answers_kept : (p : Vec3) (f before : List ℕ) (c : Counts) (held : Bool) → cover_answer f before ≡ gives c → point_test f p ≡ gives held
    → (x : File) × Accepted f x × (i : ℕ) × (lookup p x.depth ≡ gives i) × ListsSound i c (cover_after f before) (budget_of x.budget) held
answers_kept p f before c h cov tst =
    let v : Covered f before c = covered f before c cov in
    let x = v.file in
    let B = budget_of x.budget in
    let t = tested f p h x tst v.accepted in
    let k = promise_kept p f x t.0 v.accepted in
    let few = k.2.outer_list.few in
    let lists : CoverSound k.0 (outer_in (counts_of (cover x)) (both_lists x before)) (inner_in B (counts_of (cover x)) (both_lists x before)) B (holds x.region p) =
    subst₂ (λ o n. CoverSound k.0 o n B (holds x.region p)) (sym (outer_back B (cover x) before v.space few)) (sym (inner_back B (cover x) before v.space few)) k.2 in (
      x,
      v.accepted,
      k.0,
      k.1,
      subst₃ (λ y l b. CoverSound k.0 (outer_in y l) (inner_in B y l) B b) v.counts v.lists t.1 lists,
    )

-- ---- of the calls

-- As above, for values that meet the contracts, `after` in the lent list: there is an identifier that the lookup gives, and the promise holds of all of them.
pub calls_kept : (p : Vec3) (f before after : List ℕ) (c : Counts) (held : Bool)
    → answer_of (Ok c) ≡ cover_answer f before → after ≡ cover_after f before → answer_of (Ok held) ≡ point_test f p
    → (x : File) × Accepted f x × (i : ℕ) × ((found : Result ℕ Refusal) → answer_of found ≡ lookup p x.depth → found ≡ Ok i)
    × ListsSound i c after (budget_of x.budget) held
calls_kept p f before after c h cov left tst =
    let k = answers_kept p f before c h (sym cov) (sym tst) in
    let B = budget_of k.0.budget in
    (k.0, k.1, k.2, λ found e. given_is found k.2 (e ∙ k.3), subst (λ l. CoverSound k.2 (outer_in c l) (inner_in B c l) B h) (sym left) k.4)

-- ---- undivided

cover_gives : (f before : List ℕ) (x : File) → Accepted f x → 4 * budget_of x.budget ≤ length before → cover_answer f before ≡ gives (counts_of (cover x))
unfolding cover_answer
cover_gives f before x r l = rw (r, le-leb (4 * budget_of x.budget) (length before) l)

test_gives : (f : List ℕ) (p : Vec3) (x : File) → is_vector p ≡ true → Accepted f x → point_test f p ≡ gives (holds x.region p)
unfolding point_test
test_gives f p x v r = rw (r, v)

pub demand_three : DemandThree
demand_three p f before x v r l =
    let k = promise_kept p f x v r in
    let c = counts_of (cover x) in
    let h = holds x.region p in
    let B = budget_of x.budget in
    let cov = cover_gives f before x r l in
    let tst = test_gives f p x v r in
    let w = covered f before c cov in
    let same : w.file ≡ x = same_value w.file x (sym w.accepted ∙ r) in
    let few = k.2.outer_list.few in
    let left : both_lists x before ≡ cover_after f before = subst (λ y. both_lists y before ≡ cover_after f before) same w.lists in
    let lists : ListsSound k.0 c (cover_after f before) B h =
    subst (λ s. ListsSound k.0 c s B h) left
    (subst₂ (λ o n. CoverSound k.0 o n B h) (sym (outer_back B (cover x) before l few)) (sym (inner_back B (cover x) before l few)) k.2) in
    record {
      i = k.0;
      c = c;
      lookup_gives = k.1;
      test_gives = tst;
      cover_gives = cov;
      rules = k.2;
      answers = lists;
      calls = λ found held got after e d b a. record {
        i = k.0;
        h = h;
        c = c;
        locates = given_is found k.0 (e ∙ k.1);
        tests = given_is held h (d ∙ tst);
        covers = given_is got c (b ∙ cov);
        lists = subst (λ s. ListsSound k.0 c s B h) (sym a) lists;
      };
    }
