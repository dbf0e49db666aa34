-- The outer list is the tightest for its budget: document 02, F-9. The accepted ranges lie among the identifiers at the depth (CoverLaws of covering), and
-- of ranges in a stretch the outer list is the tightest (Tightest of ranges). Assumes nothing.
use Prim.Native.Nat.{ℕ, ◌+◌, ◌*◌, ◌^◌, ◌≤◌}
use native.Mathlib.Omega.{arith}
use mathlib.Core.Path.{◌≡◌, sym, subst, subst₂}
use mathlib.Core.Bool.{true}
use mathlib.Core.List.{List}
use borrow.Author.Tests.{le-leb, lt-ltb}
use Rattle.algebra.proofs.Tests.{and_both}
use Rattle.vector.proofs.DepthLaws.{depth_range}
use Rattle.mesh.specs.Identifiers.{identifier_at}
use Rattle.mesh.proofs.NameLaws.{next_power, last_power}
use Rattle.region.specs.Regions.{Region}
use Rattle.region.specs.Budgets.{budget_of}
use Rattle.region.proofs.BudgetLaws.{budget_one}
use Rattle.region.proofs.ReaderLaws.{read_depth}
use Rattle.ranges.specs.declared.Range.{Range}
use Rattle.ranges.specs.Ranges.{in_some}
use Rattle.ranges.specs.Lists.{outer_of}
use Rattle.ranges.proofs.ListLaws.{some_has, Between, between_low, between_high}
use Rattle.ranges.proofs.ContentsLaws.{between_outer}
use Rattle.ranges.proofs.Tightest.{outer_feasible, outer_tightest, outer_empty}
use Rattle.covering.specs.Cover.{cutting, cover, cover_of, counts_of}
use Rattle.covering.proofs.CoverLaws.{Which, cutting_at_depth}
use Rattle.htm.specs.Answers.{both_lists, outer_in, cover_answer, cover_after}
use Rattle.htm.specs.Tightest.{TightestFor, TightestOf, TightestOfCalls}
use Rattle.covering.proofs.ListedLaws.{outer_back}
use Rattle.htm.proofs.AnswersKept.{covered}
use Rattle.answer.specs.Answer.{gives}
use Rattle.region.specs.Reader.{File, Accepted}
use Rattle.covering.specs.declared.Counts.{Counts}

-- of any depth from 1 on, budget and region
module _ (d b : ℕ) (g : Region) (deep : 1 ≤ d) where
  abbrev B : ℕ
  B = budget_of b

  abbrev accepted : List Range
  accepted = (cutting d g).accepted

  -- the lowest identifier at the depth, and how many there are
  abbrev low : ℕ
  low = 2 ^ (2 * d + 1)

  -- the descendants of the eight roots are the identifiers at the depth
  stretch : Between low (low + low) accepted
  stretch = cutting_at_depth g d Which.accepted deep

  at_depth : (i : ℕ) → in_some i (outer_of B accepted) ≡ true → identifier_at d i ≡ true
  at_depth i e =
      let outer = outer_of B accepted in
      let h = some_has i outer e in
      let p : Between low (low + low) outer = between_outer B (budget_one b) low (low + low) accepted stretch in
      let from = between_low low (low + low) outer h.0 i p h.1 in
      let to = between_high low (low + low) outer h.0 i p h.1 in
      and_both (le-leb low i from) (lt-ltb i (2 ^ (2 * d + 2)) (omega (arith, next_power d, last_power d)))

  tightest_for : TightestFor d B accepted (cover_of d b g).outer
  unfolding cover_of
  tightest_for = record {
    at_depth = at_depth;
    feasible = outer_feasible B (budget_one b) low low accepted stretch;
    tightest = outer_tightest B (budget_one b) low low accepted stretch;
    empty = outer_empty B low (low + low) accepted stretch;
  }

pub tightest_kept : (f : List ℕ) (x : File) → Accepted f x → TightestOf x (cover x).outer
tightest_kept f x a = tightest_for x.depth x.budget x.region (depth_range x.depth (read_depth f x a)).0

-- Whatever the cover answers: the file is accepted, and this holds of the outer list in the lent list as the cover leaves it.
pub tightest_answers :
    (f before : List ℕ) (c : Counts) → cover_answer f before ≡ gives c → (x : File) × Accepted f x × TightestOf x (outer_in c (cover_after f before))
tightest_answers f before c e =
    let v = covered f before c e in
    let x = v.file in
    let t = tightest_kept f x v.accepted in
    let list : TightestOf x (outer_in (counts_of (cover x)) (both_lists x before)) =
    subst (TightestOf x) (sym (outer_back (budget_of x.budget) (cover x) before v.space t.feasible.few)) t in
    (x, v.accepted, subst₂ (λ y l. TightestOf x (outer_in y l)) v.counts v.lists list)

pub tightest_calls : TightestOfCalls
tightest_calls f before after c e left =
    let k = tightest_answers f before c (sym e) in
    (k.0, k.1, subst (λ l. TightestOf k.0 (outer_in c l)) (sym left) k.2)
