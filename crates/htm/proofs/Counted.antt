-- The ranges contain what the counts say: document 02, F-4, from the laws of the cutting (ContentsLaws of covering). Assumes nothing.
use Prim.Native.Nat.{ℕ, ◌≤◌}
use mathlib.Core.Path.{sym, subst, subst₂, ◌≡◌}
use Rattle.vector.proofs.DepthLaws.{depth_range}
use Rattle.region.specs.Regions.{Region}
use Rattle.region.specs.Budgets.{budget_of}
use Rattle.region.proofs.BudgetLaws.{budget_one}
use Rattle.region.proofs.ReaderLaws.{read_depth}
use Rattle.ranges.proofs.Sound.{outer_few}
use Rattle.covering.specs.Cover.{cutting, cover, cover_of, counts_of}
use Rattle.covering.proofs.ContentsLaws.{full_contains, accepted_contains, outer_contains}
use Rattle.htm.specs.Answers.{both_lists, outer_in, cover_answer, cover_after}
use Rattle.htm.specs.Counted.{Contents, ContentsOf, CountedOfCalls}
use Rattle.covering.proofs.ListedLaws.{outer_back}
use Rattle.htm.proofs.AnswersKept.{covered}
use mathlib.Core.List.{List}
use Rattle.answer.specs.Answer.{gives}
use Rattle.region.specs.Reader.{File, Accepted}
use Rattle.covering.specs.declared.Counts.{Counts}

-- of any depth from 1 on, budget and region
contents : (d b : ℕ) (g : Region) → 1 ≤ d → Contents d (cutting d g) (cover_of d b g).outer (counts_of (cover_of d b g))
unfolding cover_of
contents d b g deep = record {
  in_full = full_contains g d (budget_of b) deep;
  in_accepted = accepted_contains g d (budget_of b) deep;
  in_outer = outer_contains g d (budget_of b) deep (budget_one b);
}

pub all_counted : (f : List ℕ) (x : File) → Accepted f x → ContentsOf x (cover x).outer (counts_of (cover x))
all_counted f x a = contents x.depth x.budget x.region (depth_range x.depth (read_depth f x a)).0

pub answers_counted :
    (f before : List ℕ) (c : Counts) → cover_answer f before ≡ gives c
    → (x : File) × Accepted f x × ContentsOf x (outer_in c (cover_after f before)) c
unfolding cover_of
answers_counted f before c e =
    let v = covered f before c e in
    let x = v.file in
    let few = outer_few (budget_of x.budget) (budget_one x.budget) (cutting x.depth x.region).accepted in
    let lists : ContentsOf x (outer_in (counts_of (cover x)) (both_lists x before)) (counts_of (cover x)) =
    subst (λ o. ContentsOf x o (counts_of (cover x))) (sym (outer_back (budget_of x.budget) (cover x) before v.space few)) (all_counted f x v.accepted) in
    (x, v.accepted, subst₂ (λ y l. ContentsOf x (outer_in y l) y) v.counts v.lists lists)

pub calls_counted : CountedOfCalls
calls_counted f before after c e left =
    let k = answers_counted f before c (sym e) in
    (k.0, k.1, subst (λ l. ContentsOf k.0 (outer_in c l) c) (sym left) k.2)
