-- The promise is kept: demand 3, for every vector and every accepted file, in one theorem.
-- The path of the point finds its identifier in the cutting's lists (CoverLaws), and the budget's rules keep what is needed (Sound of ranges). Assumes nothing.
use Prim.Native.Nat.{ℕ}
use Rattle.vector.specs.declared.Vec3.{Vec3}
use Rattle.vector.proofs.VectorLaws.{UnitLength, vector_unit_length}
use Rattle.mesh.specs.Lookup.{identifier, lookup}
use Rattle.region.specs.Regions.{Region, holds}
use Rattle.region.specs.Budgets.{budget_of}
use Rattle.region.proofs.BudgetLaws.{budget_one}
use Rattle.region.proofs.ReaderLaws.{read_depth}
use Rattle.ranges.specs.Ranges.{Proper}
use Rattle.ranges.specs.Lists.{outer_of, inner_of}
use Rattle.ranges.proofs.Sound.{Has, outer_few, inner_few, inner_only, outer_separate, inner_separate, outer_all}
use Rattle.ranges.proofs.ListLaws.{some_has, in_exactly_one, separate_proper}
use Rattle.covering.specs.Cover.{cutting, cover_of, cover}
use Rattle.htm.specs.Promise.{CoverSound}
use Rattle.covering.proofs.CoverLaws.{accepted_ascends, full_ascends, cutting_accepts, cutting_holds}
use mathlib.Core.Path.{◌≡◌}
use mathlib.Core.Bool.{true}
use mathlib.Core.List.{List}
use Rattle.answer.specs.Answer.{gives}
use Rattle.vector.specs.Vectors.{is_vector}
use Rattle.region.specs.Reader.{File, Accepted}

-- ---- of any depth, budget and region

-- both lists ascend, leave gaps and keep to the budget
pub outer_proper : (d b : ℕ) (g : Region) → Proper (budget_of b) (cover_of d b g).outer
unfolding cover_of
outer_proper d b g =
    let A = (cutting d g).accepted in
    separate_proper (budget_of b) (outer_of (budget_of b) A) (outer_separate (budget_of b) (budget_one b) A (accepted_ascends g d)) (outer_few (budget_of b) (budget_one b) A)

pub inner_proper : (d b : ℕ) (g : Region) → Proper (budget_of b) (cover_of d b g).inner
unfolding cover_of
inner_proper d b g =
    let F = (cutting d g).full in
    separate_proper (budget_of b) (inner_of (budget_of b) F) (inner_separate (budget_of b) (budget_one b) F (full_ascends g d)) (inner_few (budget_of b) (budget_one b) F)

pub kept : (d b : ℕ) (g : Region) (p : Vec3) → UnitLength p → CoverSound (identifier p d) (cover_of d b g).outer (cover_of d b g).inner (budget_of b) (holds g p)
unfolding cover_of
kept d b g p l =
    let i = identifier p d in
    let B = budget_of b in
    let one = budget_one b in
    let A = (cutting d g).accepted in
    let F = (cutting d g).full in
    let up = accepted_ascends g d in
    record {
      inner_held = λ e.
          let h : Has (inner_of B F) i = some_has i (inner_of B F) e in
          cutting_holds g d p l (inner_only B one F h.0 i h.1);
      held_outer = λ e.
          let a = cutting_accepts g d p l e in
          let h : Has (outer_of B A) i = outer_all B one A up a.0 i a.1 in
          in_exactly_one i (outer_of B A) h.0 (outer_separate B one A up) h.1;
      outer_list = outer_proper d b g;
      inner_list = inner_proper d b g;
    }

pub promise_kept :
    (p : Vec3) (f : List ℕ) (x : File) → is_vector p ≡ true → Accepted f x
    → (i : ℕ) × (lookup p x.depth ≡ gives i)
    × CoverSound i (cover x).outer (cover x).inner (budget_of x.budget) (holds x.region p)
unfolding lookup
promise_kept p f x v r = (identifier p x.depth, rw (read_depth f x r, v), kept x.depth x.budget x.region p (vector_unit_length p v))
