-- The promise: demand 3. Document 01, 'The two lists'.
-- `DemandThree` is promise 3, undivided: of every vector p, every accepted file and every list of at least 4 × budget elements, and of nothing else. The lookup
-- at the file's depth gives an identifier i, the point test and the cover give too, and of i and the two lists holds `CoverSound`:
--   inner_held    where i is in an inner range, the region holds p
--   held_outer    where the region holds p, i is in exactly one outer range
--   outer_list, inner_list   each list ascends, leaves at least one identifier between neighbours, and has at most the budget of ranges
-- It holds of the rules (`rules`), of what the calls answer and of the lists in the lent list afterwards (`answers`), and of whatever values meet the contracts of
-- `htm::locate`, `htm::holds` and `htm::cover` (`calls`, by `CallsSound`). Proved: `demand_three` proofs/AnswersKept.
use Rattle.std.specs.Prelude.{ℕ, ◌*◌, ◌≤◌, ◌≡◌, Bool, true, List, length}
use Rattle.std.specs.Prelude.{Result, Ok}
use Rattle.answer.specs.declared.Refusal.{Refusal}
use Rattle.answer.specs.Answer.{gives}
use Rattle.answer.specs.Calls.{answer_of}
use Rattle.vector.specs.declared.Vec3.{Vec3}
use Rattle.vector.specs.Vectors.{is_vector}
use Rattle.mesh.specs.Lookup.{lookup}
use Rattle.region.specs.Regions.{holds}
use Rattle.region.specs.Budgets.{budget_of}
use Rattle.region.specs.Reader.{File, Accepted}
use Rattle.region.specs.Answers.{point_test}
use Rattle.ranges.specs.declared.Range.{Range}
use Rattle.ranges.specs.Ranges.{in_some, times_in, Proper}
use Rattle.covering.specs.Cover.{cover}
use Rattle.covering.specs.declared.Counts.{Counts}
use Rattle.htm.specs.Answers.{cover_answer, cover_after, outer_in, inner_in}

-- of an identifier i, two lists, the budget that is counted with, and whether the region holds the point
pub record CoverSound (i : ℕ) (outer inner : List Range) (budget : ℕ) (held : Bool) : Type 0 where
  pub inner_held : in_some i inner ≡ true → held ≡ true
  pub held_outer : held ≡ true → times_in i outer ≡ 1
  pub outer_list : Proper budget outer
  pub inner_list : Proper budget inner

-- of the two lists that stand in the lent list `after`, by the counts c
abbrev pub ListsSound : ℕ → Counts → List ℕ → ℕ → Bool → Type 0
ListsSound i c after budget held = CoverSound i (outer_in c after) (inner_in budget c after) budget held

-- of what three calls gave: an identifier, whether the region holds the point, and the counts of a cover that left `after` in the lent list
pub record CallsSound (found : Result ℕ Refusal) (held : Result Bool Refusal) (covered : Result Counts Refusal) (after : List ℕ) (budget : ℕ) : Type 0 where
  pub i : ℕ
  pub h : Bool
  pub c : Counts
  pub locates : found ≡ Ok i
  pub tests : held ≡ Ok h
  pub covers : covered ≡ Ok c
  pub lists : ListsSound i c after budget h

pub record Demand3 (p : Vec3) (f before : List ℕ) (x : File) : Type 0 where
  pub i : ℕ
  pub c : Counts
  pub lookup_gives : lookup p x.depth ≡ gives i
  pub test_gives : point_test f p ≡ gives (holds x.region p)
  pub cover_gives : cover_answer f before ≡ gives c
  pub rules : CoverSound i (cover x).outer (cover x).inner (budget_of x.budget) (holds x.region p)
  pub answers : ListsSound i c (cover_after f before) (budget_of x.budget) (holds x.region p)
  pub calls : (found : Result ℕ Refusal) (held : Result Bool Refusal) (covered : Result Counts Refusal) (after : List ℕ)
      → answer_of found ≡ lookup p x.depth → answer_of held ≡ point_test f p → answer_of covered ≡ cover_answer f before → after ≡ cover_after f before
      → CallsSound found held covered after (budget_of x.budget)

abbrev pub DemandThree : Type 0
DemandThree = (p : Vec3) (f before : List ℕ) (x : File) → is_vector p ≡ true → Accepted f x → 4 * budget_of x.budget ≤ length before → Demand3 p f before x
