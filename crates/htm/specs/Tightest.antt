-- The tightest list for its budget: document 02, F-9. For every accepted file, of its accepted ranges and its outer list holds
--   at_depth   every identifier in the outer list is one at the file's depth, so that counting those leaves none out
--   feasible   it has at most the budget of ranges, and contains all accepted identifiers
--   tightest   every other list of which this holds contains at least as many different identifiers at the depth. It may be any list: its ranges may stand
--              in any order, overlap, be reversed, and go beyond the identifiers at the depth
--   empty      an empty accepted set gives no ranges
-- The rule's 'earliest among equals' plays no part: it chooses between gaps of one size, so between lists that contain equally many identifiers.
-- `TightestOfCalls` says so of whatever values meet the contract of `htm::cover`; of the rules and of the answers: proofs/TightestKept.
use Rattle.std.specs.Prelude.{ℕ, ◌≤◌, ◌≡◌, true, false, List, []}
use Rattle.std.specs.Prelude.{Ok}
use Rattle.answer.specs.Calls.{answer_of}
use Rattle.mesh.specs.Identifiers.{identifier_at, identifiers_at}
use Rattle.region.specs.Budgets.{budget_of}
use Rattle.region.specs.Reader.{File, Accepted}
use Rattle.ranges.specs.declared.Range.{Range}
use Rattle.ranges.specs.Ranges.{in_some}
use Rattle.ranges.specs.Contents.{different, Feasible}
use Rattle.covering.specs.Cover.{cutting}
use Rattle.covering.specs.declared.Counts.{Counts}
use Rattle.htm.specs.Answers.{cover_answer, cover_after, outer_in}

-- of a depth, the budget that is counted with, the accepted ranges and a list
pub record TightestFor (d budget : ℕ) (accepted outer : List Range) : Type 0 where
  pub at_depth : (i : ℕ) → in_some i outer ≡ true → identifier_at d i ≡ true
  pub feasible : Feasible budget accepted outer
  pub tightest : (other : List Range) → Feasible budget accepted other → different (identifiers_at d) outer ≤ different (identifiers_at d) other
  pub empty : ((i : ℕ) → in_some i accepted ≡ false) → outer ≡ []

abbrev pub TightestOf : File → List Range → Type 0
TightestOf x outer = TightestFor x.depth (budget_of x.budget) (cutting x.depth x.region).accepted outer

abbrev pub TightestOfCalls : Type 0
TightestOfCalls =
    (f before after : List ℕ) (c : Counts) → answer_of (Ok c) ≡ cover_answer f before → after ≡ cover_after f before
    → (x : File) × Accepted f x × TightestOf x (outer_in c after)
