-- All frames of a region in a single pass. Document 02, F-12: the delivered numbers are exactly that owner's entries which the region holds, in index order,
-- and the count of point tests made equals the entries in outer but not in inner ranges. The range list ends as the cover leaves it.
--   entries_by o l       the entries of the owner o in the index l, in index order
--   outer_only ..        the entry e, shortened to the depth d, is in a range of os but in none of ns
--   Delivers ..         these numbers and this count of tests are what is said above, of the owner o, the index l, the region g, and the outer
--                       and the inner ranges os and ns at the depth d
--   Delivered ..        as above, for an answer and the two lent lists afterwards
--   FramesOfCalls       of whatever values meet the call's contract, `FramesCall`
-- Proved, of the rules and of the answers too: proofs/FramesKept.
use Rattle.std.specs.Prelude.{ℕ, ◌≡◌, Bool, not, ◌&&◌, List, map, length, ℤ, pos}
use Rattle.std.specs.Prelude.{Ok}
use Rattle.algebra.specs.Lists.{tally}
use Rattle.answer.specs.Answer.{gives}
use Rattle.answer.specs.Lent.{put}
use Rattle.region.specs.Regions.{Region, holds}
use Rattle.region.specs.Budgets.{budget_of}
use Rattle.region.specs.Reader.{File, Accepted}
use Rattle.ranges.specs.declared.Range.{Range}
use Rattle.ranges.specs.Ranges.{in_some}
use Rattle.covering.specs.declared.Counts.{Counts}
use Rattle.index.specs.declared.Entry.{Entry}
use Rattle.index.specs.Exposures.{only}
use Rattle.index.specs.Entries.{is_owned, entries_in}
use Rattle.index.specs.HistoryCorrect.{IsIndex}
use Rattle.frames.specs.declared.Frames as declared
use Rattle.frames.specs.Walk.{shortened}
use Rattle.frames.specs.Answers.{FramesCall}
use Rattle.htm.specs.Answers.{cover_answer, cover_after, outer_in, inner_in}

abbrev pub entries_by : ℕ → List ℤ → List Entry
entries_by o l = only (is_owned o) (entries_in l)

abbrev pub outer_only : ℕ → List Range → List Range → Entry → Bool
outer_only d os ns e = in_some (shortened d e) os && not (in_some (shortened d e) ns)

pub record Delivers (o : ℕ) (l : List ℤ) (g : Region) (d : ℕ) (os ns : List Range) (numbers : List ℕ) (tests : ℕ) : Type 0 where
  pub exactly : map pos numbers ≡ map (λ e. e.number) (only (λ e. holds g e.pointing) (entries_by o l))
  pub counted : tests ≡ tally (outer_only d os ns) (entries_by o l)

-- of an answer r, the range list and the list of numbers afterwards, of an index l and the lists as they were lent
pub record Delivered (o : ℕ) (l : List ℤ) (f ranges numbers : List ℕ) (r : declared.Frames) (lists left : List ℕ) : Type 0 where
  pub file : File
  pub accepted : Accepted f file
  pub counts : Counts
  pub covered : cover_answer f ranges ≡ gives counts
  pub lists_left : lists ≡ cover_after f ranges
  pub delivered : List ℕ
  pub count : r.delivered ≡ length delivered
  pub numbers_left : left ≡ put 0 delivered numbers
  pub delivers : Delivers o l file.region file.depth (outer_in counts lists) (inner_in (budget_of file.budget) counts lists) delivered r.tests

-- of values that meet the call's contract
abbrev pub FramesOfCalls : Type 0
FramesOfCalls =
    (o : ℕ) (l : List ℤ) (f ranges numbers lists left : List ℕ) (r : declared.Frames) → IsIndex l
    → FramesCall o l f ranges numbers (Ok r) lists left → Delivered o l f ranges numbers r lists left
