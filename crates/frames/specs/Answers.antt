-- What the call answers, and what it leaves in the two lent lists. Document 02, F-12: owner is checked first, then the file, then the range list by its old
-- rule; a list for the numbers of under 1024 elements is then refused as space, and nothing is written. Last, as for every call on an index, a list too short
-- to be one is refused as space too.
--   frames_into ..       the file whose frames are delivered, or the refusal: 18, the file's, 10
--   walk_of o l x        the walk over the entries of the owner o in the list l beside the cover of the file x
--   frames_by ms         how many numbers a walk delivers, and how many tests it makes; frames_list: as numbers, `frame_counts` of them
--   frames_answer        what the call answers: these counts, or the refusal
--   ranges_after         the range list afterwards: as the cover leaves it
--   numbers_after        the list of numbers afterwards: those delivered, from element 0 on; the other elements stay
--   FramesCall ..       it gave r and left both lists, all by these definitions: the contract of the call
use Rattle.std.specs.Prelude.{ℕ, ◌*◌, ◌≡◌, List, [], ◌∷◌, leb, length, ℤ}
use Rattle.std.specs.Prelude.{Result}
use Rattle.answer.specs.declared.Refusal.{Refusal}
use Rattle.answer.specs.Calls.{answer_of}
use Rattle.answer.specs.Answer.{Answer, gives, check, then, with_value, Space, Owner}
use Rattle.answer.specs.Lent.{put, stored}
use Rattle.region.specs.Regions.{holds}
use Rattle.region.specs.Budgets.{budget_of}
use Rattle.region.specs.Reader.{File, read}
use Rattle.covering.specs.Cover.{cover, both_listed}
use Rattle.index.specs.Exposures.{OwnerCapacity, is_owner}
use Rattle.index.specs.Answers.{in_list}
use Rattle.frames.specs.declared.Frames.{Frames}
use Rattle.frames.specs.Walk.{entries_of, WalkStep, walk, delivered_by, tests_of}

abbrev pub frames_into : ℕ → List ℤ → List ℕ → List ℕ → List ℕ → Answer File
frames_into o l f ranges numbers =
    check Owner (is_owner o)
    (then (read f) (λ x.
    check Space (leb (4 * budget_of x.budget) (length ranges))
    (check Space (leb OwnerCapacity (length numbers))
    (in_list l (gives x)))))

unfoldable pub walk_of : ℕ → List ℤ → File → List WalkStep
walk_of o l x = walk x.depth (holds x.region) (cover x).outer (cover x).inner (entries_of o l)

abbrev pub frames_by : List WalkStep → Frames
frames_by ms = record { delivered = length (delivered_by ms); tests = tests_of ms }

-- as numbers, and how many they are
abbrev pub frames_list : Frames → List ℕ
frames_list r = r.delivered ∷ r.tests ∷ []

abbrev pub frame_counts : ℕ
frame_counts = 2

unfoldable pub frames_answer : ℕ → List ℤ → List ℕ → List ℕ → List ℕ → Answer Frames
frames_answer o l f ranges numbers = with_value (λ x. frames_by (walk_of o l x)) (frames_into o l f ranges numbers)

unfoldable pub ranges_after : ℕ → List ℤ → List ℕ → List ℕ → List ℕ → List ℕ
ranges_after o l f ranges numbers = stored (λ x before. both_listed (budget_of x.budget) (cover x) before) (frames_into o l f ranges numbers) ranges

unfoldable pub numbers_after : ℕ → List ℤ → List ℕ → List ℕ → List ℕ → List ℕ
numbers_after o l f ranges numbers = stored (λ x before. put 0 (delivered_by (walk_of o l x)) before) (frames_into o l f ranges numbers) numbers

pub record FramesCall (o : ℕ) (l : List ℤ) (f ranges numbers : List ℕ) (r : Result Frames Refusal) (lists left : List ℕ) : Type 0 where
  pub answer : answer_of r ≡ frames_answer o l f ranges numbers
  pub lists_left : lists ≡ ranges_after o l f ranges numbers
  pub numbers_left : left ≡ numbers_after o l f ranges numbers
