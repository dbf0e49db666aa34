-- What the ranges contain: document 02, F-4. For every accepted file, of its cutting, its outer list and the three counts of identifiers holds
--   in_full       the full trixels have `full` identifiers at the depth
--   in_accepted   the accepted trixels, full ones and partial ones at the depth, have full + partial
--   in_outer      the outer ranges contain full + partial + swallowed
-- of the identifiers at the depth, each counted once (`Contains`, ranges/specs/Contents). `CountedOfCalls` says
-- so of whatever values meet the contract of `htm::cover`; of the rules and of the answers: proofs/Counted.
use Rattle.std.specs.Prelude.{ℕ, ◌+◌, ◌≡◌, List}
use Rattle.std.specs.Prelude.{Ok}
use Rattle.answer.specs.Calls.{answer_of}
use Rattle.region.specs.Reader.{File, Accepted}
use Rattle.mesh.specs.Identifiers.{identifiers_at}
use Rattle.ranges.specs.declared.Range.{Range}
use Rattle.ranges.specs.Contents.{Contains}
use Rattle.covering.specs.declared.Counts.{Counts}
use Rattle.covering.specs.Cover.{Found, cutting}
use Rattle.htm.specs.Answers.{cover_answer, cover_after, outer_in}

-- of a depth, what a cutting found there, a list of ranges and the counts
pub record Contents (d : ℕ) (found : Found) (outer : List Range) (c : Counts) : Type 0 where
  pub in_full : Contains (identifiers_at d) found.full c.full
  pub in_accepted : Contains (identifiers_at d) found.accepted (c.full + c.partial)
  pub in_outer : Contains (identifiers_at d) outer (c.full + c.partial + c.swallowed)

abbrev pub ContentsOf : File → List Range → Counts → Type 0
ContentsOf x outer c = Contents x.depth (cutting x.depth x.region) outer c

-- As above, by the contract of the call `htm::cover` (src/lib.rt), where it gave c and left `after` in the lent list.
abbrev pub CountedOfCalls : Type 0
CountedOfCalls =
    (f before after : List ℕ) (c : Counts) → answer_of (Ok c) ≡ cover_answer f before → after ≡ cover_after f before
    → (x : File) × Accepted f x × ContentsOf x (outer_in c after) c
