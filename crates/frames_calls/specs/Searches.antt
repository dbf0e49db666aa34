-- What a search leaves: the cover's lists and counts, and the walk beside them. Document 02, F-12; the rules are those of frames/specs/Answers.
--   Searches ..          what a search of a region leaves; SearchesRows: of every region that has these rows
--   FileIs h rs          rs is what some file with the header h was decoded to
--   delivery_of t         the answer by the counts of a walk
use Rattle.std.specs.Prelude.{ℕ, ◌+◌, ◌≤◌, ◌≡◌, List, ℤ}
use Rattle.answer.specs.Lent.{put}
use Rattle.region.specs.Regions.{Region, holds}
use Rattle.region.specs.declared.Header.{Header}
use Rattle.covering.specs.Cover.{Cover, cutting, listed, counts_of, both_listed}
use Rattle.index.specs.Exposures.{OwnerCapacity}
use Rattle.frames.specs.declared.Frames.{Frames}
use Rattle.frames.specs.Walk.{entries_of, WalkStep, walk, delivered_by}
use Rattle.frames_walk.specs.declared.DispositionCounts.{DispositionCounts}
use Rattle.frames_walk.specs.Steps.{counts_by}
use Rattle.covering_walk.specs.Walk.{RowsOf}
use Rattle.covering_calls.specs.Decoded.{Decoded}
use Rattle.frames_calls.specs.declared.SearchResult.{SearchResult}

-- the walk beside the lists of a cover c of the region g at the depth d
abbrev pub walk_beside : ℕ → List ℤ → ℕ → Region → Cover → List WalkStep
walk_beside o l d g c = walk d (holds g) c.outer c.inner (entries_of o l)

pub record Searches (o : ℕ) (l : List ℤ) (d b : ℕ) (g : Region) (ranges numbers : List ℕ) (r : SearchResult) (lists left : List ℕ) : Type 0 where
  pub counts : r.counts ≡ counts_of (listed b (cutting d g))
  pub lists_left : lists ≡ both_listed b (listed b (cutting d g)) ranges
  pub dispositions : r.dispositions ≡ counts_by (walk_beside o l d g (listed b (cutting d g)))
  pub numbers_left : left ≡ put 0 (delivered_by (walk_beside o l d g (listed b (cutting d g)))) numbers
  pub few : r.dispositions.unchecked + r.dispositions.held + r.dispositions.discarded ≤ OwnerCapacity

abbrev pub SearchesRows : ℕ → List ℤ → ℕ → ℕ → List ℤ → ℕ → List ℕ → List ℕ → SearchResult → List ℕ → List ℕ → Type 0
SearchesRows o l d b rs n ranges numbers r lists left = (g : Region) → RowsOf g n rs → Searches o l d b g ranges numbers r lists left

abbrev pub FileIs : Header → List ℤ → Type 0
FileIs h rs = (f : List ℕ) × Decoded f h rs

abbrev pub delivery_of : DispositionCounts → Frames
delivery_of t = record { delivered = t.unchecked + t.held; tests = t.held + t.discarded }
