-- What the parts of the reader give, in the terms of region/specs/Reader (document 01, 'Regions'; document 02, F-7): the contracts of the functions below the
-- reader.
--   Step                    what comes after a record: the next one's state, or after the end the count of the rows
--   state_of at g           the reader's state: its position, and the size of the region g read so far
--   step_given next a       the state at the next record with the size that a gives, or its refusal
--   step_of end next a      what comes after a record with the answer a, where the next record begins at `next`; `end`: it is the end record
--   region_size_after a      the size of the region that a gives, or its refusal
--   StandsFor before g k rs   the size k and the array rs stand for the region g: k is its size, and rs is `before` with its rows at the beginning
--   SizeAfter ..           size and array after a convex or halfspaces, by their answer
--   RecordAfter ..         step and array after a record, by the record's answer
--   SizeAfterBy f          SizeAfter by the answer of f, for every file whose region size and array stand for; RecordAfterBy f: RecordAfter likewise
--   group_of payload        the halfspaces of a payload of kind 5, 16 bytes each
use Rattle.std.specs.Prelude.{ℕ, ◌/◌, ◌≡◌, Bool, true, false, List, length, ℤ}
use Rattle.std.specs.declared.ops.ControlFlow.{ControlFlow}
use Rattle.std.specs.declared.ops.ControlFlow.TheVariants.{Continue, Break}
use Rattle.answer.specs.Answer.{Answer, gives, with_value}
use Rattle.answer.specs.Lent.{put}
use Rattle.region.specs.Regions.{Convex, Region}
use Rattle.region.specs.Building.{total}
use Rattle.region.specs.Rows.{rows}
use Rattle.region.specs.Reader.{File, halfspaces_of}
use Rattle.region_rows.specs.declared.counts.RegionSize.{RegionSize}
use Rattle.region_rows.specs.RegionSizes.{region_size}
use Rattle.region_payloads.specs.declared.State.{State}

abbrev pub Step : Type 0
Step = ControlFlow ℕ State

abbrev pub state_of : ℕ → Region → State
state_of at g = record { at = at; counts = region_size g }

abbrev pub step_given : ℕ → Answer RegionSize → Answer Step
step_given next a = with_value (λ k. Continue (record { at = next; counts = k })) a

-- the count of the rows, or the state at the next record
abbrev pub step_at : Bool → ℕ → Region → Step
step_at true next g = Break (total g)
step_at false next g = Continue (state_of next g)

abbrev pub step_of : Bool → ℕ → Answer File → Answer Step
step_of end next a = with_value (λ y. step_at end next y.region) a

abbrev pub region_size_after : Answer File → Answer RegionSize
region_size_after a = with_value (λ y. region_size y.region) a

pub record StandsFor (before : List ℤ) (g : Region) (k : RegionSize) (rs : List ℤ) : Type 0 where
  pub counts : k ≡ region_size g
  pub rows : rs ≡ put 0 (rows g) before

pub record SizeAfter (before : List ℤ) (a : Answer File) (c : Answer RegionSize) (rs : List ℤ) : Type 0 where
  pub counts : c ≡ region_size_after a
  pub rows : (y : File) → a ≡ gives y → rs ≡ put 0 (rows y.region) before

pub record RecordAfter (before : List ℤ) (end : Bool) (next : ℕ) (a : Answer File) (o : Answer Step) (rs : List ℤ) : Type 0 where
  pub step : o ≡ step_of end next a
  pub rows : (y : File) → a ≡ gives y → rs ≡ put 0 (rows y.region) before

abbrev pub SizeAfterBy : (File → Answer File) → RegionSize → List ℤ → Answer RegionSize → List ℤ → Type 0
SizeAfterBy f k rs c rs' = (x : File) (before : List ℤ) → StandsFor before x.region k rs → SizeAfter before (f x) c rs'

abbrev pub RecordAfterBy : (File → Answer File) → RegionSize → ℕ → List ℤ → Answer Step → List ℤ → Type 0
RecordAfterBy f k next rs o rs' = (x : File) (before : List ℤ) → StandsFor before x.region k rs → RecordAfter before false next (f x) o rs'

abbrev pub group_of : List ℕ → Convex
group_of payload = halfspaces_of (length payload / 16) payload
