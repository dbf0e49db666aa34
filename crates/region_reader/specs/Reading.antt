-- What a pass over the records gives, in the terms of region/specs/Reader (document 01, 'Regions'; document 02, F-7). `StandsFor` and `RecordAfter` stand in
-- region_payloads/specs/Payloads.
--   RecordStep ..          step and array after the next record of a file of the style t, for every region that state and array stand for
--   records_after t h f     the records of the file f, of the style t, after its header, which has the settings h
--   RowsGiven a before rs  the array after a pass with the answer a: `before` with the rows of the file that a gives at the beginning
--   FilledRows g n rs      the array begins with the n rows of the region g, of 1 to 64 convexes, each with a halfspace
use Rattle.std.specs.Prelude.{ℕ, ◌+◌, ◌≤◌, ◌<◌, ◌≡◌, List, [], ◌++◌, eqb, length, drop, ℤ}
use Rattle.answer.specs.Answer.{Answer, gives}
use Rattle.answer.specs.Lent.{put}
use Rattle.region.specs.declared.Style.{Style}
use Rattle.region.specs.Regions.{Region}
use Rattle.region.specs.Building.{total}
use Rattle.region.specs.Rows.{rows}
use Rattle.region.specs.Records.{Styles}
use Rattle.region.specs.Reader.{File, length_of, kind_of, record_in, records_in}
use Rattle.region.proofs.FilledLaws.{Filled}
use Rattle.region_records.specs.declared.Settings.{Settings}
use Rattle.region_payloads.specs.declared.State.{State}
use Rattle.region_payloads.specs.Payloads.{Step, StandsFor, RecordAfter}

abbrev pub RecordStep : Style → List ℕ → State → List ℤ → Answer Step → List ℤ → Type 0
RecordStep t f s rs o rs' = (x : File) (before : List ℤ) → StandsFor before x.region s.counts rs
    → RecordAfter before (eqb (kind_of (drop s.at f)) 4) (s.at + length_of (drop s.at f)) (record_in (Styles.only t) x (drop s.at f)) o rs'

-- the header's 8 bytes are read: depth and budget, and no region yet
abbrev pub headed_file : Settings → File
headed_file h = record { depth = h.depth; budget = h.budget; region = [] }

abbrev pub records_after : Style → Settings → List ℕ → Answer File
records_after t h f = records_in (Styles.only t) (length f) (headed_file h) (drop 8 f)

abbrev pub RowsGiven : Answer File → List ℤ → List ℤ → Type 0
RowsGiven a before rs = (x : File) → a ≡ gives x → rs ≡ put 0 (rows x.region) before

pub record FilledRows (g : Region) (n : ℕ) (rs : List ℤ) : Type 0 where
  pub count : n ≡ total g
  pub most : n ≤ 512
  pub some : 0 < length g
  pub few : length g ≤ 64
  pub filled : Filled g
  pub more : List ℤ
  pub list : rs ≡ rows g ++ more
