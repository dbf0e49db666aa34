-- The frame of a record: its length, and what it is. Document 01, 'Regions'.
--   frame_of rest           the length of the record that `rest` begins with and what it is, or the refusal 2 or 3
use Rattle.std.specs.Prelude.{ℕ, List}
use Rattle.answer.specs.Answer.{Answer, with_value}
use Rattle.region.specs.declared.Record.{Record}
use Rattle.region.specs.Reader.{length_of, record_at}
use Rattle.region_records.specs.declared.Frame.{Frame}

abbrev pub framed : ℕ → Record → Frame
framed len r = record { len = len; «record» = r }

abbrev pub frame_by : ℕ → Answer Record → Answer Frame
frame_by len a = with_value (framed len) a

abbrev pub frame_of : List ℕ → Answer Frame
frame_of rest = frame_by (length_of rest) (record_at rest)
