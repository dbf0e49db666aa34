-- `htm::index_from_c::htm_frames` checks that there is room for the counts, and delivers. Assumes nothing.
use Prim.Native.Nat.{◌≤◌}
use native.Mathlib.Omega.{arith}
use mathlib.Core.Path.{sym, ap, ◌∙◌}
use lib.ListN.{length}
use Rattle.answer.specs.Calls.{answer_of}
use Rattle.frames.specs.Answers.{frame_counts}
use Rattle.htm.proofs.CLaws.{sent}
use Rattle.htm.proofs.FramesCLaws.{short_frames, long_frames}
use Rattle.htm.proofs.index_from_c.htm_frames.Goals as goal
use Rattle.htm.proofs.index_from_c.htm_frames.Goals.{Else-counts-lt-FRAME_COUNTS}

-- there is room for the counts
room : (c : Else-counts-lt-FRAME_COUNTS) → frame_counts ≤ length c.args.counts.now
room c = omega (arith, c.if-counts-lt-FRAME_COUNTS.false)

pub returns-then-counts-lt-FRAME_COUNTS : goal.returns-then-counts-lt-FRAME_COUNTS
returns-then-counts-lt-FRAME_COUNTS c =
    let a = c.args in
    let k = short_frames a.owner a.index.now a.file.now a.ranges.now a.numbers.now a.counts.now (omega (arith, c.if-counts-lt-FRAME_COUNTS.true)) _ c.owner_refusal_or_space.ensures in
    record { status_is = sent c.minus.ensures c.number.ensures ∙ k.status_is; ranges_left = k.ranges_left; numbers_left = k.numbers_left; counts_left = k.counts_left }

pub returns-in-Ok : goal.returns-in-Ok
returns-in-Ok c =
    let a = c.args in
    let k = long_frames a.owner a.index.now a.file.now a.ranges.now a.numbers.now a.counts.now (room (goal.at.returns-in-Ok c).Else-counts-lt-FRAME_COUNTS) _ _ _
    (sym (ap answer_of c.in-Ok.is) ∙ c.frames.ensures.answer) c.frames.ensures.lists_left c.frames.ensures.numbers_left in
    record { status_is = k.status_is; ranges_left = k.ranges_left; numbers_left = k.numbers_left; counts_left = c.put_frames.ensures ∙ k.counts_left }

pub returns-in-Err : goal.returns-in-Err
returns-in-Err c =
    let a = c.args in
    let k = long_frames a.owner a.index.now a.file.now a.ranges.now a.numbers.now a.counts.now (room (goal.at.returns-in-Err c).Else-counts-lt-FRAME_COUNTS) _ _ _
    (sym (ap answer_of c.in-Err.is) ∙ c.frames.ensures.answer) c.frames.ensures.lists_left c.frames.ensures.numbers_left in
    record { status_is = sent c.minus-in-Err.ensures c.number-in-Err.ensures ∙ k.status_is; ranges_left = k.ranges_left; numbers_left = k.numbers_left; counts_left = k.counts_left }
