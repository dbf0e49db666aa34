-- The frames of a region for a host in C, by their checks in their order: where the list of counts is too short the call refuses in any case, by the owner, the
-- file or 10, and nothing is stored; else it answers as the call of the crate does. Assumes nothing.
use Prim.Native.Nat.{ℕ, ◌≤◌, ◌<◌}
use mathlib.Core.Path.{◌≡◌}
use mathlib.Core.List.{List}
use lib.ListN.{length}
use lib.IntN.{ℤ}
use Rattle.answer.specs.Answer.{Answer, refused, check, Owner}
use Rattle.answer.specs.Lent.{put, stored}
use Rattle.region.specs.Reader.{File}
use Rattle.index.specs.Exposures.{is_owner}
use Rattle.frames.specs.declared.Frames.{Frames}
use Rattle.frames.specs.Answers.{frames_into, frames_list, frame_counts, frames_answer, ranges_after, numbers_after}
use Rattle.htm_abi.specs.ShortLists.{file_refusal_or_space}
use Rattle.htm_abi.specs.Values.{status_of}
use Rattle.htm.specs.CalledFromC.{frames_for_c, ranges_after_c, numbers_after_c, frames_after_c, FramesCallC}
use Rattle.htm.proofs.RoomLaws.{room_enough, refused_by, in-any-case}

module _ (o : ℕ) (l : List ℤ) (f ranges numbers counts : List ℕ) where
  -- too short a list for the counts: the refusal of the owner or the file, or 10
  pub short_frames : length counts < frame_counts → (n : ℕ) → check Owner (is_owner o) (file_refusal_or_space f) ≡ refused n
      → FramesCallC o l f ranges numbers counts (status_of {A = File} (refused n)) ranges numbers counts
  unfolding frames_for_c ranges_after_c numbers_after_c frames_after_c
  short_frames h n e =
      let both = refused_by frame_counts counts h (frames_into o l f ranges numbers) (check Owner (is_owner o) (file_refusal_or_space f)) (simp in-any-case) in
      let refuses = both.by_call in
      let by_checks = both.by_checks in
      record { status_is = cc; ranges_left = cc; numbers_left = cc; counts_left = cc }

  -- long enough: as the call of the crate
  pub long_frames : frame_counts ≤ length counts
      → (a : Answer Frames) (xs ns : List ℕ) → a ≡ frames_answer o l f ranges numbers → xs ≡ ranges_after o l f ranges numbers → ns ≡ numbers_after o l f ranges numbers
      → FramesCallC o l f ranges numbers counts (status_of a) xs ns (stored (λ r before. put 0 (frames_list r) before) a counts)
  unfolding frames_for_c ranges_after_c numbers_after_c frames_after_c frames_answer ranges_after numbers_after
  long_frames h a xs ns e g k =
      let enough = room_enough frame_counts counts h (frames_into o l f ranges numbers) in
      record { status_is = cc; ranges_left = cc; numbers_left = cc; counts_left = cc }
