-- The calls for a host in C: a number instead of an answer. Document 01, 'What is sent back', 'Regions', 'The two lists'; document 02, F-10 to F-12.
-- A refusal is minus its number, and comes before any list is written. The call `lookup` and the identifier of a name give 0 instead: `lookup_for_c`
-- (Answers), `or_zero`. How an answer becomes a number, and a value the numbers of a list: htm_abi/specs/Values. The lengths of `name_answer` (mesh)
-- and `write_answer` (region) and the identifiers of `lookup` (mesh), `lookup_report` and `locate_line` (Answers) go by `number_for_c`, the point test by `held_for_c`.
--   corners_for_c i out, corners_after_c   the corners or the refusal, 11, then 10; the lent list afterwards (`corners_list`)
--   in_both n a list      what a call has to write, or its refusal; then 10 where the list lent for its numbers has fewer than n elements
--   read_for_c, rows_after_c, header_after_c     the reader's header; the lent list and the header's afterwards (`header_list`)
--   contents_for_c f header, contents_after_c  the file or its refusal, then 10; the lent list afterwards: what the file says without its rows (`contents_list`)
--   cover_for_c, cover_after_c, counts_after_c   the cover's counts; the lent list and the list of counts afterwards (`counts_list`)
--   entry_for_c i l out, entry_after_c         the entry at place i of the index l, that there is none, or the refusal; 10 where an entry needs more room (`entry_room`);
--                        the lent list afterwards (`entry_into`)
--   frames_for_c .., ranges_after_c, numbers_after_c, frames_after_c   the counts of frames and tests; the three lent lists afterwards; FramesCallC: the call's contract
-- The entry goes by `found_for_c`. The other calls on an index answer `status_of` and `number_for_c` of what its calls answer (index/specs/Answers).
use Rattle.std.specs.Prelude.{ℕ, ◌≡◌, List, [], ◌∷◌, length, ℤ}
use Rattle.answer.specs.Answer.{Answer, gives, then, with_value}
use Rattle.answer.specs.Lent.{put, stored, room}
use Rattle.mesh.specs.declared.Corners.{Corners}
use Rattle.mesh.specs.Identifiers.{corners}
use Rattle.region.specs.declared.Header.{Header}
use Rattle.region.specs.Building.{total}
use Rattle.region.specs.Reader.{File, read}
use Rattle.region.specs.Answers.{header_of, read_into, rows_into}
use Rattle.covering.specs.declared.Counts.{Counts}
use Rattle.covering.specs.Cover.{cover, counts_of, cover_counts, counts_list}
use Rattle.index.specs.Entries.{Width, numbers, Slot, found, nothing}
use Rattle.index.specs.Answers.{entry_answer}
use Rattle.frames.specs.declared.Frames.{Frames}
use Rattle.frames.specs.Walk.{delivered_by}
use Rattle.frames.specs.Answers.{frames_into, walk_of, frames_by, frames_list}
use Rattle.frames.specs.Answers as frames
use Rattle.htm_abi.specs.Values.{corners_list, header_list, status_of}
use Rattle.htm.specs.Answers.{cover_into, both_lists}

-- ---- corners

unfoldable pub corners_for_c : ℕ → List ℤ → Answer Corners
corners_for_c i out = then (corners i) (λ c. room 9 out c)

unfoldable pub corners_after_c : ℕ → List ℤ → List ℤ
corners_after_c i out = stored (λ c before. put 0 (corners_list c) before) (corners_for_c i out) out

-- ---- an entry of an index

abbrev pub entry_room : List ℤ → Slot → Answer Slot
entry_room out (found e) = room Width out (found e)
entry_room out nothing = gives nothing

abbrev pub entry_into : Slot → List ℤ → List ℤ
entry_into (found e) before = put 0 (numbers e) before
entry_into nothing before = before

unfoldable pub entry_for_c : ℕ → List ℤ → List ℤ → Answer Slot
entry_for_c i l out = then (entry_answer i l) (entry_room out)

unfoldable pub entry_after_c : ℕ → List ℤ → List ℤ → List ℤ
entry_after_c i l out = stored entry_into (entry_for_c i l out) out

-- ---- a file, with one lent list or two

abbrev pub in_both : ℕ → Answer File → List ℕ → Answer File
in_both n a list = then a (λ x. room n list x)

unfoldable pub read_for_c : List ℕ → List ℤ → List ℕ → Answer Header
read_for_c f rows header = with_value header_of (in_both 3 (read_into f rows) header)

unfoldable pub rows_after_c : List ℕ → List ℤ → List ℕ → List ℤ
rows_after_c f rows header = stored rows_into (in_both 3 (read_into f rows) header) rows

unfoldable pub header_after_c : List ℕ → List ℤ → List ℕ → List ℕ
header_after_c f rows header = stored (λ h before. put 0 (header_list h) before) (read_for_c f rows header) header

-- the counts of halfspaces and of convexes, with depth and budget as written between them
abbrev pub contents_list : File → List ℕ
contents_list x = total x.region ∷ x.depth ∷ x.budget ∷ length x.region ∷ []

unfoldable pub contents_for_c : List ℕ → List ℕ → Answer File
contents_for_c f header = in_both 4 (read f) header

unfoldable pub contents_after_c : List ℕ → List ℕ → List ℕ
contents_after_c f header = stored (λ x before. put 0 (contents_list x) before) (contents_for_c f header) header

unfoldable pub cover_for_c : List ℕ → List ℕ → List ℕ → Answer Counts
cover_for_c f out counts = with_value (λ x. counts_of (cover x)) (in_both cover_counts (cover_into f out) counts)

unfoldable pub cover_after_c : List ℕ → List ℕ → List ℕ → List ℕ
cover_after_c f out counts = stored both_lists (in_both cover_counts (cover_into f out) counts) out

unfoldable pub counts_after_c : List ℕ → List ℕ → List ℕ → List ℕ
counts_after_c f out counts = stored (λ c before. put 0 (counts_list c) before) (cover_for_c f out counts) counts

-- ---- the frames of a region, with three lent lists

abbrev pub frames_into_c : ℕ → List ℤ → List ℕ → List ℕ → List ℕ → List ℕ → Answer File
frames_into_c o l f ranges numbers counts = in_both frames.frame_counts (frames_into o l f ranges numbers) counts

unfoldable pub frames_for_c : ℕ → List ℤ → List ℕ → List ℕ → List ℕ → List ℕ → Answer Frames
frames_for_c o l f ranges numbers counts = with_value (λ x. frames_by (walk_of o l x)) (frames_into_c o l f ranges numbers counts)

unfoldable pub ranges_after_c : ℕ → List ℤ → List ℕ → List ℕ → List ℕ → List ℕ → List ℕ
ranges_after_c o l f ranges numbers counts = stored both_lists (frames_into_c o l f ranges numbers counts) ranges

unfoldable pub numbers_after_c : ℕ → List ℤ → List ℕ → List ℕ → List ℕ → List ℕ → List ℕ
numbers_after_c o l f ranges numbers counts = stored (λ x before. put 0 (delivered_by (walk_of o l x)) before) (frames_into_c o l f ranges numbers counts) numbers

unfoldable pub frames_after_c : ℕ → List ℤ → List ℕ → List ℕ → List ℕ → List ℕ → List ℕ
frames_after_c o l f ranges numbers counts = stored (λ r before. put 0 (frames_list r) before) (frames_for_c o l f ranges numbers counts) counts

-- the call gave the status and left the three lists, all by these definitions: its contract
pub record FramesCallC (o : ℕ) (l : List ℤ) (f ranges numbers counts : List ℕ) (status : ℤ) (lists left counted : List ℕ) : Type 0 where
  pub status_is : status ≡ status_of (frames_for_c o l f ranges numbers counts)
  pub ranges_left : lists ≡ ranges_after_c o l f ranges numbers counts
  pub numbers_left : left ≡ numbers_after_c o l f ranges numbers counts
  pub counts_left : counted ≡ frames_after_c o l f ranges numbers counts
