-- The calls for a host in C, by their checks in their order. Assumes nothing.
use Prim.Native.Nat.{ℕ, ◌-◌, ◌^◌, ◌≤◌, ◌<◌}
use native.Mathlib.Omega.{arith}
use mathlib.Core.Path.{◌≡◌, sym, ap, subst, ◌∙◌}
use mathlib.Core.List.{List, [], ◌∷◌, ◌++◌}
use lib.Dec.{leb}
use lib.ListN.{length}
use lib.IntN.{ℤ, pos, neg_ℤ}
use mir.Syntax.{w64}
use mir.Val.{to_z, of_z}
use borrow.Author.Tests.{le-leb, lt-leb}
use Rattle.algebra.proofs.Sizes.{Upto}
use Rattle.algebra.proofs.Sized.{held}
use Rattle.answer.specs.Answer.{Answer, refused, gives, check, then, with_value, Space, Name}
use Rattle.answer.specs.Lent.{put, stored, room}
use Rattle.answer.proofs.AnswerLaws.{check_gives, same_value, value_gives, value_refused}
use Rattle.answer.proofs.LentLaws.{room_gives}
use Rattle.mesh.specs.declared.Corners.{Corners}
use Rattle.mesh.specs.Identifiers.{depth_of, is_identifier, trixel, corners_of, corners}
use Rattle.mesh.specs.Names.{name_at, name_of}
use Rattle.mesh_trixels.specs.Corners.{SmallCorners}
use Rattle.mesh.specs.Answers.{name_answer}
use Rattle.mesh.proofs.NameLaws.{depth_high, digits_length}
use Rattle.mesh_trixels.proofs.SmallTrixels.{trixel_small}
use Rattle.region.specs.declared.Header.{Header}
use Rattle.region.specs.declared.Style.{Style}
use Rattle.region.specs.Reader.{File, read}
use Rattle.region.specs.Writer.{write_in}
use Rattle.region.specs.Converting.{in_style, convert}
use Rattle.region.specs.Answers.{header_of, read_into, read_answer, read_after, file_answer}
use Rattle.region.proofs.ReaderLaws.{accepted_short}
use Rattle.region.proofs.WriteBack.{write_back}
use Rattle.region.proofs.ConvertLaws.{converted}
use Rattle.region_reader.specs.Reading.{FilledRows}
use Rattle.covering_calls.specs.Decoded.{Decoded}
use Rattle.covering.specs.declared.Counts.{Counts}
use Rattle.covering.specs.Cover.{cover_counts, counts_list}
use Rattle.htm.specs.Answers.{cover_into, cover_answer, cover_after}
use Rattle.index.specs.declared.Entry.{Entry}
use Rattle.index.specs.Entries.{Width, numbers, Slot}
use Rattle.index.specs.Answers.{entry_answer}
use Rattle.htm_abi.specs.ShortLists.{file_refusal_or_space}
use Rattle.htm_abi.specs.Values.{found_for_c, status_of, corners_list, header_list}
use Rattle.htm.specs.CalledFromC.{entry_for_c, entry_after_c, corners_for_c, corners_after_c, read_for_c, rows_after_c, header_after_c, cover_for_c, cover_after_c, counts_after_c, in_both, contents_list, contents_for_c, contents_after_c}
use Rattle.htm.proofs.RoomLaws.{room_short, room_enough, refused_by, in-any-case}

-- ---- a refusal is sent as minus its number, which 64 bits hold

pub sent : {z : ℤ} {n m : ℕ} → (z ≡ neg_ℤ (pos n)) × Upto (2 ^ 32) z → n ≡ m → to_z w64 (of_z w64 z) ≡ neg_ℤ (pos m)
sent h e = (held h.1 tt).eq ∙ h.0 ∙ ap (λ k. neg_ℤ (pos k)) e

-- ---- lengths are small: 32 bytes a name, 10508 a file

-- what is given, of a list with room, is the length of what is written
room_written : (a : Answer (List ℕ)) (before : List ℕ) (n : ℕ) → with_value length (then a (λ s. room (length s) before s)) ≡ gives n → (s : List ℕ) × (a ≡ gives s) × (length s ≡ n)
room_written a before n e =
    let v = value_gives length (then a (λ s. room (length s) before s)) n e in
    (v.0, room_gives before length a v.0 v.1, v.2)

-- a name
pub name_short : (i : ℕ) (before : List ℕ) (n : ℕ) → name_answer i before ≡ gives n → n ≤ 32
unfolding name_answer name_of
name_short i before n e =
    let t = room_written (name_of i) before n e in
    let s = same_value (name_at (depth_of i) i) t.0 (check_gives Name (is_identifier i) (gives (name_at (depth_of i) i)) t.0 t.1) in
    omega (arith, t.2, ap length s, digits_length (depth_of i) i, depth_high i)

-- a file that is written
pub file_short : (s : Style) (d b : ℕ) (rs : List ℤ) (before : List ℕ) (n : ℕ) → file_answer (write_in s d b rs) before ≡ gives n → n ≤ 10508
unfolding file_answer
file_short s d b rs before n e =
    let t = room_written (write_in s d b rs) before n e in
    let w = write_back s d b rs t.0 t.1 in
    omega (arith, t.2, accepted_short t.0 _ w.2.1)

-- a file that is converted
pub converted_short : (s : Style) (f before : List ℕ) (n : ℕ) → file_answer (convert s f) before ≡ gives n → n ≤ 10508
unfolding file_answer convert
converted_short s f before n e =
    let t = room_written (convert s f) before n e in
    let x = value_gives (in_style s f) (read f) t.0 t.1 in
    omega (arith, t.2, accepted_short t.0 x.0 ((converted s f t.0 t.1).1 ∙ x.1))

-- ---- an entry of an index

module _ (i : ℕ) (l out : List ℤ) where
  -- what the call answers, and the lent list afterwards
  abbrev Enters : ℤ → List ℤ → Type 0
  Enters number after = (number ≡ found_for_c (entry_for_c i l out)) × (after ≡ entry_after_c i l out)

  -- the index's own refusal
  pub entry_refused : (n : ℕ) → refused n ≡ entry_answer i l → Enters (found_for_c (refused n)) out
  unfolding entry_for_c entry_after_c
  entry_refused n e = (cc, cc)

  -- no entry there: nothing is written
  pub no_entry : gives Slot.nothing ≡ entry_answer i l → Enters (pos 0) out
  unfolding entry_for_c entry_after_c
  no_entry e = (cc, cc)

  module _ (x : Entry) (e : gives (Slot.found x) ≡ entry_answer i l) where
    -- an entry, and too short a list: 10
    pub no_entry_room : length out < Width → Enters (found_for_c (refused Space)) out
    unfolding entry_for_c entry_after_c
    no_entry_room h = let short = room_short Width out h (gives (Slot.found x)) in (cc, cc)

    -- an entry, and a list that is long enough
    pub entry_put : Width ≤ length out → Enters (pos 1) (put 0 (numbers x) out)
    unfolding entry_for_c entry_after_c
    entry_put h = let enough = room_enough Width out h (gives (Slot.found x)) in (cc, cc)

-- ---- corners

-- the corners' components are small
pub corners_small : (i : ℕ) (c : Corners) → gives c ≡ corners i → SmallCorners c
unfolding corners
corners_small i c e =
    let a = gives (corners_of (trixel (depth_of i - 1) i)) in
    let s = same_value (corners_of (trixel (depth_of i - 1) i)) c (check_gives Name (leb (depth_of i) 12) a c (check_gives Name (is_identifier i) (check Name (leb (depth_of i) 12) a) c (sym e))) in
    let t = trixel_small (depth_of i - 1) i in
    subst SmallCorners s (record { v0 = t.v0; v1 = t.v1; v2 = t.v2 })

module _ (i : ℕ) (out : List ℤ) where
  -- what the call answers, and the lent list afterwards
  abbrev Cornered : ℤ → List ℤ → Type 0
  Cornered status after = (status ≡ status_of (corners_for_c i out)) × (after ≡ corners_after_c i out)

  -- no identifier: the refusal
  pub no_corners : (n : ℕ) → refused n ≡ corners i → Cornered (status_of {A = Corners} (refused n)) out
  unfolding corners_for_c corners_after_c
  no_corners n e = (cc, cc)

  module _ (c : Corners) (e : gives c ≡ corners i) where
    -- too short a list: 10
    pub no_room : length out < 9 → Cornered (status_of {A = Corners} (refused Space)) out
    unfolding corners_for_c corners_after_c
    no_room h = let short = room_short 9 out h (gives c) in (cc, cc)

    -- a list that is long enough
    pub corners_put : 9 ≤ length out → Cornered (status_of (gives c)) (put 0 (corners_list c) out)
    unfolding corners_for_c corners_after_c
    corners_put h = let enough = room_enough 9 out h (gives c) in (cc, cc)

-- ---- a file, with two lent lists: the second takes the numbers of the value

module _ (f : List ℕ) (rs : List ℤ) (header : List ℕ) where
  -- what the call answers, and both lists afterwards
  abbrev pub Reads : ℤ → List ℤ → List ℕ → Type 0
  Reads status xs ns = (status ≡ status_of (read_for_c f rs header)) × ((xs ≡ rows_after_c f rs header) × (ns ≡ header_after_c f rs header))

  -- too short a list for the header: the file's refusal, or 10
  pub short_header : length header < 3 → (n : ℕ) → file_refusal_or_space f ≡ refused n → Reads (status_of {A = File} (refused n)) rs header
  unfolding read_for_c rows_after_c header_after_c
  short_header h n e =
      let both = refused_by 3 header h (read_into f rs) (file_refusal_or_space f) (simp in-any-case) in
      let refuses = both.by_call in
      let by_checks = both.by_checks in
      (cc, (cc, cc))

  -- long enough: as the reader of the crate
  pub reads : 3 ≤ length header → (a : Answer Header) (xs : List ℤ) → a ≡ read_answer f rs → xs ≡ read_after f rs → Reads (status_of a) xs (stored (λ v l. put 0 (header_list v) l) a header)
  unfolding read_for_c rows_after_c header_after_c read_answer read_after
  reads h a xs e g = let enough = room_enough 3 header h (read_into f rs) in (cc, (cc, cc))

-- ---- a file without its rows

module _ (f header : List ℕ) where
  abbrev Says : ℤ → List ℕ → Type 0
  Says status ns = (status ≡ status_of (contents_for_c f header)) × (ns ≡ contents_after_c f header)

  says : (a : Answer File) → contents_for_c f header ≡ a → Says (status_of a) (stored (λ x before. put 0 (contents_list x) before) a header)
  unfolding contents_after_c
  says a e = (ap status_of (sym e), ap (λ b. stored (λ x before. put 0 (contents_list x) before) b header) (sym e))

  contents_into : (a : Answer File) → read f ≡ a → contents_for_c f header ≡ in_both 4 a header
  unfolding contents_for_c
  contents_into a e = ap (λ b. in_both 4 b header) e

  pub no_contents : (n : ℕ) → refused n ≡ with_value header_of (read f) → Says (status_of {A = File} (refused n)) header
  no_contents n e = says (refused n) (contents_into (refused n) (value_refused header_of (read f) n (sym e)))

  module _ (x : File) (e : read f ≡ gives x) where
    pub no_contents_room : length header < 4 → Says (status_of {A = File} (refused Space)) header
    no_contents_room h = says (refused Space) (contents_into (gives x) e ∙ ap (λ t. check Space t (gives x)) (lt-leb 4 (length header) h))

    pub contents_put : 4 ≤ length header → Says (pos 0) (put 0 (contents_list x) header)
    contents_put h = says (gives x) (contents_into (gives x) e ∙ ap (λ t. check Space t (gives x)) (le-leb 4 (length header) h))

-- the file was decoded: its header is h, and its rows stand at the beginning of the array rs
module _ {f : List ℕ} {h : Header} {rs : List ℤ} (k : Decoded f h rs) where
  pub filled_rows : FilledRows k.file.region h.count rs
  filled_rows =
      let r = k.rows in
      record { count = r.count; most = r.most; some = r.some; few = r.few; filled = r.filled; more = r.more; list = r.list }

  pub contents_left : (header : List ℕ) {after : List ℕ} {n : ℕ} → n ≡ length k.file.region → after ≡ put 0 (header_list h ++ n ∷ []) header
      → after ≡ put 0 (contents_list k.file) header
  contents_left header e q = q ∙ (λ i. put 0 (header_list (sym k.header i) ++ e i ∷ []) header)

-- ---- the cover, with two lent lists

module _ (f out counts : List ℕ) where
  -- what the call answers, and both lists afterwards
  abbrev pub Covers : ℤ → List ℕ → List ℕ → Type 0
  Covers status xs ns = (status ≡ status_of (cover_for_c f out counts)) × ((xs ≡ cover_after_c f out counts) × (ns ≡ counts_after_c f out counts))

  -- too short a list for the counts: the file's refusal, or 10
  pub short_counts : length counts < cover_counts → (n : ℕ) → file_refusal_or_space f ≡ refused n → Covers (status_of {A = File} (refused n)) out counts
  unfolding cover_for_c cover_after_c counts_after_c
  short_counts h n e =
      let both = refused_by cover_counts counts h (cover_into f out) (file_refusal_or_space f) (simp in-any-case) in
      let refuses = both.by_call in
      let by_checks = both.by_checks in
      (cc, (cc, cc))

  -- long enough: as the cover of the crate
  pub covers : cover_counts ≤ length counts → (a : Answer Counts) (xs : List ℕ) → a ≡ cover_answer f out → xs ≡ cover_after f out → Covers (status_of a) xs (stored (λ v l. put 0 (counts_list v) l) a counts)
  unfolding cover_for_c cover_after_c counts_after_c cover_answer cover_after
  covers h a xs e g = let enough = room_enough cover_counts counts h (cover_into f out) in (cc, (cc, cc))
