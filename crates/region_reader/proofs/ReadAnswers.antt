-- The file as a whole: its length, its header, its records. And the reader's answer: where the lent list is long enough for the rows, it is what the file says,
-- and the rows stand at the list's beginning. Assumes nothing.
use Prim.Native.Nat.{ℕ, ◌+◌, ◌*◌, ◌≤◌, ◌<◌}
use native.Mathlib.Omega.{arith}
use mathlib.Core.Path.{◌≡◌, sym, ap, ◌∙◌}
use mathlib.Core.Bool.{Bool, true, false}
use mathlib.Core.List.{List}
use lib.Dec.{leb}
use lib.ListN.{length, take, drop}
use lib.Seq.{take_at}
use lib.IntN.{ℤ}
use borrow.Author.Tests.{le-leb, lt-leb}
use Rattle.answer.specs.Answer.{Answer, refused, gives, check, then, with_value, Long, Space}
use Rattle.answer.specs.Lent.{put, stored, room}
use Rattle.answer.proofs.AnswerLaws.{refused_gives, value_gives, value_refused}
use Rattle.region.specs.declared.Header.{Header}
use Rattle.region.specs.declared.Record.{Record}
use Rattle.region.specs.declared.Style.{Style}
use Rattle.region.specs.Building.{total}
use Rattle.region.specs.Records.{Styles}
use Rattle.region.specs.Rows.{rows}
use Rattle.region.specs.Reader.{File, after, header, records_in, read, Accepted, style_of}
use Rattle.region.specs.Answers.{header_of, rows_into, read_into, read_answer, read_after}
use Rattle.region.proofs.RegionLaws.{rows_length}
use Rattle.region.proofs.ReaderLaws.{Begins, header_read, header_says}
use Rattle.region.proofs.StyleLaws.{in_style_law}
use Rattle.region.proofs.RowsBack.{accepted_within_limits}
use Rattle.region_reader.specs.Reading.{headed_file, records_after, RowsGiven}
use Rattle.region_records.specs.declared.Settings.{Settings}
use Rattle.region_records.specs.Headers.{settings_of}
use Rattle.region_records.proofs.FrameLaws.{header_length, header_whole}

-- ---- the file

-- an answer, and the rows where it gives a file
abbrev Said : List ℕ → Answer Header → List ℤ → List ℤ → Type 0
Said f a before rs = (a ≡ with_value header_of (read f)) × RowsGiven (read f) before rs

module _ (f : List ℕ) where
  -- the records, all of the file's own style
  abbrev records : File → Answer File
  records x = records_in (Styles.only (style_of f)) (length f) x (after f)

  read_is : (b : Bool) → leb (length f) 10508 ≡ b → read f ≡ check Long b (then (header f) records)
  read_is b e = in_style_law f ∙ ap (λ t. check Long t (then (header f) records)) e

  refused_said : (n : ℕ) (before rs : List ℤ) → read f ≡ refused n → Said f (refused n) before rs
  refused_said n before rs e = (ap (with_value header_of) (sym e), λ x q. refused_gives n x (sym e ∙ q))

  pub long_said : (before rs : List ℤ) → 10508 < length f → Said f (refused Long) before rs
  long_said before rs h = refused_said Long before rs (read_is false (lt-leb (length f) 10508 h))

  module _ (h : length f ≤ 10508) where
    pub header_refused : (n : ℕ) (before rs : List ℤ) → refused n ≡ with_value settings_of (header f) → Said f (refused n) before rs
    header_refused n before rs e =
        refused_said n before rs
        (read_is true (le-leb (length f) 10508 h) ∙ ap (λ a. then a records) (value_refused settings_of (header f) n (sym e)))

    module _ (d : Settings) (e : gives d ≡ with_value settings_of (header f)) where
      first : (x : File) × (header f ≡ gives x) × (settings_of x ≡ d)
      first = value_gives settings_of (header f) d (sym e)

      pub header_begins : Begins f Record.Header
      header_begins = (header_read f first.0 first.1).0

      pub header_bytes_law : 8 ≤ length f
      header_bytes_law = header_whole f first.0 first.1

      is_header : first.0 ≡ headed_file d
      is_header =
          let x = first.0 in
          λ i. record { depth = (first.2 i).depth; budget = (first.2 i).budget; region = (header_says f x first.1).region i }

      module _ (t : Style) (q : t ≡ style_of f) where
        read_records : read f ≡ records_after t d f
        read_records =
            read_is true (le-leb (length f) 10508 h)
            ∙ ap (λ a. then a records) first.1
            ∙ (λ i. records_in (Styles.only (sym q i)) (length f) (is_header i) (drop (header_length f first.0 first.1 i) f))

        pub records_said : (a : Answer Header) (before rs : List ℤ) → a ≡ with_value header_of (records_after t d f)
            → RowsGiven (records_after t d f) before rs → Said f a before rs
        records_said a before rs e k = (e ∙ ap (with_value header_of) (sym read_records), λ x p. k x (sym read_records ∙ p))

-- ---- an accepted file has at most 512 halfspaces

pub accepted_total : (f : List ℕ) (x : File) → Accepted f x → total x.region ≤ 512
accepted_total f x e = (accepted_within_limits f x e).halfspaces

-- ---- the reader's answer

module _ (f : List ℕ) (before : List ℤ) where
  into : (a : Answer File) → read f ≡ a → read_into f before ≡ then a (λ x. room (length (rows x.region)) before x)
  into a e = ap (λ b. then b (λ x. room (length (rows x.region)) before x)) e

  answered : (a : Answer File) → read_into f before ≡ a → (with_value header_of a ≡ read_answer f before) × (stored rows_into a before ≡ read_after f before)
  unfolding read_answer read_after
  answered a e = (ap (with_value header_of) (sym e), ap (λ b. stored rows_into b before) (sym e))

  pub file_refused : (n : ℕ) → refused n ≡ with_value header_of (read f) → (refused n ≡ read_answer f before) × (before ≡ read_after f before)
  file_refused n e = answered (refused n) (into (refused n) (value_refused header_of (read f) n (sym e)))

  module _ (d : Header) (e : gives d ≡ with_value header_of (read f)) where
    accepted : (x : File) × (read f ≡ gives x) × (header_of x ≡ d)
    accepted = value_gives header_of (read f) d (sym e)

    count : length (rows accepted.0.region) ≡ 5 * d.count
    count = rows_length accepted.0.region ∙ ap (λ z. 5 * z.count) accepted.2

    pub no_room : length before < 5 * d.count → (refused Space ≡ read_answer f before) × (before ≡ read_after f before)
    no_room h =
        let x = accepted.0 in
        answered (refused Space) (into (gives x) accepted.1 ∙ ap (λ t. check Space t (gives x)) (lt-leb (length (rows x.region)) (length before) (omega (arith, count))))

    pub count_most : 5 * d.count ≤ 2560
    count_most = omega (arith, accepted_total f accepted.0 accepted.1, ap (λ z. z.count) accepted.2)

    -- `decoded` is the array that the file was decoded to
    pub rows_read : (zeros decoded : List ℤ) → ((x : File) → read f ≡ gives x → decoded ≡ put 0 (rows x.region) zeros)
        → 5 * d.count ≤ length before → (rs : List ℤ) → rs ≡ put 0 (take (5 * d.count) decoded) before
        → (gives d ≡ read_answer f before) × (rs ≡ read_after f before)
    rows_read zeros decoded w h rs q =
        let x = accepted.0 in
        let r = rows x.region in
        let a = answered (gives x) (into (gives x) accepted.1 ∙ ap (λ t. check Space t (gives x)) (le-leb (length r) (length before) (omega (arith, count)))) in
        let t : take (5 * d.count) decoded ≡ r = ap (take (5 * d.count)) (w x accepted.1) ∙ take_at r (drop (0 + length r) zeros) (5 * d.count) count in
        (ap gives (sym accepted.2) ∙ a.0, q ∙ ap (λ l. put 0 l before) t ∙ a.1)
