-- A record's length and kind, where they stand in the file: the checks 2 and 3, and what a record gives once they have passed.
-- Reading byte k of what is left is reading byte `at + k` of the file. Assumes nothing.
use Prim.Native.Nat.{ℕ, ◌+◌, ◌*◌, ◌-◌, ◌≤◌}
use native.Mathlib.Nat.{add-zero}
use native.Mathlib.Omega.{arith}
use mathlib.Core.Path.{◌≡◌, refl, sym, ap, ◌∙◌}
use mathlib.Core.Bool.{Bool, true, false, cond, ◌&&◌}
use mathlib.Core.List.{List, [], ◌∷◌}
use lib.Dec.{leb, eqb}
use lib.ListN.{length, take, drop, get_or, length-drop}
use lib.Seq.{get_or-drop, drop-drop}
use borrow.Author.Tests.{leb-true}
use Rattle.algebra.proofs.Tests.{and_left, and_right}
use Rattle.std.specs.Prelude.{Option, Some, None, ok_or, option_map}
use Rattle.std.specs.List.{find}
use Rattle.answer.specs.declared.Refusal.{Refusal}
use Rattle.answer.specs.Calls.{answer_of}
use Rattle.answer.specs.Answer.{Answer, refused, gives, check, then, Torn, Order, Mixed}
use Rattle.answer.proofs.AnswerLaws.{value_gives, value_refused}
use Rattle.region.specs.declared.Record.{Record}
use Rattle.region.specs.Bytes.{word}
use Rattle.region.specs.Records.{kind, is, first_of, record_of, Styles, fits}
use Rattle.region.specs.Reader.{File, length_of, kind_of, payload, after, whole, record_at, header_in, header, part_in, record_in}
use Rattle.region.proofs.ReaderLaws.{Begins, begins, header_read}
use Rattle.region_records.specs.declared.Frame.{Frame}
use Rattle.region_records.specs.Frames.{framed, frame_by, frame_of}

-- ---- the file from a position on

module _ (f : List ℕ) (at : ℕ) where
  word_at : (k : ℕ) → word (drop at f) k ≡ word f (at + k)
  word_at k =
      let e : at + (k + 1) ≡ at + k + 1 = omega arith in
      λ i. get_or-drop at f k 0 i + 256 * (get_or-drop at f (k + 1) 0 ∙ ap (λ n. get_or f n 0) e) i

  pub length_at : length_of (drop at f) ≡ word f at
  length_at = word_at 0 ∙ ap (word f) (add-zero at)

  pub kind_at : kind_of (drop at f) ≡ word f (at + 2)
  kind_at = word_at 2

  pub payload_at : (len : ℕ) → len ≡ length_of (drop at f) → take (at + len - (at + 4)) (drop (at + 4) f) ≡ payload (drop at f)
  payload_at len e =
      let n : at + len - (at + 4) ≡ length_of (drop at f) - 4 = omega arith in
      λ i. take (n i) (sym (drop-drop 4 at f) i)

  pub after_at : after (drop at f) ≡ drop (at + length_of (drop at f)) f
  after_at = drop-drop (length_of (drop at f)) at f

-- ---- 2

-- four bytes are left, the length is four or more, and not past the end
pub record Whole (rest : List ℕ) : Type 0 where
  pub four : 4 ≤ length rest
  pub low : 4 ≤ length_of rest
  pub high : length_of rest ≤ length rest

pub whole_says : (rest : List ℕ) → whole rest ≡ true → Whole rest
whole_says rest w =
    let t = and_right (leb 4 (length rest)) (leb 4 (length_of rest) && leb (length_of rest) (length rest)) w in
    record {
      four = leb-true 4 (length rest) (and_left (leb 4 (length rest)) _ w);
      low = leb-true 4 (length_of rest) (and_left (leb 4 (length_of rest)) (leb (length_of rest) (length rest)) t);
      high = leb-true (length_of rest) (length rest) (and_right (leb 4 (length_of rest)) (leb (length_of rest) (length rest)) t);
    }

module _ (f : List ℕ) (at : ℕ) where
  pub whole_left : whole (drop at f) ≡ true → 4 ≤ length f - at
  whole_left w = omega (arith, whole_says (drop at f) w, length-drop at f)

  pub whole_least : whole (drop at f) ≡ true → 4 ≤ word f at
  whole_least w = omega (arith, (whole_says (drop at f) w).low, length_at f at)

-- ---- 3

-- the first of some records that passes is the rule's first of them, and where there is none the refusal is 3
module _ (n len : ℕ) where
  by_test : (r : Record) (rs : List Record) (t : Bool) → is n len r ≡ t → answer_of (ok_or (find (is n len) rs) Refusal.Kind) ≡ first_of n len rs
      → answer_of (ok_or (cond t (Some r) (find (is n len) rs)) Refusal.Kind) ≡ cond t (gives r) (first_of n len rs)
  by_test r rs true e f = refl
  by_test r rs false e f = f

  first_is : (rs : List Record) → answer_of (ok_or (find (is n len) rs) Refusal.Kind) ≡ first_of n len rs
  first_is [] = refl
  first_is (r ∷ rs) = by_test r rs (is n len r) refl (first_is rs)

  same_option : (o : Option Record) → option_map (λ r. r) o ≡ o
  same_option None = refl
  same_option (Some r) = refl

  pub first_found : (rs : List Record) (o : Option Record) → option_map (λ r. r) o ≡ find (is n len) rs → answer_of (ok_or o Refusal.Kind) ≡ first_of n len rs
  first_found rs o e = ap (λ o. answer_of (ok_or o Refusal.Kind)) (sym (same_option o) ∙ e) ∙ first_is rs

-- ---- the frame

pub frame_torn : (rest : List ℕ) → whole rest ≡ false → refused Torn ≡ frame_of rest
frame_torn rest e = ap (λ w. frame_by (length_of rest) (check Torn w (record_of (kind_of rest) (length_of rest)))) (sym e)

pub frame_is : (f : List ℕ) (at len kind : ℕ) → len ≡ word f at → kind ≡ word f (at + 2) → whole (drop at f) ≡ true
    → (a : Answer Record) → a ≡ record_of kind len → frame_by len a ≡ frame_of (drop at f)
frame_is f at len kind el ek w a e =
    let rest = drop at f in
    let l : len ≡ length_of rest = el ∙ sym (length_at f at) in
    let k : kind ≡ kind_of rest = ek ∙ sym (kind_at f at) in
    (λ i. frame_by (l i) ((e ∙ (λ j. record_of (k j) (l j))) i))
    ∙ ap (λ w. frame_by (length_of rest) (check Torn w (record_of (kind_of rest) (length_of rest)))) (sym w)

-- ---- what follows from a frame

pub record Framed (rest : List ℕ) (len : ℕ) (r : Record) : Type 0 where
  pub len_is : len ≡ length_of rest
  pub record_is : record_at rest ≡ gives r

pub frame_says : (rest : List ℕ) (len : ℕ) (r : Record) → gives (framed len r) ≡ frame_of rest → Framed rest len r
frame_says rest len r q =
    let w = value_gives (framed (length_of rest)) (record_at rest) (framed len r) (sym q) in
    record { len_is = sym (ap (λ f. f.len) w.2); record_is = w.1 ∙ ap (λ (f : Frame). gives f.«record») w.2 }

module _ (rest : List ℕ) (n : ℕ) (q : refused n ≡ frame_of rest) where
  pub frame_refused : record_at rest ≡ refused n
  frame_refused = value_refused (framed (length_of rest)) (record_at rest) n (sym q)

  pub header_refused : header rest ≡ refused n
  unfolding header
  header_refused = ap (λ a. then a (λ r. header_in r (payload rest))) frame_refused

  pub record_refused : (k : Styles) (x : File) → record_in k x rest ≡ refused n
  unfolding record_in
  record_refused k x = ap (λ a. then a (λ r. check Mixed (fits k r) (part_in x r (payload rest) (after rest)))) frame_refused

-- ---- where a record ends

module _ (f : List ℕ) (at len : ℕ) (r : Record) (d : Framed (drop at f) len r) (h : at ≤ length f) where
  framed_begins : Begins (drop at f) r
  framed_begins = begins (drop at f) r d.record_is

  pub begins_least : 4 ≤ len
  begins_least = omega (arith, d.len_is, framed_begins.least)

  pub end_within : at + len ≤ length f
  end_within = omega (arith, d.len_is, framed_begins.most, length-drop at f)

  pub left_after : length (after (drop at f)) ≡ length f - (at + len)
  left_after = omega (arith, d.len_is, length-drop (length_of (drop at f)) (drop at f), length-drop at f)

-- ---- a record by what it is

-- the first record is a header
pub header_first : (r : Record) → (r ≡ Record.Header → ⊥) → (s : List ℕ) → header_in r s ≡ refused Order
header_first Record.Header n s = absurd (n refl)
header_first Record.Convex n s = refl
header_first Record.Halfspace n s = refl
header_first Record.End n s = refl
header_first (Record.Group k) n s = refl

module _ (rest : List ℕ) (r : Record) (e : record_at rest ≡ gives r) where
  pub header_by : header rest ≡ header_in r (payload rest)
  unfolding header
  header_by = ap (λ a. then a (λ r. header_in r (payload rest))) e

  module _ (k : Styles) (x : File) where
    by_style : (t : Bool) → fits k r ≡ t → record_in k x rest ≡ check Mixed t (part_in x r (payload rest) (after rest))
    unfolding record_in
    by_style t f =
        ap (λ a. then a (λ r. check Mixed (fits k r) (part_in x r (payload rest) (after rest)))) e
        ∙ ap (λ t. check Mixed t (part_in x r (payload rest) (after rest))) f

    pub record_mixed : fits k r ≡ false → record_in k x rest ≡ refused Mixed
    record_mixed f = by_style false f

    pub record_by : fits k r ≡ true → record_in k x rest ≡ part_in x r (payload rest) (after rest)
    record_by f = by_style true f

  pub is_end_law : eqb (kind_of rest) 4 ≡ eqb (kind r) 4
  is_end_law = ap (λ k. eqb k 4) (begins rest r e).its_kind

-- ---- an accepted header

pub header_length : (f : List ℕ) (x : File) → header f ≡ gives x → length_of f ≡ 8
header_length f x e = (header_read f x e).0.its_size

pub header_whole : (f : List ℕ) (x : File) → header f ≡ gives x → 8 ≤ length f
header_whole f x e = let b = (header_read f x e).0 in omega (arith, b)
