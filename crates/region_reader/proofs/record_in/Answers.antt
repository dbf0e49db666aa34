-- `region_reader::record_in` checks 2, 3 and 14, and hands the payload on, as that part of the file, to the payload reader of the kind. Assumes nothing.
use Prim.Native.Nat.{ℕ, ◌+◌, ◌-◌, ◌≤◌}
use native.Mathlib.Omega.{arith}
use mathlib.Core.Path.{◌≡◌, sym, ap, ◌∙◌}
use mathlib.Core.Bool.{true}
use mathlib.Core.List.{List}
use lib.ListN.{length, take, drop, length-take, length-drop}
use Rattle.std.proofs.lemmas.Result.{err_from_is_err_and}
use Rattle.answer.specs.Answer.{gives, Order, Mixed}
use Rattle.answer.specs.Calls.{answer_of}
use Rattle.region.specs.declared.Record.{Record}
use Rattle.region.specs.Records.{size, Styles, fits}
use Rattle.region.specs.Reader.{File, length_of, payload, after, record_at, halfspace_of, halfspace_in, group_in, part_in, record_in}
use Rattle.region.proofs.ReaderLaws.{begins}
use Rattle.region_records.proofs.FrameLaws.{Framed, frame_says, record_refused, begins_least, end_within, left_after, payload_at}
use Rattle.region_records.proofs.FrameLaws.{record_mixed, record_by, is_end_law}
use Rattle.region_payloads.specs.Payloads.{group_of}
use Rattle.region_payloads.proofs.StepLaws.{taken_refused, taken_as, convex_taken, end_taken}
use Rattle.region_reader.proofs.RecordLaws.{group_of_law}
use Rattle.region_reader.proofs.record_in.Goals as goal
use Rattle.region_reader.proofs.record_in.Goals.{In_ok-frame}

abbrev file : In_ok-frame → List ℕ
file c = c.args.file.now

abbrev place : In_ok-frame → ℕ
place c = c.args.s.at

abbrev rest : In_ok-frame → List ℕ
rest c = drop (place c) (file c)

abbrev len : In_ok-frame → ℕ
len c = c.in_ok-frame.frame.len

abbrev found : In_ok-frame → Record
found c = c.in_ok-frame.frame.«record»

framed : (c : In_ok-frame) → Framed (rest c) (len c) (found c)
framed c = frame_says _ _ _ (sym (ap answer_of c.in_ok-frame.was) ∙ c.frame_at.ensures)

-- the record ends within the file
within : (c : In_ok-frame) → place c + len c ≤ length (file c)
within c = end_within (file c) (place c) (len c) (found c) (framed c) c.requires

least : (c : In_ok-frame) → 4 ≤ len c
least c = begins_least (file c) (place c) (len c) (found c) (framed c) c.requires

next : (c : In_ok-frame) → place c + len c ≡ place c + length_of (rest c)
next c = ap (λ n. place c + n) (framed c).len_is

-- the record is r
is : (c : In_ok-frame) (r : Record) → found c ≡ r → record_at (rest c) ≡ gives r
is c r e = (framed c).record_is ∙ ap gives e

has_size : (c : In_ok-frame) (r : Record) → found c ≡ r → len c ≡ size r
has_size c r e = (framed c).len_is ∙ (begins (rest c) r (is c r e)).its_size

-- a record of four bytes has no payload
no_payload : (c : In_ok-frame) → len c ≡ 4 → length (take (place c + len c - (place c + 4)) (drop (place c + 4) (file c))) ≡ 0
no_payload c e = simp length-take (omega arith)

-- the styles that records of the file may have
abbrev styles : In_ok-frame → Styles
styles c = Styles.only c.args.style

-- the record is r, and is taken
taken : (k : In_ok-frame) → fits (styles k) (found k) ≡ true → (r : Record) → found k ≡ r → (x : File)
    → record_in (styles k) x (rest k) ≡ part_in x r (payload (rest k)) (after (rest k))
taken k f r e x = record_by (rest k) r (is k r e) (styles k) x (ap (fits (styles k)) (sym e) ∙ f)

pub frame_at-requires : goal.frame_at-requires
frame_at-requires c = c.requires

pub returns-then-not-fits : goal.returns-then-not-fits
returns-then-not-fits c x before st =
    let k = (goal.at.returns-then-not-fits c).In_ok-frame in
    taken_refused Mixed (record_mixed (rest k) (found k) (framed k).record_is (styles k) x (sym c.fits.ensures ∙ c.if-not-fits.true))

pub overflow_add-payload : goal.overflow_add-payload
overflow_add-payload c = let k = (goal.at.overflow_add-payload c).In_ok-frame in omega (arith, within k, least k)

pub slice_bounds-payload-count : goal.slice_bounds-payload-count
slice_bounds-payload-count c = let k = (goal.at.slice_bounds-payload-count c).In_ok-frame in omega (arith, least k)

pub slice_bounds-payload-start : goal.slice_bounds-payload-start
slice_bounds-payload-start c = let k = (goal.at.slice_bounds-payload-start c).In_ok-frame in omega (arith, least k)

pub slice_bounds-payload-end : goal.slice_bounds-payload-end
slice_bounds-payload-end c = let k = (goal.at.slice_bounds-payload-end c).In_ok-frame in within k

pub overflow_add-next : goal.overflow_add-next
overflow_add-next c = let k = (goal.at.overflow_add-next c).In_ok-frame in omega (arith, within k)

pub convex_payload-requires : goal.convex_payload-requires
convex_payload-requires c = let k = (goal.at.convex_payload-requires c).In_ok-frame in no_payload k (has_size k Record.Convex c.in-Convex.is)

pub halfspace_payload-requires : goal.halfspace_payload-requires
halfspace_payload-requires c =
    let k = (goal.at.halfspace_payload-requires c).In_ok-frame in
    let l = has_size k Record.Halfspace c.in-Halfspace.is in
    let w = within k in
    simp (length-take, length-drop) (omega arith)

pub overflow_sub-file : goal.overflow_sub-file
overflow_sub-file c = let k = (goal.at.overflow_sub-file c).In_ok-frame in within k

pub end_payload-requires : goal.end_payload-requires
end_payload-requires c = let k = (goal.at.end_payload-requires c).In_ok-frame in no_payload k (has_size k Record.End c.in-End.is)

pub returns-in_err-frame : goal.returns-in_err-frame
returns-in_err-frame c x before st =
    let v = c.args in
    let p = err_from_is_err_and c.from_residual.result c.from_residual.ensures.1 in
    let e = sym (ap answer_of c.in_err-frame.was) ∙ c.frame_at.ensures in
    rw (p.1, p.2) (taken_refused _ (record_refused (drop v.s.at v.file.now) _ e (Styles.only v.style) x))

pub returns-in-Header : goal.returns-in-Header
returns-in-Header c x before st =
    let t = taken_refused Order (taken (goal.at.returns-in-Header c).In_ok-frame (sym c.fits.ensures ∙ c.if-not-fits.false) Record.Header c.in-Header.is x) in
    record { step = c.header_again.ensures ∙ t.step; rows = t.rows }

pub returns-in-Convex : goal.returns-in-Convex
returns-in-Convex c x before st =
    let k = (goal.at.returns-in-Convex c).In_ok-frame in
    let e = c.in-Convex.is in
    taken_as (sym (is_end_law (rest k) Record.Convex (is k Record.Convex e))) (next k) (sym (taken k (sym c.fits.ensures ∙ c.if-not-fits.false) Record.Convex e x))
    (convex_taken x st (c.convex_payload.ensures x st.counts))

pub returns-in-Halfspace : goal.returns-in-Halfspace
returns-in-Halfspace c x before st =
    let k = (goal.at.returns-in-Halfspace c).In_ok-frame in
    let e = c.in-Halfspace.is in
    taken_as (sym (is_end_law (rest k) Record.Halfspace (is k Record.Halfspace e))) (next k)
    (ap (λ s. halfspace_in x (halfspace_of s)) (payload_at (file k) (place k) (len k) (framed k).len_is) ∙ sym (taken k (sym c.fits.ensures ∙ c.if-not-fits.false) Record.Halfspace e x))
    (c.halfspace_payload.ensures x before st)

pub returns-in-End : goal.returns-in-End
returns-in-End c x before st =
    let k = (goal.at.returns-in-End c).In_ok-frame in
    let e = c.in-End.is in
    let left = after (rest k) in
    taken_as (sym (is_end_law (rest k) Record.End (is k Record.End e))) (next k) (sym (taken k (sym c.fits.ensures ∙ c.if-not-fits.false) Record.End e x))
    (end_taken x left st
    (c.end_payload.ensures x (place k + len k) left st.counts (left_after (file k) (place k) (len k) (found k) (framed k) c.requires)))

pub returns-in-Group : goal.returns-in-Group
returns-in-Group c x before st =
    let k = (goal.at.returns-in-Group c).In_ok-frame in
    let e = c.in-Group.is in
    taken_as (sym (is_end_law (rest k) _ (is k (Record.Group _) e))) (next k)
    (ap (λ s. group_in x (group_of s)) (payload_at (file k) (place k) (len k) (framed k).len_is)
    ∙ ap (group_in x) (group_of_law (rest k) _ (begins (rest k) _ (is k (Record.Group _) e)))
    ∙ sym (taken k (sym c.fits.ensures ∙ c.if-not-fits.false) (Record.Group _) e x))
    (c.group_payload.ensures x before st)
