-- Record by record: what has been read so far stands in the reader's state and in its rows, and what is still to be read gives the answer of the whole
-- (`Reading`). The bound on the records plays no part, so that what is left of the file can be read with its own length as the bound. Assumes nothing.
use Prim.Native.Nat.{ℕ, zero, suc, ◌+◌, ◌-◌, ◌≤◌, ◌<◌}
use native.Mathlib.Nat.{add-zero, add-suc}
use native.Mathlib.Omega.{arith}
use mathlib.Core.Path.{◌≡◌, refl, sym, ap, ◌∙◌}
use mathlib.Core.Bool.{Bool, true, false}
use mathlib.Core.List.{List, []}
use lib.Dec.{eqb}
use lib.ListN.{length, drop, length-drop}
use lib.IntN.{ℤ}
use Rattle.std.specs.declared.ops.ControlFlow.TheVariants.{Continue, Break}
use Rattle.answer.specs.Answer.{Answer, refused, gives, then, with_value}
use Rattle.answer.specs.Lent.{put}
use Rattle.answer.proofs.AnswerLaws.{refused_gives, same_value}
use Rattle.region.specs.declared.Style.{Style}
use Rattle.region.specs.Building.{total}
use Rattle.region.specs.Rows.{rows_from, rows}
use Rattle.region.specs.Records.{Styles}
use Rattle.region.specs.Reader.{File, length_of, kind_of, after, record_in, records_in}
use Rattle.region.specs.Answers.{header_of}
use Rattle.region.proofs.ReaderLaws.{record_keeps, record_whole, one_more}
use Rattle.region_records.specs.declared.Settings.{Settings}
use Rattle.region_rows.specs.declared.counts.RegionSize.{RegionSize}
use Rattle.region_rows.specs.RegionSizes.{region_size}
use Rattle.region_payloads.specs.declared.State.{State}
use Rattle.region_payloads.specs.Payloads.{Step, state_of, step_of, StandsFor, RecordAfter}
use Rattle.region_reader.specs.Reading.{RecordStep, headed_file, records_after, RowsGiven}
use Rattle.region_records.proofs.FrameLaws.{whole_says, after_at}

-- ---- any bound on the records that is not below the bytes left

module _ (t : Style) (x : File) (rest : List ℕ) where
  enough_more : (k m : ℕ) → length rest ≤ m → records_in (Styles.only t) m x rest ≡ records_in (Styles.only t) (m + k) x rest
  enough_more zero m h = ap (λ n. records_in (Styles.only t) n x rest) (sym (add-zero m))
  enough_more (suc k) m h =
      enough_more k m h ∙ one_more (Styles.only t) (m + k) x rest (omega arith) ∙ ap (λ n. records_in (Styles.only t) n x rest) (sym (add-suc m k))

  enough : (m n : ℕ) → length rest ≤ m → m ≤ n → records_in (Styles.only t) m x rest ≡ records_in (Styles.only t) n x rest
  enough m n h l = enough_more (n - m) m h ∙ ap (λ k. records_in (Styles.only t) k x rest) (omega arith)

-- ---- the first of the records

module _ (t : Style) (n : ℕ) (x : File) (rest : List ℕ) where
  ended : (y : File) → record_in (Styles.only t) x rest ≡ gives y → eqb (kind_of rest) 4 ≡ true → records_in (Styles.only t) (suc n) x rest ≡ gives y
  unfolding records_in
  ended y e q =
      ap (λ a. then a (λ z. elim (eqb (kind_of rest) 4) [ true ↦ gives z | false ↦ records_in (Styles.only t) n z (after rest) ])) e
      ∙ (λ i. elim (q i) [ true ↦ gives y | false ↦ records_in (Styles.only t) n y (after rest) ])

  goes_on : (y : File) → record_in (Styles.only t) x rest ≡ gives y → eqb (kind_of rest) 4 ≡ false
      → records_in (Styles.only t) (suc n) x rest ≡ records_in (Styles.only t) n y (after rest)
  unfolding records_in
  goes_on y e q =
      ap (λ a. then a (λ z. elim (eqb (kind_of rest) 4) [ true ↦ gives z | false ↦ records_in (Styles.only t) n z (after rest) ])) e
      ∙ (λ i. elim (q i) [ true ↦ gives y | false ↦ records_in (Styles.only t) n y (after rest) ])

  stopped : (k : ℕ) → record_in (Styles.only t) x rest ≡ refused k → records_in (Styles.only t) (suc n) x rest ≡ refused k
  unfolding records_in
  stopped k e = ap (λ a. then a (λ z. elim (eqb (kind_of rest) 4) [ true ↦ gives z | false ↦ records_in (Styles.only t) n z (after rest) ])) e

-- ---- what a step says of the answer

record More (end : Bool) (next : ℕ) (a : Answer File) (s : State) : Type 0 where
  file : File
  gave : a ≡ gives file
  goes : end ≡ false
  state : s ≡ state_of next file.region

step_more : (end : Bool) (next : ℕ) (a : Answer File) (s : State) → gives (Continue s) ≡ step_of end next a → More end next a s
step_more end next (refused n) s e = let z : ◌≡◌ {A = ℕ} 0 1 = cc in absurd (omega arith)
step_more true next (gives y) s e = let z : ◌≡◌ {A = ℕ} 0 1 = cc in absurd (omega arith)
step_more false next (gives y) s e = record { file = y; gave = refl; goes = refl; state = cc }

record Done (end : Bool) (a : Answer File) (n : ℕ) : Type 0 where
  file : File
  gave : a ≡ gives file
  ends : end ≡ true
  count : n ≡ total file.region

step_done : (end : Bool) (next : ℕ) (a : Answer File) (n : ℕ) → gives (Break n) ≡ step_of end next a → Done end a n
step_done end next (refused k) n e = let z : ◌≡◌ {A = ℕ} 0 1 = cc in absurd (omega arith)
step_done true next (gives y) n e = record { file = y; gave = refl; ends = refl; count = cc }
step_done false next (gives y) n e = let z : ◌≡◌ {A = ℕ} 0 1 = cc in absurd (omega arith)

step_refused : (end : Bool) (next : ℕ) (a : Answer File) (n : ℕ) → refused n ≡ step_of end next a → a ≡ refused n
step_refused end next (refused k) n e = cc
step_refused true next (gives y) n e = let z : ◌≡◌ {A = ℕ} 0 1 = cc in absurd (omega arith)
step_refused false next (gives y) n e = let z : ◌≡◌ {A = ℕ} 0 1 = cc in absurd (omega arith)

-- ---- the records after the header, which has the settings h

-- `file` is what has been read up to the state's position
pub record Reading (t : Style) (f : List ℕ) (h : Settings) (before rs : List ℤ) (s : State) : Type 0 where
  pub file : File
  pub depth : file.depth ≡ h.depth
  pub budget : file.budget ≡ h.budget
  pub within : s.at ≤ length f
  pub stands : StandsFor before file.region s.counts rs
  pub same : records_in (Styles.only t) (length (drop s.at f)) file (drop s.at f) ≡ records_after t h f

pub reading_none : (t : Style) (f : List ℕ) (h : Settings) (before : List ℤ) → 8 ≤ length f → (k : RegionSize) → k ≡ region_size []
    → Reading t f h before before (record { at = 8; counts = k })
unfolding rows rows_from
reading_none t f h before l k e = record {
  file = headed_file h;
  depth = refl;
  budget = refl;
  within = l;
  stands = record { counts = e; rows = refl };
  same = enough t (headed_file h) (drop 8 f) (length (drop 8 f)) (length f) (omega arith) (omega (arith, length-drop 8 f));
}

module _ (t : Style) (f : List ℕ) (h : Settings) (before rs : List ℤ) (s : State) (d : Reading t f h before rs s) (o : Answer Step) (rs' : List ℤ)
    (r : RecordStep t f s rs o rs') where
  abbrev rest : List ℕ
  rest = drop s.at f

  taken : RecordAfter before (eqb (kind_of (drop s.at f)) 4) (s.at + length_of (drop s.at f)) (record_in (Styles.only t) d.file (drop s.at f)) o rs'
  taken = r d.file before d.stands

  -- with a bound that is not 0
  opened : records_in (Styles.only t) (suc (length (drop s.at f))) d.file (drop s.at f) ≡ records_after t h f
  opened = sym (one_more (Styles.only t) (length rest) d.file rest (omega arith)) ∙ d.same

  kept : (y : File) → record_in (Styles.only t) d.file (drop s.at f) ≡ gives y → (y.depth ≡ h.depth) × (y.budget ≡ h.budget)
  kept y e =
      record_keeps (λ z. (z.depth ≡ h.depth) × (z.budget ≡ h.budget)) (λ z c k. k) (λ z g p q k. k)
      (Styles.only t) d.file y rest e (d.depth, d.budget)

  module _ (next : State) (e : o ≡ gives (Continue next)) where
    found : More (eqb (kind_of (drop s.at f)) 4) (s.at + length_of (drop s.at f)) (record_in (Styles.only t) d.file (drop s.at f)) next
    found = step_more _ _ _ next (sym e ∙ taken.step)

    place : next.at ≡ s.at + length_of (drop s.at f)
    place = ap (λ u. u.at) found.state

    pub reading_further : (s.at < next.at) × (next.at ≤ length f)
    reading_further =
        let w = whole_says rest (record_whole (Styles.only t) d.file found.file rest found.gave) in
        (omega (arith, w, place), omega (arith, w, place, length-drop s.at f, d.within))

    pub reading_more : Reading t f h before rs' next
    reading_more =
        let y = found.file in
        let left = after rest in
        let p : left ≡ drop next.at f = after_at f s.at ∙ ap (λ n. drop n f) (sym place) in
        record {
          file = y;
          depth = (kept y found.gave).0;
          budget = (kept y found.gave).1;
          within = reading_further.1;
          stands = record { counts = ap (λ u. u.counts) found.state; rows = taken.rows y found.gave };
          same =
              ap (λ u. records_in (Styles.only t) (length u) y u) (sym p)
              ∙ enough t y left (length left) (length rest) (omega arith) (omega (arith, length-drop (length_of rest) rest))
              ∙ sym (goes_on t (length rest) d.file rest y found.gave found.goes)
              ∙ opened;
        }

  pub reading_done : (n : ℕ) → o ≡ gives (Break n)
      → (gives (record { count = n; depth = h.depth; budget = h.budget }) ≡ with_value header_of (records_after t h f))
      × RowsGiven (records_after t h f) before rs'
  reading_done n e =
      let c = step_done _ _ _ n (sym e ∙ taken.step) in
      let y = c.file in
      let a : records_after t h f ≡ gives y = sym opened ∙ ended t (length rest) d.file rest y c.gave c.ends in
      let k = kept y c.gave in (
        (λ i. gives (record { count = c.count i; depth = sym k.0 i; budget = sym k.1 i })) ∙ ap (with_value header_of) (sym a),
        λ x q. taken.rows y c.gave ∙ ap (λ z. put 0 (rows z.region) before) (same_value y x (sym a ∙ q)),
      )

  pub reading_refused : (n : ℕ) → o ≡ refused n
      → (refused n ≡ with_value header_of (records_after t h f))
      × RowsGiven (records_after t h f) before rs'
  reading_refused n e =
      let c = step_refused _ _ _ n (sym e ∙ taken.step) in
      let a : records_after t h f ≡ refused n = sym opened ∙ stopped t (length rest) d.file rest n c in
      (ap (with_value header_of) (sym a), λ x q. refused_gives n x (sym a ∙ q))
