-- What the calls find and store is what their answers say: a search that ends before the last entry found the key, and the entry that is stored
-- in the place that was made free stands in its order. Assumes nothing.
use Prim.Native.Nat.{ℕ, zero, suc, ◌+◌, ◌*◌, ◌-◌, ◌≤◌, ◌<◌}
use Rattle.std.specs.Prelude.{Result, Ok, Err}
use Rattle.answer.specs.declared.Refusal.{Refusal}
use mathlib.Core.Path.{◌≡◌, sym, ap, ◌∙◌, refl}
use mathlib.Core.Bool.{Bool, true, false, not, ◌&&◌}
use mathlib.Core.List.{List, [], ◌∷◌, ◌++◌}
use native.Mathlib.Omega.{arith}
use borrow.Author.Tests.{lt-leb, le-leb, lt-ltb, le-ltb, ltb-true, ltb-false}
use lib.Dec.{leb, ltb}
use lib.ListN.{length, take, drop, set, length-append, length-drop}
use lib.Seq.{length-take-le, drop-drop}
use lib.IntN.{ℤ, pos}
use mir.Syntax.{w64}
use mir.Val.{to_z}
use Rattle.algebra.proofs.Sized.{nat}
use Rattle.algebra.proofs.Tests.{split, and_then}
use Rattle.answer.specs.Calls.{answer_of}
use Rattle.algebra.specs.Lists.{some, tally}
use Rattle.answer.specs.Answer.{Answer, refused, gives, check, Space, Owner}
use Rattle.answer.specs.Lent.{put}
use Rattle.index.specs.declared.Entry.{Entry}
use Rattle.index.specs.declared.Key.{Key}
use Rattle.index.specs.Exposures.{IndexCapacity, OwnerCapacity, Exposure, has_place}
use Rattle.index.specs.Entries.{Width, IndexLength, numbers, entry_at, precedes, is_owned, is_keyed, count_in, entries_from, entries_in, written, with_entries, inserted, withdrawn, has_room, inserting, withdrawing, Slot, nothing, slot_at}
use Rattle.index.specs.Answers.{in_list, beginning, adding, removing, begin_answer, begin_after, add_answer, add_after, remove_answer, remove_after, count_answer, entry_answer}
use Rattle.index.proofs.WrittenLaws.{length_entries}
use Rattle.algebra.specs.Moves.{shifted_down}
use Rattle.index_entries.specs.Steps.{leading, staying, raised}
use Rattle.index_entries.proofs.EntryLaws.{entry_drop}
use Rattle.index_entries.proofs.MovedLaws.{one_more, one_less}
use Rattle.index_entries.proofs.SearchLaws.{inserted_at, withdrawn_at, found}
use Rattle.index_calls.specs.Done.{Done}

-- ---- what is done is what the calls answer and leave

module _ (l m : List ℤ) (r : Result (Unit {0}) Refusal) where
  pub by_begin : Done (beginning l) l m r → (answer_of r ≡ begin_answer l) × (m ≡ begin_after l)
  unfolding begin_answer begin_after
  by_begin d = (d.answer, d.list)

  pub by_add : (x : Exposure) → Done (adding x l) l m r → (answer_of r ≡ add_answer x l) × (m ≡ add_after x l)
  unfolding add_answer add_after
  by_add x d = (d.answer, d.list)

  pub by_remove : (k : Key) → Done (removing k l) l m r → (answer_of r ≡ remove_answer k l) × (m ≡ remove_after k l)
  unfolding remove_answer remove_after
  by_remove k d = (d.answer, d.list)

-- ---- what the steps do

-- an owner's check
pub no_owner : (t : Bool) (a : Answer (List Entry)) (l : List ℤ) → t ≡ false → Done (check Owner t a) l l (Err Refusal.Owner)
no_owner t a l e = record { answer = rw e refl; list = rw e refl }

pub of_owner : {t : Bool} {a : Answer (List Entry)} {l m : List ℤ} {r : (Result (Unit {0}) Refusal)} → t ≡ true → Done a l m r → Done (check Owner t a) l m r
of_owner e d = rw e d

pub too_short : (l : List ℤ) (a : Answer (List Entry)) → length l < IndexLength → Done (in_list l a) l l (Err Refusal.Space)
too_short l a h = let e : leb IndexLength (length l) ≡ false = lt-leb IndexLength (length l) h in record { answer = rw e refl; list = rw e refl }

pub begun : (l : List ℤ) → IndexLength ≤ length l → Done (beginning l) l (set l 0 (pos 0)) (Ok tt)
unfolding with_entries written
begun [] h = absurd (omega arith)
begun (c ∷ l) h = let e : leb IndexLength (length (c ∷ l)) ≡ true = le-leb IndexLength (length (c ∷ l)) h in record { answer = rw e refl; list = rw e refl }

-- a count, stored by its bits
whole : (n : ℕ) → n ≤ IndexCapacity → to_z w64 n ≡ pos n
whole n h = (nat h tt).eq

-- on a list that is long enough, by the count n that was read
module _ (l : List ℤ) (n : ℕ) (long : IndexLength ≤ length l) (is : n ≡ count_in l) where
  read : entries_from n (drop 1 l) ≡ entries_in l
  unfolding entries_in
  read = ap (λ k. entries_from k (drop 1 l)) is

  entries : length (entries_in l) ≡ n
  entries = ap length (sym read) ∙ length_entries n (drop 1 l)

  -- whether the search for a key ended before the last entry
  searched : (k : Key) (i : ℕ) → i ≡ leading (λ e. not (is_keyed k e)) (entries_from n (drop 1 l)) → ltb i n ≡ some (is_keyed k) (entries_in l)
  searched k i s =
      let p : i ≡ leading (λ e. not (is_keyed k e)) (entries_in l) = s ∙ ap (leading (λ e. not (is_keyed k e))) read in
      (λ j. ltb (p j) (sym entries j)) ∙ found (is_keyed k) (entries_in l)

  module _ (k : Key) (i : ℕ) (s : i ≡ leading (λ e. not (is_keyed k e)) (entries_from n (drop 1 l))) where
    pub is_twice : (e : Entry) → i < n → Done (in_list l (inserting k e (entries_in l))) l l (Err Refusal.Twice)
    is_twice e h =
        let a : leb IndexLength (length l) ≡ true = le-leb IndexLength (length l) long in
        let b : some (is_keyed k) (entries_in l) ≡ true = sym (searched k i s) ∙ lt-ltb i n h in
        record { answer = rw (a, b) refl; list = rw (a, b) refl }

    -- the search ended without the key, and counted the owner's
    module _ (e : Entry) (w : ℕ) (past : n ≤ i) (c : w ≡ tally (is_owned k.owner) (entries_from n (drop 1 l))) where
      a : leb IndexLength (length l) ≡ true
      a = le-leb IndexLength (length l) long

      b : some (is_keyed k) (entries_in l) ≡ false
      b = sym (searched k i s) ∙ le-ltb i n past

      owned : tally (is_owned k.owner) (entries_in l) ≡ w
      owned = ap (tally (is_owned k.owner)) (sym read) ∙ sym c

      is_full_law : OwnerCapacity ≤ w → Done (in_list l (inserting k e (entries_in l))) l l (Err Refusal.Full)
      is_full_law f =
          let g : has_place OwnerCapacity (is_owned k.owner) (entries_in l) ≡ false = ap (λ m. ltb m OwnerCapacity) owned ∙ le-ltb w OwnerCapacity f in
          record { answer = rw (a, b, g) refl; list = rw (a, b, g) refl }

      module _ (f : w < OwnerCapacity) where
        place : has_place OwnerCapacity (is_owned k.owner) (entries_in l) ≡ true
        place = ap (λ m. ltb m OwnerCapacity) owned ∙ lt-ltb w OwnerCapacity f

        no_room : IndexCapacity ≤ n → Done (in_list l (inserting k e (entries_in l))) l l (Err Refusal.Full)
        no_room h =
            let g : has_room (entries_in l) ≡ false = le-ltb (length (entries_in l)) IndexCapacity (omega (arith, entries)) in
            record { answer = rw (a, b, place, g) refl; list = rw (a, b, place, g) refl }

        pub is_inserted : (p : ℕ) (u v : List ℤ) → n < IndexCapacity → p ≡ staying (precedes e) (entries_from n (drop 1 l)) → p ≤ n
            → u ≡ raised (1 + Width * p) l (Width * (n - p)) → v ≡ put (1 + Width * p) (numbers e) u
            → Done (in_list l (inserting k e (entries_in l))) l (set v 0 (to_z w64 (n + 1))) (Ok tt)
        unfolding with_entries
        is_inserted p u v h q g x y =
            let r : has_room (entries_in l) ≡ true = lt-ltb (length (entries_in l)) IndexCapacity (omega (arith, entries)) in
            let es = entries_from n (drop 1 l) in
            let t : take p es ++ e ∷ drop p es ≡ inserted e (entries_in l) = ap (λ j. take j es ++ e ∷ drop j es) q ∙ inserted_at e es ∙ ap (inserted e) read in
            let m : n + 1 ≡ length (take p es ++ e ∷ drop p es) =
            omega (arith, length-append (take p es) (e ∷ drop p es), length-take-le p es (omega (arith, length_entries n (drop 1 l))), length-drop p es, length_entries n (drop 1 l)) in
            let z : v ≡ put (1 + Width * p) (numbers e) (raised (1 + Width * p) l (Width * (n - p))) = y ∙ ap (λ w. put (1 + Width * p) (numbers e) w) x in
            let d : set v 0 (to_z w64 (n + 1)) ≡ with_entries (inserted e (entries_in l)) l =
            (λ j. set (z j) 0 (whole (n + 1) (omega arith) j))
            ∙ one_more n p (Width * (n - p)) e l (pos (n + 1)) g refl (omega arith)
            ∙ ap (λ x. pos x ∷ written (take p es ++ e ∷ drop p es) (drop 1 l)) m
            ∙ ap (λ x. with_entries x l) t in
            record { answer = rw (a, b, place, r) refl; list = rw (a, b, place, r) d }

    pub is_full : (e : Entry) (w : ℕ) → n ≤ i → w ≡ tally (is_owned k.owner) (entries_from n (drop 1 l)) → ltb w OwnerCapacity && ltb n IndexCapacity ≡ false
        → Done (in_list l (inserting k e (entries_in l))) l l (Err Refusal.Full)
    is_full e w past c t =
        split (ltb w OwnerCapacity)
        (λ p. no_room e w past c (ltb-true w OwnerCapacity p) (ltb-false n IndexCapacity (and_then (ltb n IndexCapacity) p ∙ t)))
        (λ p. is_full_law e w past c (ltb-false w OwnerCapacity p))

    pub is_absent : n ≤ i → Done (in_list l (withdrawing k (entries_in l))) l l (Err Refusal.Absent)
    is_absent h =
        let a : leb IndexLength (length l) ≡ true = le-leb IndexLength (length l) long in
        let b : some (is_keyed k) (entries_in l) ≡ false = sym (searched k i s) ∙ le-ltb i n h in
        record { answer = rw (a, b) refl; list = rw (a, b) refl }

    pub is_removed : (u : List ℤ) → i < n → n ≤ IndexCapacity → u ≡ shifted_down Width (1 + Width * i) l (Width * (n - 1 - i)) → Done (in_list l (withdrawing k (entries_in l))) l (set u 0 (to_z w64 (n - 1))) (Ok tt)
    unfolding with_entries
    is_removed u h f x =
        let a : leb IndexLength (length l) ≡ true = le-leb IndexLength (length l) long in
        let b : some (is_keyed k) (entries_in l) ≡ true = sym (searched k i s) ∙ lt-ltb i n h in
        let es = entries_from n (drop 1 l) in
        let t : take i es ++ drop (suc i) es ≡ withdrawn k (entries_in l) = ap (λ x. take x es ++ drop (suc x) es) s ∙ withdrawn_at k es ∙ ap (withdrawn k) read in
        let m : n - 1 ≡ length (take i es ++ drop (suc i) es) =
        omega (arith, length-append (take i es) (drop (suc i) es), length-take-le i es (omega (arith, length_entries n (drop 1 l))), length-drop (suc i) es, length_entries n (drop 1 l)) in
        let d : set u 0 (to_z w64 (n - 1)) ≡ with_entries (withdrawn k (entries_in l)) l =
        (λ j. set (x j) 0 (whole (n - 1) (omega arith) j))
        ∙ one_less n i (Width * (n - 1 - i)) l (pos (n - 1)) h refl (omega arith)
        ∙ ap (λ x. pos x ∷ written (take i es ++ drop (suc i) es) (drop 1 l)) m
        ∙ ap (λ x. with_entries x l) t in
        record { answer = rw (a, b) refl; list = rw (a, b) d }

-- ---- how many entries there are, and one by its place

slot_at_law : (n : ℕ) (l : List ℤ) (a i : ℕ) → i < n → slot_at i (entries_from n (drop a l)) ≡ Slot.found (entry_at l (a + Width * i))
unfolding slot_at entries_from
slot_at_law zero l a i h = absurd (omega arith)
slot_at_law (suc n) l a zero h = let e : a ≡ a + Width * 0 = omega arith in ap Slot.found (entry_drop a l ∙ ap (entry_at l) e)
slot_at_law (suc n) l a (suc i) h =
    let e : a + Width + Width * i ≡ a + Width * suc i = omega arith in
    ap (λ m. slot_at i (entries_from n m)) (drop-drop Width a l) ∙ slot_at_law n l (a + Width) i (omega arith) ∙ ap (λ k. Slot.found (entry_at l k)) e

slot_past : (n : ℕ) (l : List ℤ) (i : ℕ) → n ≤ i → slot_at i (entries_from n l) ≡ nothing
unfolding slot_at entries_from
slot_past zero l i h = refl
slot_past (suc n) l zero h = absurd (omega arith)
slot_past (suc n) l (suc i) h = slot_past n (drop Width l) i (omega arith)

module _ (l : List ℤ) where
  pub none_counted : length l < IndexLength → refused Space ≡ count_answer l
  unfolding count_answer
  none_counted h = let e : leb IndexLength (length l) ≡ false = lt-leb IndexLength (length l) h in rw e refl

  pub is_counted : IndexLength ≤ length l → (n : ℕ) → n ≡ count_in l → gives n ≡ count_answer l
  unfolding count_answer
  is_counted h n is = let e : leb IndexLength (length l) ≡ true = le-leb IndexLength (length l) h in rw e (ap gives is)

  module _ (i : ℕ) where
    pub entry_short : length l < IndexLength → refused Space ≡ entry_answer i l
    unfolding entry_answer
    entry_short h = let e : leb IndexLength (length l) ≡ false = lt-leb IndexLength (length l) h in rw e refl

    module _ (long : IndexLength ≤ length l) (n : ℕ) (is : n ≡ count_in l) where
      pub is_past : n ≤ i → gives nothing ≡ entry_answer i l
      unfolding entry_answer entries_in
      is_past h =
          let e : leb IndexLength (length l) ≡ true = le-leb IndexLength (length l) long in
          rw e (ap gives (sym (slot_past (count_in l) (drop 1 l) i (omega arith))))

      pub has_entry : i < n → gives (Slot.found (entry_at l (1 + Width * i))) ≡ entry_answer i l
      unfolding entry_answer entries_in
      has_entry h =
          let e : leb IndexLength (length l) ≡ true = le-leb IndexLength (length l) long in
          rw e (ap gives (sym (slot_at_law (count_in l) l 1 i (omega arith))))
