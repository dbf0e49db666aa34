-- A history of calls is kept: each call answers what the rule says of the exposures that are there, and the entries are theirs, each once, ascending.
-- By induction over the calls: the entries and the exposures pass every test equally often, so they have the same keys and of each owner are as many, and the
-- checks of a call agree; an accepted add inserts one entry into its place, an accepted removal takes the one with the key. Assumes nothing.
use Prim.Native.Nat.{ℕ, zero, suc, ◌+◌, ◌≤◌, ◌<◌}
use Rattle.std.specs.Prelude.{Result}
use Rattle.answer.specs.declared.Refusal.{Refusal}
use mathlib.Core.Path.{◌≡◌, sym, ap, subst, ◌∙◌, refl}
use mathlib.Core.Bool.{Bool, true, false, cond, not, ◌&&◌, ◌||◌, and-true, and-false, true≢false, false≢true}
use mathlib.Core.List.{List, [], ◌∷◌, ◌++◌, map}
use native.Mathlib.Omega.{arith}
use borrow.Author.Tests.{le-leb, lt-ltb, le-ltb, ltb-true, ltb-false, eqb-true, eqb-false, not-true}
use lib.Dec.{leb, ltb, eqb, leb-zero}
use lib.ListN.{length, get_or, drop}
use lib.IntN.{ℤ, pos, nat_abs}
use lib.Signed.{le_z}
use Rattle.algebra.specs.Lists.{every, some, tally}
use Rattle.answer.specs.Calls.{answer_of}
use Rattle.algebra.proofs.Tests.{and_left, and_right, and_both, or_left, every_every, split}
use Rattle.answer.specs.Answer.{Answer, refused, gives, check, Vector, Twice, Full, Absent, Space, Owner}
use Rattle.answer.specs.Lent.{stored}
use Rattle.vector.specs.Numbers.{eq_z}
use Rattle.vector.specs.Vectors.{is_vector}
use Rattle.mesh.specs.Lookup.{identifier}
use Rattle.index.specs.declared.Entry.{Entry}
use Rattle.index.specs.declared.Key.{Key}
use Rattle.index.specs.Exposures.{IndexCapacity, OwnerCapacity, is_owner, Exposure, is_number, key, key_of, has_owner, has_key, has_place, Call, adds, removes, without, giving, leaving, answered, content_from, content_of, answers_from}
use Rattle.index.specs.Entries.{IndexLength, entry_of, is_owned, is_keyed, count_of, entries_from, entries_in, with_entries, inserted, withdrawn, has_room}
use Rattle.index.specs.Answers.{adding, removing, add_answer, add_after, remove_answer, remove_after, begin_answer, begin_after, count_answer}
use Rattle.index.specs.HistoryCorrect.{EntriesMatch, is_filed, IsIndex, IsEmpty, call_answer, call_after, Runs, numbered, Numbered, ServesAgain, HistoryCorrect}
use Rattle.index.proofs.WrittenLaws.{with_entries_long, entries_with, length_in}
use Rattle.index.proofs.TallyLaws.{some_tally, tally_all, all_pass, split_tally, either_passes, both_fewer, only_tally, inserted_tally, inserted_length, withdrawn_tally, withdrawn_fewer}
use Rattle.index.proofs.OrderLaws.{inserted_ascends, withdrawn_ascends, eq_z_eq, eq_z_refl}

-- ---- exposures and their entries

key_of_law : (k : Key) (x : Exposure) → has_key k x ≡ true → key_of x ≡ k
key_of_law k x e =
    let n = eqb-true x.number k.number (and_left (eqb x.number k.number) (has_owner k.owner x) e) in
    let o = eqb-true x.owner k.owner (and_right (eqb x.number k.number) (has_owner k.owner x) e) in
    λ i. key (o i) (n i)

-- a number of 32 bits, an owner and a vector
abbrev is_exposure : Exposure → Bool
is_exposure x = is_number x.number && is_owner x.owner && is_vector x.pointing

pub record Files (xs : List Exposure) (es : List Entry) : Type 0 where
  pub matches : EntriesMatch xs es
  pub few : length es ≤ IndexCapacity
  pub within : (o : ℕ) → tally (has_owner o) xs ≤ OwnerCapacity
  pub single : (k : Key) → tally (has_key k) xs ≤ 1
  pub proper : tally (λ x. not (is_exposure x)) xs ≡ 0

module _ (xs : List Exposure) (es : List Entry) (h : Files xs es) where
  as_many : length es ≡ length xs
  as_many = sym (tally_all es) ∙ h.matches.exactly (λ e. true) ∙ tally_all xs

  same_some : (n : Key) → some (is_keyed n) es ≡ some (has_key n) xs
  same_some n = some_tally (is_keyed n) es ∙ ap (ltb 0) (h.matches.exactly (is_keyed n)) ∙ sym (some_tally (has_key n) xs)

  -- an exposure is added whose key is not there
  more : (x : Exposure) → is_exposure x ≡ true → some (is_keyed (key_of x)) es ≡ false → tally (has_owner x.owner) xs < OwnerCapacity → length es < IndexCapacity → Files (x ∷ xs) (inserted (entry_of x) es)
  unfolding tally
  more x u o p f =
      let e = entry_of x in
      let none : tally (has_key (key_of x)) xs ≡ 0 = omega (arith, ltb-false 0 (tally (has_key (key_of x)) xs) (sym (some_tally (has_key (key_of x)) xs) ∙ sym (same_some (key_of x)) ∙ o)) in
      record {
        matches = record {
          ascends = inserted_ascends x es o h.matches.ascends;
          exactly = λ g. inserted_tally g e es ∙ ap (λ m. cond (g e) (suc m) m) (h.matches.exactly g);
        };
        few = omega (arith, inserted_length e es);
        within = λ w.
            split (has_owner w x)
            (λ t. subst (λ b. cond b (suc (tally (has_owner w) xs)) (tally (has_owner w) xs) ≤ OwnerCapacity) (sym t) (subst (λ m. tally (has_owner m) xs < OwnerCapacity) (eqb-true x.owner w t) p))
            (λ t. subst (λ b. cond b (suc (tally (has_owner w) xs)) (tally (has_owner w) xs) ≤ OwnerCapacity) (sym t) (h.within w));
        single = λ n.
            split (has_key n x)
            (λ t. let z : tally (has_key n) xs ≡ 0 = ap (λ m. tally (has_key m) xs) (sym (key_of_law n x t)) ∙ none in
            subst (λ b. cond b (suc (tally (has_key n) xs)) (tally (has_key n) xs) ≤ 1) (sym t) (omega arith))
            (λ t. subst (λ b. cond b (suc (tally (has_key n) xs)) (tally (has_key n) xs) ≤ 1) (sym t) (h.single n));
        proper = ap (λ b. cond (not b) (suc (tally (λ y. not (is_exposure y)) xs)) (tally (λ y. not (is_exposure y)) xs)) u ∙ h.proper;
      }

  -- those without a key
  fewer : (n : Key) → Files (without n xs) (withdrawn n es)
  fewer n =
      let one : tally (is_keyed n) es ≤ 1 = omega (arith, h.matches.exactly (is_keyed n), h.single n) in
      let left : (g : Exposure → Bool) → tally g (without n xs) ≤ tally g xs = λ g. omega (arith, only_tally g (λ x. not (has_key n x)) xs, both_fewer g (λ x. not (has_key n x)) xs) in
      record {
        matches = record {
          ascends = withdrawn_ascends n es h.matches.ascends;
          exactly = λ g. withdrawn_tally g n es one ∙ h.matches.exactly (λ e. g e && not (is_keyed n e)) ∙ sym (only_tally (λ x. g (entry_of x)) (λ x. not (has_key n x)) xs);
        };
        few = omega (arith, withdrawn_fewer n es, h.few);
        within = λ o. omega (arith, left (has_owner o), h.within o);
        single = λ m. omega (arith, left (has_key m), h.single m);
        proper = omega (arith, left (λ x. not (is_exposure x)), h.proper);
      }

-- ---- the answer of a call, on the entries and by the rule

abbrev Agree : Answer (List Entry) → Answer (List Exposure) → Type 0
Agree (refused m) (refused n) = m ≡ n
Agree (refused m) (gives xs) = ⊥
Agree (gives es) (refused n) = ⊥
Agree (gives es) (gives xs) = Files xs es

agree_check : (n : ℕ) (t u : Bool) (a : Answer (List Entry)) (b : Answer (List Exposure)) → t ≡ u → (t ≡ true → Agree a b) → Agree (check n t a) (check n u b)
agree_check n true true a b e f = f refl
agree_check n true false a b e f = absurd (true≢false e)
agree_check n false true a b e f = absurd (false≢true e)
agree_check n false false a b e f = refl

agree_passed : (n : ℕ) (t : Bool) (a : Answer (List Entry)) (b : Answer (List Exposure)) → t ≡ true → Agree a b → Agree (check n t a) b
agree_passed n t a b e h = subst (λ u. Agree (check n u a) b) (sym e) h

-- a list with the entries of the exposures xs
pub record Stands (xs : List Exposure) (l : List ℤ) : Type 0 where
  pub long : IndexLength ≤ length l
  pub counted : get_or l 0 (pos 0) ≡ pos (length (entries_in l))
  pub files : Files xs (entries_in l)

-- ---- an index

two_owners : (o : ℕ) → (eqb o 0 || eqb o 1) ≡ is_owner o
two_owners o =
    split (eqb o 0)
    (λ z. or_left (eqb o 1) z ∙ sym (lt-ltb o 2 (omega (arith, eqb-true o 0 z))))
    (λ z. ap (λ b. b || eqb o 1) z ∙ by_second z)
  where
    by_second : eqb o 0 ≡ false → eqb o 1 ≡ is_owner o
    by_second z =
        split (eqb o 1)
        (λ e. e ∙ sym (lt-ltb o 2 (omega (arith, eqb-true o 1 e))))
        (λ e. e ∙ sym (le-ltb o 2 (omega (arith, eqb-false o 0 z, eqb-false o 1 e))))

-- of the entry of an exposure, the number, the owner and the vector are what is left to test
filed : (x : Exposure) → is_filed (entry_of x) ≡ is_exposure x
filed x =
    let n = is_number x.number in
    let v = is_vector x.pointing in
    (λ i. leb-zero x.number i && n && two_owners x.owner i && v && eq_z_refl (pos (identifier x.pointing 12)) i) ∙ and-true (n && is_owner x.owner && v)

is_index : (xs : List Exposure) (l : List ℤ) → Stands xs l → IsIndex l
is_index xs l s =
    let f = s.files in
    record {
      long = s.long;
      counted = s.counted;
      few = f.few;
      within = λ o. omega (arith, f.matches.exactly (is_owned o), f.within o);
      ascends = f.matches.ascends;
      differ = λ n. omega (arith, f.matches.exactly (is_keyed n), f.single n);
      filed = all_pass is_filed (entries_in l) (f.matches.exactly (λ e. not (is_filed e)) ∙ (λ i. tally (λ x. not (filed x i)) xs) ∙ f.proper);
    }

filed_owner : (e : Entry) → is_filed e ≡ true → (is_owned 0 e || is_owned 1 e) ≡ true
filed_owner e f =
    let n = le_z (pos 0) e.number && is_number (nat_abs e.number) in
    let w = is_owned 0 e || is_owned 1 e in
    let v = is_vector e.pointing in
    and_right n w (and_left (n && w) v (and_left (n && w && v) (eq_z e.id (pos (identifier e.pointing 12))) f))

-- the entries are those of two owners: where one has a place there is room, since the other has no more than its capacity
room_left : (l : List ℤ) (o : ℕ) → IsIndex l → is_owner o ≡ true → has_place OwnerCapacity (is_owned o) (entries_in l) ≡ true → has_room (entries_in l) ≡ true
room_left l o is w p =
    let es = entries_in l in
    let both = either_passes (is_owned 0) (is_owned 1) es (every_every is_filed (λ e. is_owned 0 e || is_owned 1 e) filed_owner es is.filed) in
    let less : tally (is_owned o) es < OwnerCapacity = ltb-true (tally (is_owned o) es) OwnerCapacity p in
    lt-ltb (length es) IndexCapacity (by_owner o (ltb-true o 2 w) less both)
  where
    by_owner : (o : ℕ) → o < 2 → tally (is_owned o) (entries_in l) < OwnerCapacity → length (entries_in l) ≤ tally (is_owned 0) (entries_in l) + tally (is_owned 1) (entries_in l) → length (entries_in l) < IndexCapacity
    by_owner zero w h b = omega (arith, is.within 1)
    by_owner (suc zero) w h b = omega (arith, is.within 0)
    by_owner (suc (suc o)) w h b = absurd (omega arith)

-- ---- what a call answers on the entries is what the rule answers

-- the entries after a call, or its refusal
abbrev calling : Call → List ℤ → Answer (List Entry)
calling (adds x) l = adding x l
calling (removes k) l = removing k l

agrees : (c : Call) (xs : List Exposure) (l : List ℤ) → numbered c ≡ true → Stands xs l → Agree (calling c l) (giving OwnerCapacity c xs)
agrees (adds x) xs l u s =
    let es = entries_in l in
    let f = s.files in
    let w = is_owner x.owner in
    let v = is_vector x.pointing in
    agree_check Owner w w _ _ refl (λ o.
    agree_check Vector v v _ _ refl (λ p.
    agree_passed Space (leb IndexLength (length l)) _ _ (le-leb IndexLength (length l) s.long)
    (agree_check Twice (not (some (is_keyed (key_of x)) es)) (not (some (has_key (key_of x)) xs)) _ _ (ap not (same_some xs es f (key_of x))) (λ q.
    let same : tally (is_owned x.owner) es ≡ tally (has_owner x.owner) xs = f.matches.exactly (is_owned x.owner) in
    agree_check Full (has_place OwnerCapacity (is_owned x.owner) es) (has_place OwnerCapacity (has_owner x.owner) xs) _ _ (ap (λ n. ltb n OwnerCapacity) same) (λ r.
    let room = room_left l x.owner (is_index xs l s) o r in
    agree_passed Full (has_room es) _ _ room
    (more xs es f x (and_both (and_both u o) p) (not-true (some (is_keyed (key_of x)) es) q) (omega (arith, same, ltb-true (tally (is_owned x.owner) es) OwnerCapacity r)) (ltb-true (length es) IndexCapacity room)))))))
agrees (removes k) xs l u s =
    let es = entries_in l in
    let w = is_owner k.owner in
    agree_check Owner w w _ _ refl (λ o.
    agree_passed Space (leb IndexLength (length l)) _ _ (le-leb IndexLength (length l) s.long)
    (agree_check Absent (some (is_keyed k) es) (some (has_key k) xs) _ _ (same_some xs es s.files k) (λ p. fewer xs es s.files k)))

-- ---- one call

stored_stands : (xs : List Exposure) (es : List Entry) (l : List ℤ) → IndexLength ≤ length l → Files xs es → Stands xs (with_entries es l)
unfolding with_entries
stored_stands xs es l h f =
    let e : es ≡ entries_in (with_entries es l) = sym (entries_with es l f.few h) in
    record { long = with_entries_long es l f.few h; counted = ap (λ x. pos (length x)) e; files = subst (Files xs) e f }

module _ (xs : List Exposure) (l m : List ℤ) (r : Result (Unit {0}) Refusal) (s : Stands xs l) where
  one_call : (a : Answer (List Entry)) (b : Answer (List Exposure)) → Agree a b → answer_of r ≡ answered a → m ≡ stored with_entries a l
      → (answer_of r ≡ answered b) × Stands (leaving b xs) m
  one_call (refused i) (refused j) e c d = (c ∙ ap refused e, subst (Stands xs) (sym d) s)
  one_call (refused i) (gives ys) e c d = absurd e
  one_call (gives es) (refused j) e c d = absurd e
  one_call (gives es) (gives ys) e c d = (c, subst (Stands ys) (sym d) (stored_stands ys es l s.long e))

does_answer : (c : Call) (l : List ℤ) → call_answer c l ≡ answered (calling c l)
unfolding add_answer remove_answer
does_answer (adds x) l = refl
does_answer (removes k) l = refl

does_after : (c : Call) (l : List ℤ) → call_after c l ≡ stored with_entries (calling c l) l
unfolding add_after remove_after
does_after (adds x) l = refl
does_after (removes k) l = refl

-- ---- all calls

run : (h : List Call) (rs : List (Result (Unit {0}) Refusal)) (l n : List ℤ) (xs : List Exposure) → Numbered h → Stands xs l → Runs l h rs n
    → (map answer_of rs ≡ answers_from OwnerCapacity xs h) × Stands (content_from OwnerCapacity xs h) n
unfolding answers_from content_from every
run [] [] l n xs u s e = (refl, subst (Stands xs) (sym e) s)
run [] (r ∷ rs) l n xs u s e = absurd e
run (c ∷ h) [] l n xs u s e = absurd e
run (c ∷ h) (r ∷ rs) l n xs u s e =
    let m = e.0 in
    let a = agrees c xs l (and_left (numbered c) (every numbered h) u) s in
    let one = one_call xs l m r s (calling c l) (giving OwnerCapacity c xs) a (e.1.answer ∙ does_answer c l) (e.1.list ∙ does_after c l) in
    let rest = run h rs m n (leaving (giving OwnerCapacity c xs) xs) (and_right (numbered c) (every numbered h) u) one.1 e.2 in
    ((λ i. one.0 i ∷ rest.0 i), rest.1)

-- ---- a withdrawn place

-- the exposure with a key is one of its owner's
its_owner : (a b : Bool) → a && (b && a) ≡ b && a
its_owner true b = refl
its_owner false b = sym (and-false b)

-- calls behind a history
content_on : (xs : List Exposure) (h g : List Call) → content_from OwnerCapacity xs (h ++ g) ≡ content_from OwnerCapacity (content_from OwnerCapacity xs h) g
unfolding content_from
content_on xs [] g = refl
content_on xs (c ∷ h) g = content_on (leaving (giving OwnerCapacity c xs) xs) h g

answers_on : (xs : List Exposure) (h g : List Call)
    → answers_from OwnerCapacity xs (h ++ g) ≡ answers_from OwnerCapacity xs h ++ answers_from OwnerCapacity (content_from OwnerCapacity xs h) g
unfolding content_from answers_from
answers_on xs [] g = refl
answers_on xs (c ∷ h) g = ap (λ l. answered (giving OwnerCapacity c xs) ∷ l) (answers_on (leaving (giving OwnerCapacity c xs) xs) h g)

-- of the exposures that are there: one owner has all it may have; one of them is taken away, and another of the same owner has its place
module _ (xs : List Exposure) where
  refused_full : (x : Exposure) → is_owner x.owner ≡ true → is_vector x.pointing ≡ true → some (has_key (key_of x)) xs ≡ false
      → tally (has_owner x.owner) xs ≡ OwnerCapacity → giving OwnerCapacity (adds x) xs ≡ refused Full
  refused_full x w v o e =
      let f : has_place OwnerCapacity (has_owner x.owner) xs ≡ false = le-ltb (tally (has_owner x.owner) xs) OwnerCapacity (omega arith) in
      rw (w, v, o, f) refl

  taken_again : ((o : ℕ) → tally (has_owner o) xs ≤ OwnerCapacity) → (k : Key) (x : Exposure) → some (has_key k) xs ≡ true → k.owner ≡ x.owner
      → is_owner x.owner ≡ true → is_vector x.pointing ≡ true → some (has_key (key_of x)) (without k xs) ≡ false
      → giving OwnerCapacity (adds x) (without k xs) ≡ gives (x ∷ without k xs)
  taken_again few k x p same w v o =
      let t : 0 < tally (has_key k) xs = ltb-true 0 (tally (has_key k) xs) (sym (some_tally (has_key k) xs) ∙ p) in
      let own : tally (λ y. has_owner k.owner y && has_key k y) xs ≡ tally (has_key k) xs =
      λ i. tally (λ y. its_owner (has_owner k.owner y) (eqb y.number k.number) i) xs in
      let less : tally (has_owner k.owner) (without k xs) < OwnerCapacity =
      omega (arith, only_tally (has_owner k.owner) (λ y. not (has_key k y)) xs, split_tally (has_owner k.owner) (has_key k) xs, few k.owner) in
      let f : has_place OwnerCapacity (has_owner x.owner) (without k xs) ≡ true =
      subst (λ m. has_place OwnerCapacity (has_owner m) (without k xs) ≡ true) same (lt-ltb (tally (has_owner k.owner) (without k xs)) OwnerCapacity less) in
      rw (w, v, o, f) refl

serves_again : (h : List Call) → ((o : ℕ) → tally (has_owner o) (content_of OwnerCapacity h) ≤ OwnerCapacity) → ServesAgain h
unfolding content_from answers_from
serves_again h few =
    let xs = content_of OwnerCapacity h in
    let old = answers_from OwnerCapacity [] h in
    record {
      full = λ x new e. answers_on [] h (adds x ∷ []) ∙ ap (λ a. old ++ answered a ∷ []) (refused_full xs x new.owned new.pointed new.absent e);
      again = λ k x p same new.
          let w : is_owner k.owner ≡ true = ap is_owner same ∙ new.owned in
          let gone : giving OwnerCapacity (removes k) xs ≡ gives (without k xs) = rw (w, p) refl in
          let left : content_of OwnerCapacity (h ++ removes k ∷ []) ≡ without k xs = content_on [] h (removes k ∷ []) ∙ ap (λ a. leaving a xs) gone in
          let absent : some (has_key (key_of x)) (without k xs) ≡ false = subst (λ ys. some (has_key (key_of x)) ys ≡ false) left new.absent in
          let taken = taken_again xs few k x p same new.owned new.pointed absent in
          answers_on [] h (removes k ∷ adds x ∷ [])
          ∙ ap (λ a. old ++ answered a ∷ answered (giving OwnerCapacity (adds x) (leaving a xs)) ∷ []) gone
          ∙ ap (λ a. old ++ gives tt ∷ answered a ∷ []) taken;
    }

-- ---- an empty one

none_files : Files [] []
unfolding tally
none_files = record { matches = record { ascends = tt; exactly = λ g. refl }; few = omega arith; within = λ o. omega arith; single = λ n. omega arith; proper = refl }

empty_stands : (l : List ℤ) → IndexLength ≤ length l → get_or l 0 (pos 0) ≡ pos 0 → Stands [] l
unfolding entries_in entries_from
empty_stands l h e =
    let none : entries_in l ≡ [] = ap (λ z. entries_from (count_of z) (drop 1 l)) e in
    record { long = h; counted = e ∙ ap (λ x. pos (length x)) (sym none); files = subst (Files []) (sym none) none_files }

empty_index : (l : List ℤ) → IndexLength ≤ length l → get_or l 0 (pos 0) ≡ pos 0 → IsEmpty l
unfolding entries_in entries_from
empty_index l h e = (is_index [] l (empty_stands l h e), ap (λ z. entries_from (count_of z) (drop 1 l)) e)

is_empty : (l : List ℤ) → IsEmpty l → Stands [] l
is_empty l e = empty_stands l e.0.long (e.0.counted ∙ ap (λ x. pos (length x)) e.1)

zeros_first : (l : List ℤ) → IndexLength ≤ length l → every (eq_z (pos 0)) l ≡ true → get_or l 0 (pos 0) ≡ pos 0
unfolding every
zeros_first [] h e = absurd (omega arith)
zeros_first (z ∷ l) h e = sym (eq_z_eq (pos 0) z (and_left (eq_z (pos 0) z) (every (eq_z (pos 0)) l) e))

begins : (l : List ℤ) → IndexLength ≤ length l → (begin_answer l ≡ gives tt) × IsEmpty (begin_after l)
unfolding begin_answer begin_after with_entries
begins l h =
    let t : leb IndexLength (length l) ≡ true = le-leb IndexLength (length l) h in
    let after : IsEmpty (with_entries [] l) = empty_index (with_entries [] l) (with_entries_long [] l (omega arith) h) refl in
    (rw t refl, rw t after)

-- ---- all of it

counts : (xs : List Exposure) (n : List ℤ) → Stands xs n → count_answer n ≡ gives (length xs)
unfolding count_answer
counts xs n s =
    let t : leb IndexLength (length n) ≡ true = le-leb IndexLength (length n) s.long in
    rw t (ap gives (sym (length_in n) ∙ as_many xs (entries_in n) s.files))

pub history_kept : HistoryCorrect
history_kept = record {
  zeros = λ l h e. empty_index l h (zeros_first l h e);
  begun = begins;
  kept = λ l n h rs e u runs.
      let o = run h rs l n [] u (is_empty l e) runs in
      let xs = content_of OwnerCapacity h in
      record { answers = o.0; index = is_index xs n o.1; content = o.1.files.matches; count = counts xs n o.1; again = serves_again h o.1.files.within };
  room = room_left;
}
