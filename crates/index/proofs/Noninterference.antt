-- An owner's answers are those of its own calls alone, and its entries those that they leave: each check of a call looks at its owner's exposures only, so the
-- rule gives of them what it gives of all (`own_call`), and a call of another owner, or of none, leaves them (`other_call`). By induction over the history.
-- Assumes nothing.
use Prim.Native.Nat.{ℕ}
use Rattle.std.specs.Prelude.{Result}
use Rattle.answer.specs.declared.Refusal.{Refusal}
use mathlib.Core.Path.{◌≡◌, sym, ap, subst, ◌∙◌, refl}
use mathlib.Core.Bool.{Bool, true, false, cond, not, ◌&&◌, and-true, and-false, and_self, and_assoc, and_comm}
use mathlib.Core.List.{List, [], ◌∷◌}
use borrow.Author.Tests.{eqb-true, eqb-false, ne_eqb}
use lib.Dec.{eqb, ltb}
use lib.IntN.{ℤ}
use Rattle.algebra.specs.Lists.{some, tally}
use Rattle.algebra.proofs.Tests.{split}
use Rattle.answer.specs.Answer.{Answer, refused, gives, check, with_value, Vector, Twice, Full, Absent, Owner}
use Rattle.vector.specs.Vectors.{is_vector}
use Rattle.index.specs.declared.Key.{Key}
use Rattle.index.specs.Exposures.{OwnerCapacity, is_owner, Exposure, key_of, has_owner, has_key, only, has_place, Call, adds, removes, without, giving, leaving, answered, content_from, content_of, answers_from}
use Rattle.index.specs.Entries.{entry_of, is_owned, entries_in}
use Rattle.index.specs.HistoryCorrect.{Leaves}
use Rattle.index.specs.Noninterference.{owner_of, calls_of, answers_to, Ran, Noninterference, OwnEntries}
use Rattle.index.proofs.TallyLaws.{some_tally, only_tally}
use Rattle.index.proofs.OrderLaws.{only_ascends}
use Rattle.index.proofs.HistoryKept.{history_kept}
use Rattle.index.proofs.OneList.{one_list}

-- ---- answers

module _ {A B : Type 0} (f : A → B) where
  value_check : (n : ℕ) (t : Bool) (a : Answer A) → with_value f (check n t a) ≡ check n t (with_value f a)
  value_check n true a = refl
  value_check n false a = refl

  same_answer : (a : Answer A) → answered (with_value f a) ≡ answered a
  same_answer (refused n) = refl
  same_answer (gives x) = refl

same_left : (f : List Exposure → List Exposure) (a : Answer (List Exposure)) (xs : List Exposure) → leaving (with_value f a) (f xs) ≡ f (leaving a xs)
same_left f (refused n) xs = refl
same_left f (gives ys) xs = refl

-- ---- elements that pass two tests

only_both : {A : Type 0} (f g : A → Bool) (xs : List A) → only f (only g xs) ≡ only (λ x. f x && g x) xs
unfolding only
only_both f g [] = refl
only_both f g (x ∷ xs) = by_test (g x) (f x) (only_both f g xs) refl
  where
    by_test : (t u : Bool) → only f (only g xs) ≡ only (λ y. f y && g y) xs → f x ≡ u
        → only f (cond t (x ∷ only g xs) (only g xs)) ≡ cond (u && t) (x ∷ only (λ y. f y && g y) xs) (only (λ y. f y && g y) xs)
    by_test true true r e = ap (λ v. cond v (x ∷ only f (only g xs)) (only f (only g xs))) e ∙ ap (λ ys. x ∷ ys) r
    by_test true false r e = ap (λ v. cond v (x ∷ only f (only g xs)) (only f (only g xs))) e ∙ r
    by_test false true r e = r
    by_test false false r e = r

-- ---- one owner's exposures

module _ (o : ℕ) where
  abbrev own : List Exposure → List Exposure
  own xs = only (has_owner o) xs

  own_first : (x : Exposure) (xs : List Exposure) → has_owner o x ≡ true → own (x ∷ xs) ≡ x ∷ own xs
  unfolding only
  own_first x xs e = ap (λ b. cond b (x ∷ own xs) (own xs)) e

  other_first : (x : Exposure) (xs : List Exposure) → has_owner o x ≡ false → own (x ∷ xs) ≡ own xs
  unfolding only
  other_first x xs e = ap (λ b. cond b (x ∷ own xs) (own xs)) e

  -- an exposure with a key is its owner's
  own_key : (k : Key) → k.owner ≡ o → (x : Exposure) → (has_key k x && has_owner o x) ≡ has_key k x
  own_key k e x =
      let b = eqb x.number k.number in
      ap (λ w. has_key k x && has_owner w x) (sym e) ∙ and_assoc b (has_owner k.owner x) (has_owner k.owner x) ∙ ap (λ t. b && t) (and_self (has_owner k.owner x))

  other_key : (k : Key) → eqb k.owner o ≡ false → (x : Exposure) → (has_owner o x && not (has_key k x)) ≡ has_owner o x
  other_key k d x =
      split (has_owner o x)
      (λ t.
      let n : has_owner k.owner x ≡ false = ne_eqb x.owner k.owner (λ e. eqb-false k.owner o d (sym e ∙ eqb-true x.owner o t)) in
      ap (λ b. has_owner o x && not (eqb x.number k.number && b)) n ∙ ap (λ b. has_owner o x && not b) (and-false (eqb x.number k.number)) ∙ and-true (has_owner o x))
      (λ t. ap (λ b. b && not (has_key k x)) t ∙ sym t)

  same_some : (k : Key) → k.owner ≡ o → (xs : List Exposure) → some (has_key k) (own xs) ≡ some (has_key k) xs
  same_some k e xs = some_tally (has_key k) (own xs) ∙ ap (ltb 0) (only_tally (has_key k) (has_owner o) xs ∙ (λ i. tally (λ x. own_key k e x i) xs)) ∙ sym (some_tally (has_key k) xs)

  same_place : (xs : List Exposure) → has_place OwnerCapacity (has_owner o) (own xs) ≡ has_place OwnerCapacity (has_owner o) xs
  same_place xs = ap (λ n. ltb n OwnerCapacity) (only_tally (has_owner o) (has_owner o) xs ∙ (λ i. tally (λ x. and_self (has_owner o x) i) xs))

  own_without : (k : Key) (xs : List Exposure) → without k (own xs) ≡ own (without k xs)
  own_without k xs =
      only_both (λ x. not (has_key k x)) (has_owner o) xs ∙ (λ i. only (λ x. and_comm (not (has_key k x)) (has_owner o x) i) xs) ∙ sym (only_both (has_owner o) (λ x. not (has_key k x)) xs)

  other_without : (k : Key) → eqb k.owner o ≡ false → (xs : List Exposure) → own (without k xs) ≡ own xs
  other_without k d xs = only_both (has_owner o) (λ x. not (has_key k x)) xs ∙ (λ i. only (λ x. other_key k d x i) xs)

  -- ---- a call of the owner

  own_call : (c : Call) → eqb (owner_of c) o ≡ true → (xs : List Exposure) → giving OwnerCapacity c (own xs) ≡ with_value own (giving OwnerCapacity c xs)
  own_call (adds x) e xs =
      let is : x.owner ≡ o = eqb-true x.owner o e in
      let w = is_owner x.owner in
      let v = is_vector x.pointing in
      let s = some (has_key (key_of x)) xs in
      let p = has_place OwnerCapacity (has_owner x.owner) xs in
      let twice : some (has_key (key_of x)) (own xs) ≡ s = same_some (key_of x) is xs in
      let full : has_place OwnerCapacity (has_owner x.owner) (own xs) ≡ p = subst (λ m. has_place OwnerCapacity (has_owner m) (own xs) ≡ has_place OwnerCapacity (has_owner m) xs) (sym is) (same_place xs) in
      (λ i. check Owner w (check Vector v (check Twice (not (twice i)) (check Full (full i) (gives (sym (own_first x xs e) i))))))
      ∙ sym (value_check own Owner w _ ∙ ap (check Owner w) (value_check own Vector v _ ∙ ap (check Vector v) (value_check own Twice (not s) _ ∙ ap (check Twice (not s)) (value_check own Full p _))))
  own_call (removes k) e xs =
      let w = is_owner k.owner in
      let s = some (has_key k) xs in
      let there : some (has_key k) (own xs) ≡ s = same_some k (eqb-true k.owner o e) xs in
      (λ i. check Owner w (check Absent (there i) (gives (own_without k xs i))))
      ∙ sym (value_check own Owner w _ ∙ ap (check Owner w) (value_check own Absent s _))

  -- ---- a call of another

  still : (n : ℕ) (t : Bool) (a : Answer (List Exposure)) (xs : List Exposure) → own (leaving a xs) ≡ own xs → own (leaving (check n t a) xs) ≡ own xs
  still n true a xs e = e
  still n false a xs e = refl

  other_call : (c : Call) → eqb (owner_of c) o ≡ false → (xs : List Exposure) → own (leaving (giving OwnerCapacity c xs) xs) ≡ own xs
  other_call (adds x) d xs =
      still Owner (is_owner x.owner) _ xs
      (still Vector (is_vector x.pointing) _ xs
      (still Twice (not (some (has_key (key_of x)) xs)) _ xs
      (still Full (has_place OwnerCapacity (has_owner x.owner) xs) _ xs
      (other_first x xs d))))
  other_call (removes k) d xs = still Owner (is_owner k.owner) _ xs (still Absent (some (has_key k) xs) _ xs (other_without k d xs))

  -- ---- all calls: as if the owner's were made alone

  after : Call → List Exposure → List Exposure
  after c xs = leaving (giving OwnerCapacity c xs) xs

  own_after : (c : Call) → eqb (owner_of c) o ≡ true → (xs : List Exposure) → own (after c xs) ≡ leaving (giving OwnerCapacity c (own xs)) (own xs)
  unfolding after
  own_after c e xs = sym (same_left own (giving OwnerCapacity c xs) xs) ∙ ap (λ a. leaving a (own xs)) (sym (own_call c e xs))

  answers_alone : (h : List Call) (xs : List Exposure) → answers_to o h (answers_from OwnerCapacity xs h) ≡ answers_from OwnerCapacity (own xs) (calls_of o h)
  unfolding answers_to answers_from only after
  answers_alone [] xs = refl
  answers_alone (c ∷ h) xs = by_test (eqb (owner_of c) o) refl (answers_alone h (after c xs))
    where
      by_test : (t : Bool) → eqb (owner_of c) o ≡ t → answers_to o h (answers_from OwnerCapacity (after c xs) h) ≡ answers_from OwnerCapacity (own (after c xs)) (calls_of o h)
          → cond t (answered (giving OwnerCapacity c xs) ∷ answers_to o h (answers_from OwnerCapacity (after c xs) h)) (answers_to o h (answers_from OwnerCapacity (after c xs) h))
          ≡ answers_from OwnerCapacity (own xs) (cond t (c ∷ calls_of o h) (calls_of o h))
      by_test true e r =
          let first : answered (giving OwnerCapacity c xs) ≡ answered (giving OwnerCapacity c (own xs)) = sym (same_answer own (giving OwnerCapacity c xs)) ∙ ap answered (sym (own_call c e xs)) in
          let rest = r ∙ ap (λ ys. answers_from OwnerCapacity ys (calls_of o h)) (own_after c e xs) in
          λ i. first i ∷ rest i
      by_test false e r = r ∙ ap (λ ys. answers_from OwnerCapacity ys (calls_of o h)) (other_call c e xs)

  content_alone : (h : List Call) (xs : List Exposure) → own (content_from OwnerCapacity xs h) ≡ content_from OwnerCapacity (own xs) (calls_of o h)
  unfolding content_from only after
  content_alone [] xs = refl
  content_alone (c ∷ h) xs = by_test (eqb (owner_of c) o) refl (content_alone h (after c xs))
    where
      by_test : (t : Bool) → eqb (owner_of c) o ≡ t → own (content_from OwnerCapacity (after c xs) h) ≡ content_from OwnerCapacity (own (after c xs)) (calls_of o h)
          → own (content_from OwnerCapacity (after c xs) h) ≡ content_from OwnerCapacity (own xs) (cond t (c ∷ calls_of o h) (calls_of o h))
      by_test true e r = r ∙ ap (λ ys. content_from OwnerCapacity ys (calls_of o h)) (own_after c e xs)
      by_test false e r = r ∙ ap (λ ys. content_from OwnerCapacity ys (calls_of o h)) (other_call c e xs)

-- ---- the statements

leaves : {h : List Call} {rs : List (Result (Unit {0}) Refusal)} {n : List ℤ} → Ran h rs n → Leaves h rs n
leaves {h} {rs} {n} r = history_kept.kept r.start n h rs r.empty r.numbered r.runs

pub noninterference : Noninterference
unfolding only
noninterference o h g rs qs m n r q e =
    ap (answers_to o h) (leaves r).answers ∙ answers_alone o h [] ∙ ap (answers_from OwnerCapacity []) e ∙ sym (answers_alone o g []) ∙ ap (answers_to o g) (sym (leaves q).answers)

pub own_entries : OwnEntries
unfolding only
own_entries o h rs n r =
    let c = (leaves r).content in
    let es = entries_in n in
    let xs = content_of OwnerCapacity h in
    record {
      ascends = only_ascends (is_owned o) es c.ascends;
      exactly = λ f.
          only_tally f (is_owned o) es
          ∙ c.exactly (λ e. f e && is_owned o e)
          ∙ sym (only_tally (λ x. f (entry_of x)) (has_owner o) xs)
          ∙ ap (tally (λ x. f (entry_of x))) (content_alone o h []);
    }

pub same_entries : (o : ℕ) (h g : List Call) (rs qs : List (Result (Unit {0}) Refusal)) (m n : List ℤ) → Ran h rs m → Ran g qs n → calls_of o h ≡ calls_of o g
    → only (is_owned o) (entries_in m) ≡ only (is_owned o) (entries_in n)
same_entries o h g rs qs m n r q e =
    let a = own_entries o h rs m r in
    let b = own_entries o g qs n q in
    one_list (only (is_owned o) (entries_in m)) (only (is_owned o) (entries_in n)) a.ascends b.ascends
    (λ f. a.exactly f ∙ ap (λ k. tally (λ x. f (entry_of x)) (content_of OwnerCapacity k)) e ∙ sym (b.exactly f))
