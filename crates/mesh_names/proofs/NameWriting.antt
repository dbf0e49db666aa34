-- A name written from its last digit to its letter. What is left of the identifier, with its digits still to write before those that stand in the
-- list already, is the whole name. Assumes nothing.
use Prim.Native.Nat.{ℕ, zero, suc, ◌+◌, ◌-◌, ◌/◌, ◌%◌, ◌^◌, ◌≤◌, ◌<◌}
use native.Mathlib.Nat.{zero-add, pow-succ', div-div-eq-div-mul}
use native.Mathlib.Numerals.{add-one}
use native.Mathlib.Omega.{arith}
use mathlib.Core.Path.{◌≡◌, refl, sym, ap, ◌∙◌, subst}
use mathlib.Core.List.{List, ◌∷◌, ◌++◌}
use lib.ListN.{length, drop, set, length-set}
use lib.Seq.{append_snoc, drop-cons, drop-set-lt, get_or-set_same}
use borrow.Author.Tests.{lt-ltb, le-leb, lt-leb}
use Rattle.answer.specs.Answer.{refused, gives, Name, Space}
use Rattle.mesh.specs.Identifiers.{depth_of}
use Rattle.mesh.specs.Names.{digit0, digits, letter, name_at, name_of}
use Rattle.mesh.specs.Answers.{name_answer, name_after}
use Rattle.mesh.proofs.NameLaws.{digits_length}

-- ---- the list

-- the digits of the identifier id of depth d after position k stand in xs, and rest is what is left of id
pub record Written (id d : ℕ) (before xs : List ℕ) (rest k : ℕ) : Type 0 where
  pub same : length xs ≡ length before
  pub most : k ≤ d
  pub front : rest / 4 ^ k ≡ id / 4 ^ d
  pub name : digits k rest ++ drop (k + 1) xs ≡ digits d id ++ drop (d + 1) before

-- a stored element, and what stands after it
set_then_drop : (xs : List ℕ) (k a : ℕ) → k < length xs → drop k (set xs k a) ≡ a ∷ drop (k + 1) xs
set_then_drop xs k a h =
    let l : k < length (set xs k a) = omega (arith, length-set xs k a) in
    rw (add-one, drop-cons (set xs k a) k 0, get_or-set_same xs k a 0, drop-set-lt (suc k) xs k a (omega arith)) refl

module _ (id d : ℕ) (before xs : List ℕ) (rest : ℕ) (room : d < length before) where
  digit_more : (k : ℕ) → Written id d before xs rest (suc k) → Written id d before (set xs (suc k) (digit0 + rest % 4)) (rest / 4) k
  unfolding digits
  digit_more k w =
      let a = digit0 + rest % 4 in
      let l : suc k < length xs = omega arith in
      let q : rest / 4 / 4 ^ k ≡ rest / 4 ^ suc k = div-div-eq-div-mul rest 4 (4 ^ k) ∙ ap (λ x. rest / x) (sym (pow-succ' 4 k)) in
      record {
        same = length-set xs (suc k) a ∙ w.same;
        most = omega arith;
        front = q ∙ w.front;
        name =
            ap (λ n. digits k (rest / 4) ++ drop n (set xs (suc k) a)) (add-one k)
            ∙ ap (λ t. digits k (rest / 4) ++ t) (set_then_drop xs (suc k) a l)
            ∙ sym (append_snoc (digits k (rest / 4)) a (drop (suc k + 1) xs))
            ∙ w.name;
      }

  pub written_digit : (k : ℕ) → 0 < k → Written id d before xs rest k → Written id d before (set xs k (digit0 + rest % 4)) (rest / 4) (k - 1)
  written_digit zero h w = absurd (omega arith)
  written_digit (suc k) h w = subst (Written id d before (set xs (suc k) (digit0 + rest % 4)) (rest / 4)) (omega arith) (digit_more k w)

  pub written_all : (k : ℕ) → k < 1 → Written id d before xs rest k → set xs 0 (letter rest) ≡ name_at d id ++ drop (d + 1) before
  unfolding digits
  written_all zero h w =
      let r : rest ≡ id / 4 ^ d = omega (arith, w.front) in
      set_then_drop xs 0 (letter rest) (omega (arith, w.same)) ∙ ap (λ x. letter x ∷ drop 1 xs) r ∙ ap (λ l. letter (id / 4 ^ d) ∷ l) w.name
  written_all (suc k) h w = absurd (omega arith)

-- ---- the answer

module _ (i : ℕ) (before : List ℕ) where
  pub not_named : depth_of i ≡ 0 → (refused Name ≡ name_answer i before) × (before ≡ name_after i before)
  unfolding name_answer name_after name_of
  not_named e = (simp e, simp e)

  pub no_room : 0 < depth_of i → length before ≤ depth_of i → (refused Space ≡ name_answer i before) × (before ≡ name_after i before)
  unfolding name_answer name_after name_of
  no_room l h =
      let t = lt-leb (suc (depth_of i)) (length before) (omega arith) in
      (simp (lt-ltb 0 (depth_of i) l, digits_length, t), simp (lt-ltb 0 (depth_of i) l, digits_length, t))

  pub named : (d : ℕ) → d ≡ depth_of i → 0 < d → d < length before → (xs : List ℕ) → xs ≡ name_at d i ++ drop (d + 1) before
      → (gives (d + 1) ≡ name_answer i before) × (xs ≡ name_after i before)
  unfolding name_answer name_after name_of
  named d e l h xs w =
      let t = le-leb (suc d) (length before) h in
      (simp (sym e, lt-ltb 0 d l, digits_length, t, add-one), simp (sym e, lt-ltb 0 d l, digits_length, t, w, add-one, zero-add))
