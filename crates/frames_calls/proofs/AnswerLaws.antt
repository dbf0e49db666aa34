-- The answer by its checks in their order: the owner, the file's, the two lent lists' lengths and the index's, then what a search of the file's rows delivers.
-- Assumes nothing.
use Prim.Native.Nat.{ℕ, ◌*◌, ◌≤◌, ◌<◌}
use Rattle.std.specs.Prelude.{Ok, Err}
use native.Mathlib.Omega.{arith}
use mathlib.Core.Path.{◌≡◌, refl, sym, ap, ◌∙◌}
use mathlib.Core.Bool.{Bool, true, false}
use mathlib.Core.List.{List}
use lib.Dec.{leb}
use lib.ListN.{length}
use lib.IntN.{ℤ}
use borrow.Author.Tests.{le-leb, lt-leb}
use Rattle.answer.specs.declared.Refusal.{Refusal}
use Rattle.answer.specs.Calls.{number}
use Rattle.answer.specs.Answer.{Answer, refused, gives, check, then, with_value, Space, Owner}
use Rattle.answer.specs.Lent.{put, stored}
use Rattle.answer.proofs.AnswerLaws.{value_refused}
use Rattle.region.specs.declared.Header.{Header}
use Rattle.region.specs.Budgets.{budget_of}
use Rattle.region.specs.Reader.{File, read}
use Rattle.region.specs.Answers.{header_of}
use Rattle.covering.specs.Cover.{cutting, listed, cover, both_listed}
use Rattle.covering_calls.specs.Decoded.{Decoded}
use Rattle.covering_calls.proofs.DecodedLaws.{budget_same, cover_same}
use Rattle.index.specs.Exposures.{OwnerCapacity, is_owner}
use Rattle.index.specs.Entries.{IndexLength}
use Rattle.index.specs.Answers.{in_list}
use Rattle.frames.specs.Walk.{WalkStep, delivered_by}
use Rattle.frames.specs.Answers.{frames_into, walk_of, frames_by, frames_answer, ranges_after, numbers_after, FramesCall}
use Rattle.frames_walk.specs.Steps.{counts_by}
use Rattle.frames_walk.proofs.StepLaws.{length_delivered, tests_counted}
use Rattle.frames_calls.specs.declared.SearchResult.{SearchResult}
use Rattle.frames_calls.specs.Searches.{walk_beside, SearchesRows, delivery_of}

-- the counts of a walk are its answer
counted : (ms : List WalkStep) → delivery_of (counts_by ms) ≡ frames_by ms
counted ms i = record { delivered = sym (length_delivered ms) i; tests = sym (tests_counted ms) i }

module _ (o : ℕ) (l : List ℤ) (f ranges numbers : List ℕ) where
  refuses : (r : Refusal) → frames_into o l f ranges numbers ≡ refused (number r) → FramesCall o l f ranges numbers (Err r) ranges numbers
  unfolding frames_answer ranges_after numbers_after
  refuses r e = record {
    answer = sym (ap (with_value (λ x. frames_by (walk_of o l x))) e);
    lists_left = sym (ap (λ a. stored (λ x before. both_listed (budget_of x.budget) (cover x) before) a ranges) e);
    numbers_left = sym (ap (λ a. stored (λ x before. put 0 (delivered_by (walk_of o l x)) before) a numbers) e);
  }

  -- behind the owner's check and the file's
  abbrev rest : File → Answer File
  rest x = check Space (leb (4 * budget_of x.budget) (length ranges)) (check Space (leb OwnerCapacity (length numbers)) (in_list l (gives x)))

  pub no_owner : is_owner o ≡ false → FramesCall o l f ranges numbers (Err Refusal.Owner) ranges numbers
  no_owner e = refuses Refusal.Owner (ap (λ t. check Owner t (then (read f) rest)) e)

  module _ (own : is_owner o ≡ true) where
    pub file_refused : (r : Refusal) → refused (number r) ≡ with_value header_of (read f) → FramesCall o l f ranges numbers (Err r) ranges numbers
    file_refused r e = refuses r (ap (λ t. check Owner t (then (read f) rest)) own ∙ ap (λ a. then a rest) (value_refused header_of (read f) (number r) (sym e)))

    module _ (h : Header) (rs : List ℤ) (k : Decoded f h rs) where
      abbrev x : File
      x = k.file

      abbrev B : ℕ
      B = budget_of x.budget

      into : frames_into o l f ranges numbers ≡ rest x
      into = ap (λ t. check Owner t (then (read f) rest)) own ∙ ap (λ a. then a rest) k.accepted

      module _ {a b c : Bool} (p : leb (4 * B) (length ranges) ≡ a) (q : leb OwnerCapacity (length numbers) ≡ b) (r : leb IndexLength (length l) ≡ c) where
        checked : frames_into o l f ranges numbers ≡ check Space a (check Space b (check Space c (gives x)))
        checked = into ∙ (λ i. check Space (p i) (check Space (q i) (check Space (r i) (gives x))))

      pub no_ranges : length ranges < 4 * budget_of h.budget → FramesCall o l f ranges numbers (Err Refusal.Space) ranges numbers
      no_ranges s = refuses Refusal.Space (checked (lt-leb (4 * B) (length ranges) (omega (arith, budget_same k))) refl refl)

      module _ (s : 4 * budget_of h.budget ≤ length ranges) where
        long_ranges : leb (4 * B) (length ranges) ≡ true
        long_ranges = le-leb (4 * B) (length ranges) (omega (arith, budget_same k))

        pub no_numbers : length numbers < OwnerCapacity → FramesCall o l f ranges numbers (Err Refusal.Space) ranges numbers
        no_numbers t = refuses Refusal.Space (checked long_ranges (lt-leb OwnerCapacity (length numbers) t) refl)

        pub no_index : OwnerCapacity ≤ length numbers → length l < IndexLength → FramesCall o l f ranges numbers (Err Refusal.Space) ranges numbers
        no_index t u = refuses Refusal.Space (checked long_ranges (le-leb OwnerCapacity (length numbers) t) (lt-leb IndexLength (length l) u))

        pub delivered : OwnerCapacity ≤ length numbers → IndexLength ≤ length l → (r : SearchResult) (lists left : List ℕ)
            → SearchesRows o l h.depth (budget_of h.budget) rs h.count ranges numbers r lists left
            → FramesCall o l f ranges numbers (Ok (delivery_of r.dispositions)) lists left
        unfolding frames_answer ranges_after numbers_after walk_of
        delivered t u r lists left w =
            let v = w x.region k.rows in
            let e = checked long_ranges (le-leb OwnerCapacity (length numbers) t) (le-leb IndexLength (length l) u) in
            let C = cover_same k in
            let hd = sym k.header in
            let walked : walk_beside o l h.depth x.region (listed (budget_of h.budget) (cutting h.depth x.region)) ≡ walk_of o l x = λ i. walk_beside o l (hd i).depth x.region (C i) in
            record {
              answer = ap gives (ap delivery_of (v.dispositions ∙ ap counts_by walked) ∙ counted (walk_of o l x)) ∙ sym (ap (with_value (λ y. frames_by (walk_of o l y))) e);
              lists_left =
                  v.lists_left ∙ (λ i. both_listed (sym (budget_same k) i) (C i) ranges)
                  ∙ sym (ap (λ a. stored (λ y before. both_listed (budget_of y.budget) (cover y) before) a ranges) e);
              numbers_left =
                  v.numbers_left ∙ ap (λ ms. put 0 (delivered_by ms) numbers) walked
                  ∙ sym (ap (λ a. stored (λ y before. put 0 (delivered_by (walk_of o l y)) before) a numbers) e);
            }
