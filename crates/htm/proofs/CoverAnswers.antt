-- The cover's answer by its checks in their order: the file's, then the lent list's length, then the cover of the rows that the file was decoded to.
-- Assumes nothing.
use Prim.Native.Nat.{ℕ, ◌*◌, ◌≤◌, ◌<◌}
use native.Mathlib.Omega.{arith}
use mathlib.Core.Path.{◌≡◌, sym, ap, ◌∙◌}
use mathlib.Core.Bool.{Bool}
use mathlib.Core.List.{List}
use lib.Dec.{leb}
use lib.ListN.{length}
use lib.IntN.{ℤ}
use borrow.Author.Tests.{le-leb, lt-leb}
use Rattle.answer.specs.Answer.{Answer, refused, gives, check, then, with_value, Space}
use Rattle.answer.specs.Lent.{stored, room}
use Rattle.answer.proofs.AnswerLaws.{value_refused}
use Rattle.region.specs.declared.Header.{Header}
use Rattle.region.specs.Budgets.{budget_of}
use Rattle.region.specs.Reader.{File, read}
use Rattle.region.specs.Answers.{header_of}
use Rattle.covering.specs.declared.Counts.{Counts}
use Rattle.covering.specs.Cover.{cover, counts_of}
use Rattle.covering_walk.specs.Walk.{CoversRows}
use Rattle.covering_calls.specs.Decoded.{Decoded}
use Rattle.covering_calls.proofs.DecodedLaws.{budget_same, rows_cover}
use Rattle.htm.specs.Answers.{cover_into, cover_answer, both_lists, cover_after}

module _ (f before : List ℕ) where
  into : (a : Answer File) → read f ≡ a → cover_into f before ≡ then a (λ x. room (4 * budget_of x.budget) before x)
  into a e = ap (λ b. then b (λ x. room (4 * budget_of x.budget) before x)) e

  answered : (a : Answer File) → cover_into f before ≡ a → (with_value (λ x. counts_of (cover x)) a ≡ cover_answer f before) × (stored both_lists a before ≡ cover_after f before)
  unfolding cover_answer cover_after
  answered a e = (ap (with_value (λ x. counts_of (cover x))) (sym e), ap (λ b. stored both_lists b before) (sym e))

  pub file_refused : (n : ℕ) → refused n ≡ with_value header_of (read f) → (refused n ≡ cover_answer f before) × (before ≡ cover_after f before)
  file_refused n e = answered (refused n) (into (refused n) (value_refused header_of (read f) n (sym e)))

  module _ (d : Header) (rs : List ℤ) (k : Decoded f d rs) where
    gives_file : {t : Bool} → leb (4 * budget_of k.file.budget) (length before) ≡ t → cover_into f before ≡ check Space t (gives k.file)
    gives_file e = into (gives k.file) k.accepted ∙ ap (λ t. check Space t (gives k.file)) e

    pub no_room : length before < 4 * budget_of d.budget → (refused Space ≡ cover_answer f before) × (before ≡ cover_after f before)
    no_room h = answered (refused Space) (gives_file (lt-leb (4 * budget_of k.file.budget) (length before) (omega (arith, budget_same k))))

    pub covered : 4 * budget_of d.budget ≤ length before → {c : Counts} {after : List ℕ} → CoversRows d.count rs (budget_of d.budget) d.depth before c after
        → (gives c ≡ cover_answer f before) × (after ≡ cover_after f before)
    covered h {c} {after} u =
        let a = answered (gives k.file) (gives_file (le-leb (4 * budget_of k.file.budget) (length before) (omega (arith, budget_same k)))) in
        let r = rows_cover k before u in
        (ap gives r.0 ∙ a.0, r.1 ∙ a.1)
