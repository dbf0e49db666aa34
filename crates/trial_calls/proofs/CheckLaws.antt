-- The checks behind the file's, one after the other: one that passes lets an answer pass. Where all of them do, both settings are good,
-- and the three lists are long enough. Assumes nothing.
use Prim.Native.Nat.{ℕ, ◌*◌, ◌≤◌}
use mathlib.Core.Path.{◌≡◌, ◌∙◌}
use lib.Dec.{leb}
use borrow.Author.Tests.{leb-true}
use Rattle.std.specs.Prelude.{Ok, Err}
use Rattle.answer.specs.declared.Refusal.{Refusal}
use Rattle.answer.specs.Answer.{Answer, gives, check, Depth, Budget, Space}
use Rattle.answer.proofs.AnswerLaws.{check_passed, check_gives}
use Rattle.vector.specs.Numbers.{is_depth}
use Rattle.vector.proofs.DepthLaws.{depth_range}
use Rattle.region.specs.Budgets.{is_budget, budget_of}
use Rattle.region.specs.Reader.{File}
use Rattle.index.specs.Entries.{IndexLength}
use Rattle.trial.specs.declared.Setting.{Setting}
use Rattle.trial.specs.Answers.{check_setting}
use Rattle.trial_calls.specs.Tries.{SettingRefusal, check_lengths, Checks}

-- ---- the first that fails

module _ (k : ℕ) (s t : Setting) (m n : ℕ) where
  pub no_first : (r : Refusal) → SettingRefusal s (Err r) → Checks k s t m n (Err r)
  no_first r p a = p _

  module _ (p : SettingRefusal s (Ok tt)) where
    pub no_second : (r : Refusal) → SettingRefusal t (Err r) → Checks k s t m n (Err r)
    no_second r q a = p _ ∙ q _

    pub both_checked : SettingRefusal t (Ok tt) → (a : Answer File) → check_setting s (check_setting t a) ≡ a
    both_checked q a = p _ ∙ q a

-- ---- what they say where none fails

checked_depth : (s : Setting) (a : Answer File) (x : File) → check_setting s a ≡ gives x → ((1 ≤ s.depth) × (s.depth ≤ 12)) × (a ≡ gives x)
checked_depth s a x e =
    let b = check Budget (is_budget s.budget) a in
    (depth_range s.depth (check_passed Depth (is_depth s.depth) b x e), check_gives Budget (is_budget s.budget) a x (check_gives Depth (is_depth s.depth) b x e))

pub record SettingsPassed (k : ℕ) (s t : Setting) (m n : ℕ) : Type 0 where
  pub one : (1 ≤ s.depth) × (s.depth ≤ 12)
  pub two : (1 ≤ t.depth) × (t.depth ≤ 12)
  pub first : 4 * budget_of s.budget ≤ m
  pub second : 4 * budget_of t.budget ≤ n
  pub index : IndexLength ≤ k

module _ (k : ℕ) (s t : Setting) (m n : ℕ) where
  pub passed : Checks k s t m n (Ok tt) → File → SettingsPassed k s t m n
  passed e x =
      let p = leb (4 * budget_of s.budget) m in
      let q = leb (4 * budget_of t.budget) n in
      let u = leb IndexLength k in
      let a = checked_depth s (check_setting t (check_lengths k s t m n (gives x))) x (e (gives x)) in
      let b = checked_depth t (check_lengths k s t m n (gives x)) x a.1 in
      let c = check_gives Space p (check Space q (check Space u (gives x))) x b.1 in
      let d = check_gives Space q (check Space u (gives x)) x c in
      record {
        one = a.0;
        two = b.0;
        first = leb-true (4 * budget_of s.budget) m (check_passed Space p (check Space q (check Space u (gives x))) x b.1);
        second = leb-true (4 * budget_of t.budget) n (check_passed Space q (check Space u (gives x)) x c);
        index = leb-true IndexLength k (check_passed Space u (gives x) x d);
      }
