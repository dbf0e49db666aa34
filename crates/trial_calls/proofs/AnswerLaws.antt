-- The answer by its checks in their order: the owner, the file's, those of both settings and of the lists' lengths, then the results of the two settings.
-- Assumes nothing.
use Prim.Native.Nat.{ℕ}
use Rattle.std.specs.Prelude.{Ok, Err}
use mathlib.Core.Path.{◌≡◌, sym, ap, ◌∙◌}
use mathlib.Core.Bool.{true, false}
use mathlib.Core.List.{List}
use lib.ListN.{length}
use lib.IntN.{ℤ}
use Rattle.answer.specs.declared.Refusal.{Refusal}
use Rattle.answer.specs.Calls.{number}
use Rattle.answer.specs.Answer.{Answer, refused, gives, check, then, with_value, Owner}
use Rattle.answer.specs.Lent.{stored}
use Rattle.answer.proofs.AnswerLaws.{value_refused}
use Rattle.region.specs.declared.Header.{Header}
use Rattle.region.specs.Reader.{File, read}
use Rattle.region.specs.Answers.{header_of}
use Rattle.covering_calls.specs.Decoded.{Decoded}
use Rattle.index.specs.Exposures.{is_owner}
use Rattle.trial.specs.declared.Setting.{Setting}
use Rattle.trial.specs.Trials.{choice_of, trial_of}
use Rattle.trial.specs.Answers.{TrialCall, check_setting, trial_into, trial_answer, lists_by, first_after, second_after}
use Rattle.trial_calls.specs.declared.ScoredSetting.{ScoredSetting}
use Rattle.trial_calls.specs.Tries.{check_lengths, Checks, trial_by, Tries}

module _ (o : ℕ) (l : List ℤ) (f : List ℕ) (s t : Setting) (first second : List ℕ) where
  refuses : (r : Refusal) → trial_into o l f s t first second ≡ refused (number r) → TrialCall o l f s t first second (Err r) first second
  unfolding trial_answer first_after second_after
  refuses r e = record {
    answer = sym (ap (with_value (λ x. trial_of o l x.region s t)) e);
    first_left = sym (ap (λ a. stored (lists_by s) a first) e);
    second_left = sym (ap (λ a. stored (lists_by t) a second) e);
  }

  -- behind the owner's check and the file's
  abbrev rest : File → Answer File
  rest x = check_setting s (check_setting t (check_lengths (length l) s t (length first) (length second) (gives x)))

  pub no_owner : is_owner o ≡ false → TrialCall o l f s t first second (Err Refusal.Owner) first second
  no_owner e = refuses Refusal.Owner (ap (λ b. check Owner b (then (read f) rest)) e)

  module _ (own : is_owner o ≡ true) where
    pub file_refused : (r : Refusal) → refused (number r) ≡ with_value header_of (read f) → TrialCall o l f s t first second (Err r) first second
    file_refused r e = refuses r (ap (λ b. check Owner b (then (read f) rest)) own ∙ ap (λ a. then a rest) (value_refused header_of (read f) (number r) (sym e)))

    module _ {h : Header} {rs : List ℤ} (k : Decoded f h rs) where
      into : trial_into o l f s t first second ≡ rest k.file
      into = ap (λ b. check Owner b (then (read f) rest)) own ∙ ap (λ a. then a rest) k.accepted

      pub check_refused : (r : Refusal) → Checks (length l) s t (length first) (length second) (Err r) → TrialCall o l f s t first second (Err r) first second
      check_refused r c = refuses r (into ∙ c (gives k.file))

      pub tried_both : Checks (length l) s t (length first) (length second) (Ok tt) → (a b : ScoredSetting) (one two : List ℕ)
          → Tries o l s k.file.region first a one → Tries o l t k.file.region second b two
          → TrialCall o l f s t first second (Ok (trial_by a b)) one two
      unfolding trial_answer first_after second_after trial_of
      tried_both c a b one two u v =
          let e = into ∙ c (gives k.file) in
          record {
            answer =
                ap gives (λ i. record { first = u.result i; second = v.result i; choice = choice_of (u.sky i) (v.sky i) })
                ∙ sym (ap (with_value (λ x. trial_of o l x.region s t)) e);
            first_left = u.lists_left ∙ sym (ap (λ y. stored (lists_by s) y first) e);
            second_left = v.lists_left ∙ sym (ap (λ y. stored (lists_by t) y second) e);
          }
