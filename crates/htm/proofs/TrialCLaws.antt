-- A trial for a host in C, by its checks in their order: with too few elements for the result it refuses in any case and nothing is stored; else it answers as
-- the call of the crate does. The part for C, by its checks: after a status that is not 0 it is empty. Assumes nothing.
use Prim.Native.Nat.{ℕ, ◌≤◌, ◌<◌}
use Rattle.std.specs.Prelude.{Ok}
use native.Mathlib.Omega.{arith}
use mathlib.Core.Path.{◌≡◌, sym, ap, ◌∙◌}
use mathlib.Core.List.{List, [], ◌∷◌}
use lib.ListN.{length}
use lib.IntN.{ℤ, pos, negsuc, nat_abs}
use mir.Syntax.{w64}
use mir.Val.{SFits, to_z, of_z}
use mir.Facts.{to_z-of_z}
use borrow.Author.Tests.{eq-eqb, ne_eqb, le-leb, lt-leb}
use Rattle.answer.specs.Answer.{Answer, refused, gives, Space}
use Rattle.answer.specs.Lent.{put, stored}
use Rattle.region.specs.Reader.{File}
use Rattle.trial.specs.declared.Setting.{Setting}
use Rattle.trial.specs.declared.Trial.{Trial}
use Rattle.trial.specs.Answers.{trial_into, trial_answer, first_after, second_after, trial_list, trial_counts}
use Rattle.htm_abi.specs.ShortLists.{trial_refusal_or_space}
use Rattle.htm_abi.specs.TrialValues.{trial_in, part_list}
use Rattle.htm_abi.specs.Values.{status_of}
use Rattle.htm.specs.TrialFromC.{trial_for_c, first_after_c, second_after_c, trial_after_c, TrialCallC, chosen_for_c, chosen_after_c}
use Rattle.htm.proofs.RoomLaws.{room_enough, refused_by, in-any-case}

-- ---- the trial

module _ (o : ℕ) (l : List ℤ) (f : List ℕ) (s t : Setting) (first second numbers : List ℕ) where
  -- too short a list for the result: the refusal of the other checks
  pub short_numbers : length numbers < trial_counts
      → (n : ℕ) → trial_refusal_or_space o f s t ≡ refused n → TrialCallC o l f s t first second numbers (status_of {A = File} (refused n)) first second numbers
  unfolding trial_for_c first_after_c second_after_c trial_after_c
  short_numbers k n e =
      let both = refused_by trial_counts numbers k (trial_into o l f s t first second) (trial_refusal_or_space o f s t) (simp in-any-case) in
      let refuses = both.by_call in
      let by_checks = both.by_checks in
      record { status_is = cc; first_left = cc; second_left = cc; numbers_left = cc }

  -- long enough: as the call of the crate
  pub long_numbers : trial_counts ≤ length numbers
      → (a : Answer Trial) (xs ys : List ℕ) → a ≡ trial_answer o l f s t first second → xs ≡ first_after o l f s t first second → ys ≡ second_after o l f s t first second
      → TrialCallC o l f s t first second numbers (status_of a) xs ys (stored (λ r before. put 0 (trial_list r) before) a numbers)
  unfolding trial_for_c first_after_c second_after_c trial_after_c trial_answer first_after second_after
  long_numbers k a xs ys e g q =
      let enough = room_enough trial_counts numbers k (trial_into o l f s t first second) in
      record { status_is = cc; first_left = cc; second_left = cc; numbers_left = cc }

-- ---- the part that is handed back

-- a status is 0 where its bits are
pub zero_status : {z : ℤ} → SFits w64 z → of_z w64 z ≡ 0 → nat_abs z ≡ 0
zero_status h e = ap nat_abs (sym (to_z-of_z h) ∙ ap (to_z w64) e)

-- and it is not 0 where they are not
pub other_status : (z : ℤ) → (of_z w64 z ≡ 0 → ⊥) → nat_abs z ≡ 0 → ⊥
other_status (pos n) h e = h (ap (λ k. of_z w64 (pos k)) e)
other_status (negsuc n) h e = omega arith

module _ (z : ℤ) (ns first second part : List ℕ) where
  -- what the call answers, and the list for the answer afterwards
  abbrev pub Chosen : ℤ → List ℕ → Type 0
  Chosen status xs = (status ≡ status_of (chosen_for_c z ns first second part)) × (xs ≡ chosen_after_c z ns first second part)

  -- too few numbers of a trial: 10
  pub few_numbers : length ns < trial_counts → Chosen (status_of {A = List ℕ} (refused Space)) part
  unfolding chosen_for_c chosen_after_c
  few_numbers h = let short = lt-leb trial_counts (length ns) h in (cc, cc)

  module _ (h : trial_counts ≤ length ns) where
    -- too short a list for the part: 10
    pub no_room_for_part : length part < 2 → Chosen (status_of {A = List ℕ} (refused Space)) part
    unfolding chosen_for_c chosen_after_c
    no_room_for_part k =
        let enough = le-leb trial_counts (length ns) h in
        let short = lt-leb 2 (length part) k in
        (cc, cc)

    module _ (k : 2 ≤ length part) where
      -- both long enough, and the trial was refused: the empty part
      pub no_part : (nat_abs z ≡ 0 → ⊥) → Chosen (status_of {A = List ℕ} (gives [])) (put 0 (0 ∷ 0 ∷ []) part)
      unfolding chosen_for_c chosen_after_c
      no_part n =
          let enough = le-leb trial_counts (length ns) h in
          let long = le-leb 2 (length part) k in
          let other = ne_eqb (nat_abs z) 0 n in
          (cc, cc)

      -- both long enough, and the trial gave its results: the part of its choice
      pub some_part : nat_abs z ≡ 0 → let xs = part_list {E = ℕ} (Ok (trial_in ns)) first second in Chosen (status_of (gives xs)) (put 0 xs part)
      unfolding chosen_for_c chosen_after_c
      some_part n =
          let enough = le-leb trial_counts (length ns) h in
          let long = le-leb 2 (length part) k in
          let zero = eq-eqb (nat_abs z) 0 n in
          (cc, cc)
