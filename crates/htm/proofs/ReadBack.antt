-- What a trial for C returns and leaves in its list of numbers is read back as what it answered: its numbers as its result, and a status that is not 0 as its
-- refusal, for no refusal has the number 0 (RefusalNumbers). So `htm_chosen` gives the part of that answer. Assumes nothing.
use Prim.Native.Nat.{ℕ, zero, suc, ◌≤◌}
use Rattle.std.specs.Prelude.{Result, Ok, Err}
use native.Mathlib.Omega.{arith}
use mathlib.Core.Path.{◌≡◌, refl, sym, ap, subst, ◌∙◌}
use mathlib.Core.Bool.{true, cond}
use mathlib.Core.List.{List}
use lib.Dec.{ltb, leb}
use lib.ListN.{length}
use lib.IntN.{pos, neg_ℤ}
use borrow.Author.Tests.{ltb-true, ne_eqb, le-leb}
use Rattle.answer.specs.declared.Refusal.{Refusal}
use Rattle.answer.specs.Answer.{Answer, refused, gives, check, Space}
use Rattle.answer.specs.Calls.{answer_of}
use Rattle.answer.specs.Lent.{put, stored}
use Rattle.answer.proofs.PutLaws.{put_length}
use Rattle.trial.specs.declared.Choice.{Choice}
use Rattle.trial.specs.declared.Choice.TheVariants.{First, Second}
use Rattle.trial.specs.declared.Trial.{Trial}
use Rattle.trial.specs.Answers.{trial_list, trial_counts, of_choice}
use Rattle.htm_abi.specs.Values.{status_of}
use Rattle.htm_abi.specs.TrialValues.{choice_in, trial_in, trial_given, numbered, answer_in, part_list}
use Rattle.htm.specs.TrialFromC.{trial_for_c, first_after_c, second_after_c, trial_after_c, chosen_for_c, ReadBack, PartForC, CallReadBack, CallPartForC}
use Rattle.htm.proofs.RefusalNumbers.{Nonzero, trial_nonzero}

choice_back : (c : Choice) → choice_in (of_choice c 1 2) ≡ c
choice_back First = refl
choice_back Second = refl

read_list : (t : Trial) (ns : List ℕ) → trial_in (put 0 (trial_list t) ns) ≡ t
read_list t ns i = record { first = t.first; second = t.second; choice = choice_back t.choice i }

-- the list of numbers after an answer
abbrev left : Answer Trial → List ℕ → List ℕ
left a ns = stored (λ t before. put 0 (trial_list t) before) a ns

refusal_back : (n : ℕ) (ns : List ℕ) → ltb 0 n ≡ true → answer_in (neg_ℤ (pos n)) ns ≡ Err n
refusal_back zero ns e = absurd (omega (arith, ltb-true 0 0 e))
refusal_back (suc n) ns e = ap (λ b. cond b (Ok (trial_in ns)) (Err (suc n))) (ne_eqb (suc n) 0 (λ z. omega arith))

answer_back : (r : Result Trial ℕ) (ns : List ℕ) → Nonzero (trial_given r) → answer_in (status_of (trial_given r)) (left (trial_given r) ns) ≡ r
answer_back (Ok t) ns e = ap Ok (read_list t ns)
answer_back (Err n) ns e = refusal_back n ns (e.number n refl)

pub read_back : ReadBack
unfolding trial_after_c
read_back o l f s t first second numbers r e =
    ap (λ a. answer_in (status_of a) (left a numbers)) (sym e)
    ∙ answer_back r numbers (subst Nonzero (sym e) (trial_nonzero o l f s t first second numbers))

-- ---- the part

length_left : (a : Answer Trial) (ns : List ℕ) → trial_counts ≤ length ns → length (left a ns) ≡ length ns
length_left (refused n) ns h = refl
length_left (gives t) ns h = put_length 0 (trial_list t) ns h

pub part_for_c : PartForC
unfolding trial_after_c chosen_for_c
part_for_c o l f s t first second numbers part r e h k =
    let one = first_after_c o l f s t first second numbers in
    let two = second_after_c o l f s t first second numbers in
    let a = trial_for_c o l f s t first second numbers in
    let long : leb trial_counts (length (left a numbers)) ≡ true = le-leb trial_counts (length (left a numbers)) (omega (arith, length_left a numbers h, h)) in
    λ i. check Space (long i) (check Space (le-leb 2 (length part) k i) (gives (part_list (read_back o l f s t first second numbers r e i) one two)))

-- ---- what a call in Rattle answered

-- the number of a refusal stands for it
called : (r : Result Trial Refusal) → trial_given (numbered r) ≡ answer_of r
called (Ok t) = refl
called (Err r) = refl

-- and says nothing of the part
part_called : (r : Result Trial Refusal) (first second : List ℕ) → part_list (numbered r) first second ≡ part_list r first second
part_called (Ok t) first second = refl
part_called (Err r) first second = refl

pub call_read_back : CallReadBack
call_read_back o l f s t first second numbers r e = read_back o l f s t first second numbers (numbered r) (called r ∙ e)

pub call_part_for_c : CallPartForC
call_part_for_c o l f s t first second numbers part r e h k =
    part_for_c o l f s t first second numbers part (numbered r) (called r ∙ e) h k
    ∙ ap gives (part_called r (first_after_c o l f s t first second numbers) (second_after_c o l f s t first second numbers))
