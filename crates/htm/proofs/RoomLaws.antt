-- A lent list that a call for C has besides those of the crate's call, of n elements at least: where it is too short the call refuses, by its other checks
-- first; where it is long enough it answers as without that list. The status and every lent list follow, since both are read off the answer (`status_of`,
-- `stored`): each by `cc`. Assumes nothing.
use Prim.Native.Nat.{ℕ, ◌≤◌, ◌<◌}
use mathlib.Core.Path.{◌≡◌, refl, sym, ap}
use mathlib.Core.Bool.{Bool, true, false}
use mathlib.Core.List.{List}
use lib.ListN.{length}
use borrow.Author.Tests.{le-leb, lt-leb}
use Rattle.answer.specs.Answer.{Answer, refused, gives, check, then, Space}
use Rattle.answer.specs.Lent.{room}

-- what is refused in any case: a refusal stays, and whatever is given becomes the refusal 10
abbrev pub refusing : {A : Type 0} → Answer A → Answer A
refusing a = then a (λ x. refused Space)

-- the call and its checks without the list refuse with the same number
pub record BothRefuse {A : Type 0} (call checks : Answer A) : Type 0 where
  pub number : ℕ
  pub by_call : call ≡ refused number
  pub by_checks : checks ≡ refused number

module _ {A X : Type 0} (n : ℕ) (list : List X) where
  -- too short: the answer's own refusal, or 10
  pub room_short : length list < n → (a : Answer A) → then a (λ x. room n list x) ≡ refusing a
  room_short h (refused m) = refl
  room_short h (gives x) = ap (λ t. check Space t (gives x)) (lt-leb n (length list) h)

  -- long enough: the answer
  pub room_enough : n ≤ length list → (a : Answer A) → then a (λ x. room n list x) ≡ a
  room_enough h (refused m) = refl
  room_enough h (gives x) = ap (λ t. check Space t (gives x)) (le-leb n (length list) h)

  -- too short: some number, and it is that of the checks without the list
  pub refused_by : length list < n → (a checks : Answer A) → refusing a ≡ checks → BothRefuse (then a (λ x. room n list x)) checks
  refused_by h (refused m) checks e = record { number = m; by_call = refl; by_checks = sym e }
  refused_by h (gives x) checks e = record { number = Space; by_call = room_short h (gives x); by_checks = sym e }

-- ---- what is left of a call's checks where it refuses in any case: `simp in-any-case`

module _ {A : Type 0} where
  -- a check stays
  pub refusing_check : (n : ℕ) (t : Bool) (a : Answer A) → refusing (check n t a) ≡ check n t (refusing a)
  refusing_check n true a = refl
  refusing_check n false a = refl

  -- a check with 10 before the refusal 10 goes
  pub one_space : (t : Bool) → check {A = A} Space t (refused Space) ≡ refused Space
  one_space true = refl
  one_space false = refl

  -- what is read first stays
  pub refusing_then : {B : Type 0} (a : Answer B) (f : B → Answer A) → refusing (then a f) ≡ then a (λ x. refusing (f x))
  refusing_then (refused n) f = refl
  refusing_then (gives x) f = refl

pub ruleset in-any-case = (refusing_check, one_space, refusing_then)
