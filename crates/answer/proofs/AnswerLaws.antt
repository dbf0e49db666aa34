-- Where an answer gives a value, every check before it passed. Where a changed value is refused, it was refused before. A call whose number is known gave it.
-- Assumes nothing.
use Prim.Native.Nat.{ℕ}
use mathlib.Core.Path.{◌≡◌, refl, sym, ap}
use mathlib.Core.Bool.{Bool, true, false}
use native.Mathlib.Omega.{arith}
use Rattle.std.specs.Prelude.{Result, Ok, Err}
use Rattle.answer.specs.declared.Refusal.{Refusal}
use Rattle.answer.specs.Answer.{Answer, refused, gives, check, then, with_value}
use Rattle.answer.specs.Calls.{number, answer_of}

module _ {A : Type 0} where
  pub refused_gives {ℓ} : {X : Type ℓ} (n : ℕ) (x : A) → ◌≡◌ {A = Answer A} (refused n) (gives x) → X
  refused_gives n x e = let z : ◌≡◌ {A = ℕ} 0 1 = cc in absurd (omega arith)

  pub check_passed : (n : ℕ) (t : Bool) (a : Answer A) (x : A) → check n t a ≡ gives x → t ≡ true
  check_passed n true a x e = refl
  check_passed n false a x e = refused_gives n x e

  pub check_gives : (n : ℕ) (t : Bool) (a : Answer A) (x : A) → check n t a ≡ gives x → a ≡ gives x
  check_gives n true a x e = e
  check_gives n false a x e = refused_gives n x e

  pub same_value : (x y : A) → ◌≡◌ {A = Answer A} (gives x) (gives y) → x ≡ y
  same_value x y e = cc

module _ {A B : Type 0} where
  pub then_gives : (a : Answer A) (f : A → Answer B) (y : B) → then a f ≡ gives y → (x : A) × (a ≡ gives x) × (f x ≡ gives y)
  then_gives (refused n) f y e = refused_gives n y e
  then_gives (gives x) f y e = (x, refl, e)

  pub value_gives : (f : A → B) (a : Answer A) (y : B) → with_value f a ≡ gives y → (x : A) × (a ≡ gives x) × (f x ≡ y)
  value_gives f (refused n) y e = refused_gives n y e
  value_gives f (gives x) y e = (x, refl, same_value (f x) y e)

  -- a refusal of a changed value was one before
  pub value_refused : (f : A → B) (a : Answer A) (n : ℕ) → with_value f a ≡ refused n → a ≡ refused n
  value_refused f (refused m) n e = cc
  value_refused f (gives x) n e = refused_gives n (f x) (sym e)

-- a call whose answer is known gave it
module _ {A : Type 0} where
  pub given_is : (r : Result A Refusal) (a : A) → answer_of r ≡ gives a → r ≡ Ok a
  given_is (Ok x) a e = ap Ok (same_value x a e)
  given_is (Err n) a e = refused_gives (number n) a e
