-- Answers. Document 01, 'What is sent back': every call gives its values, or refuses with one number.
--   Answer A       refused n, or gives a with a of the type A
--   Long .. Owner    the eighteen numbers by their words; from Float on they are of document 02: F-1, F-3, F-7, three of F-10, and F-11
--   check n t a    the refusal n unless the test t passes, else the answer a
--   then a f       f of what a gives; a refusal stays
--   with_value     an answer's value changed; a refusal stays
use Rattle.std.specs.Prelude.{ℕ, Bool, true, false}

pub data Answer (A : Type 0) : Type 0 where
  refused : ℕ → Answer A
  gives : A → Answer A

abbrev pub Long : ℕ
Long = 1

abbrev pub Torn : ℕ
Torn = 2

abbrev pub Kind : ℕ
Kind = 3

abbrev pub Order : ℕ
Order = 4

abbrev pub Depth : ℕ
Depth = 5

abbrev pub Budget : ℕ
Budget = 6

abbrev pub Crowd : ℕ
Crowd = 7

abbrev pub Vector : ℕ
Vector = 8

abbrev pub Offset : ℕ
Offset = 9

abbrev pub Space : ℕ
Space = 10

abbrev pub Name : ℕ
Name = 11

abbrev pub Float : ℕ
Float = 12

abbrev pub Line : ℕ
Line = 13

abbrev pub Mixed : ℕ
Mixed = 14

abbrev pub Twice : ℕ
Twice = 15

abbrev pub Full : ℕ
Full = 16

abbrev pub Absent : ℕ
Absent = 17

abbrev pub Owner : ℕ
Owner = 18

module _ {A : Type 0} where
  abbrev pub check : ℕ → Bool → Answer A → Answer A
  check n true a = a
  check n false a = refused n

module _ {A B : Type 0} where
  abbrev pub then : Answer A → (A → Answer B) → Answer B
  then (refused n) f = refused n
  then (gives a) f = f a

  abbrev pub with_value : (A → B) → Answer A → Answer B
  with_value f (refused n) = refused n
  with_value f (gives a) = gives (f a)
