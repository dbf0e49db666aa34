-- What the parts of the reader of catalogue lines give, in the terms of Lines (document 02, F-3): the contracts of the functions below the call.
--   Valued            the value of a decimal, and the bytes after it
--   valued a          the value of the decimal that a gives
--   read_given r       the answer of a function that reads a decimal, if there is one
--   vector_given r     the answer of a function that reads a vector, if there is one
--   Reads w s r       r has the digits at the beginning of s, at most seven, after the whole part w: number, power of ten, what follows them
use Rattle.std.specs.Prelude.{ℕ, ◌+◌, ◌*◌, ◌^◌, ◌≤◌, ◌<◌, ◌≡◌, Option, Some, None, List, length, drop, ℤ}
use Rattle.answer.specs.Answer as answer
use Rattle.answer.specs.Answer.{Answer, refused, gives, with_value}
use Rattle.vector.specs.declared.Vec3.{Vec3}
use Rattle.catalogue_line.specs.declared.ReadDecimal.{ReadDecimal}
use Rattle.catalogue_line.specs.declared.Fraction.{Fraction}
use Rattle.catalogue_line.specs.Lines.{Found, value, number, digits_in}

pub record Valued : Type 0 where
  pub value : ℤ
  pub rest : List ℕ

abbrev pub valued_of : Found → Valued
valued_of f = record { value = value f.decimal; rest = f.rest }

abbrev pub valued : Answer Found → Answer Valued
valued a = with_value valued_of a

abbrev pub read_given : Option ReadDecimal → Answer Valued
read_given (Some d) = gives (record { value = d.value; rest = d.rest.now })
read_given None = refused answer.Line

abbrev pub vector_given : Option Vec3 → Answer Vec3
vector_given (Some v) = gives v
vector_given None = refused answer.Line

pub record Reads (w : ℕ) (s : List ℕ) (r : Fraction) : Type 0 where
  pub number : r.number ≡ w * 10 ^ length (digits_in 7 s) + number (digits_in 7 s)
  pub power : r.power ≡ 10 ^ length (digits_in 7 s)
  pub rest : r.rest.now ≡ drop (length (digits_in 7 s)) s
  pub small : r.number < 2 ^ 32
  pub some : 1 ≤ r.power
