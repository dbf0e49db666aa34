-- The end of what is collected, after a write that failed; and an answer that was not given, because of one or because of a refusal.
use Rattle.std.specs.Prelude.{ℕ, ◌≡◌, Bool, true, false, List, Option, Some, None, Result, Ok, Err}
use Rattle.answer.specs.Answer.{refused}
use Rattle.answer.specs.Calls.{number}
use Rattle.region.specs.Reader.{read}
use Rattle.print.specs.declared.Fault.{Fault}
use Rattle.print.specs.declared.Fault.TheVariants.{Malformed, Refused, Lost}

abbrev pub lost : Option ℕ
lost = None

abbrev pub is_lost : Result (Unit {0}) Fault → Bool
is_lost (Ok u) = false
is_lost (Err Lost) = true
is_lost (Err Malformed) = false
is_lost (Err (Refused n)) = false

-- the number of the refusal that an answer is, if it is one
abbrev pub refusal_of : Result (Unit {0}) Fault → Option ℕ
refusal_of (Ok u) = None
refusal_of (Err Lost) = None
refusal_of (Err Malformed) = None
refusal_of (Err (Refused n)) = Some (number n)

-- a file that is refused gives its refusal, and nothing is collected: e is the end before, d that after
abbrev pub RefusedAsRead : List ℕ → Result (Unit {0}) Fault → Option ℕ → Option ℕ → Type 0
RefusedAsRead f r e d = (n : ℕ) → read f ≡ refused n → (refusal_of r ≡ Some n) × (d ≡ e)
