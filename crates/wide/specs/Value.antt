-- Numbers of two words. Document 01, 'Classifying': squares pass 64 bits, so two-word numbers are needed for comparing.
--   value_of w   the number that the two words are
use Rattle.std.specs.Prelude.{ℕ, ◌+◌, ◌*◌, ◌^◌}
use Rattle.wide.specs.declared.Wide.{Wide}

abbrev pub value_of : Wide → ℕ
value_of w = w.hi * 2 ^ 64 + w.lo
