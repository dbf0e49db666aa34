-- The argument of program catalogue. Document 02, F-3: a good line gets its identifier at the asked depth.
--   DepthInRange r   where a depth is asked for, it is one from 1 to 12
use Rattle.std.specs.Prelude.{◌≡◌, ℕ, true, Option, IfSome}
use Rattle.vector.specs.Numbers.{is_depth}

abbrev pub DepthInRange : Option ℕ → Type 0
DepthInRange r = IfSome r (λ d. is_depth d ≡ true)
