-- The component of a float: document 02, F-1. A float is not a number, an infinity, or the number m · 2^e with a sign (lib.Ieee); 2^e is up e / down e.
--   component_of v   v times 2^20, truncated toward zero; 12 where v is not finite or beyond 1 in size
use Rattle.std.specs.Prelude.{◌*◌, ◌/◌, ◌^◌, leb, ℤ}
use Rattle.std.specs.Float.Ieee as Ieee
use Rattle.std.specs.Float.{nan, inf, fin}
use Rattle.std.specs.Float.Ieee.{up, down}
use Rattle.answer.specs.Answer.{Answer, refused, gives, check, Float}
use Rattle.vector.specs.Numbers.{signed}

abbrev pub component_of : Ieee.Float → Answer ℤ
component_of nan = refused Float
component_of (inf s) = refused Float
component_of (fin s m e) = check Float (leb (m * up e) (down e)) (gives (signed s (m * up e * 2 ^ 20 / down e)))
