-- A mount's report: three floats kept as they came, in single or double precision. Document 02, F-1: each component by the rule of its width.
-- The lookup that follows: `lookup_report` htm/specs/Answers.
--   three_of x y z   the vector of three components, or the first refusal among them
--   pointing r      the pointing of the report, or 12 where a component is refused
--   single_report x y z, double_report x y z   the report of three floats
use Rattle.std.specs.Prelude.{ℤ, Float}
use Rattle.answer.specs.Answer.{Answer, gives, then}
use Rattle.vector.specs.declared.Vec3.{Vec3}
use Rattle.vector.specs.Vectors.{vec}
use Rattle.mount.specs.declared.Report.{Report}
use Rattle.mount.specs.declared.Report.TheVariants.{Single, Double}
use Rattle.mount.specs.Values.{component_of}

abbrev pub three_of : Answer ℤ → Answer ℤ → Answer ℤ → Answer Vec3
three_of x y z = then x (λ a. then y (λ b. then z (λ c. gives (vec a b c))))

abbrev pub pointing_in : Float → Float → Float → Answer Vec3
pointing_in x y z = three_of (component_of x) (component_of y) (component_of z)

abbrev pub pointing : Report → Answer Vec3
pointing (Single r) = pointing_in r.x r.y r.z
pointing (Double r) = pointing_in r.x r.y r.z

abbrev pub single_report : Float → Float → Float → Report
single_report x y z = Single (record { x = x; y = y; z = z })

abbrev pub double_report : Float → Float → Float → Report
double_report x y z = Double (record { x = x; y = y; z = z })
