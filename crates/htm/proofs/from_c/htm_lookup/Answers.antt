-- `htm::from_c::htm_lookup` is the identifier, which has at most 26 bits, or minus the refusal. Assumes nothing.
use native.Mathlib.Omega.{arith}
use mathlib.Core.Path.{◌≡◌, sym, ◌∙◌}
use mir.Facts.{to_z-of_z}
use Rattle.answer.specs.Calls.{answer_of}
use Rattle.vector.specs.Vectors.{vec}
use Rattle.mesh.specs.Lookup as mesh
use Rattle.htm.proofs.LocatedLaws.{lookup_small}
use Rattle.htm.proofs.from_c.htm_lookup.Goals as goal
use Rattle.htm.proofs.from_c.htm_lookup.Goals.{After-locate}

-- what the lookup answered, by the rule
answered : (c : After-locate) → let s = c.args in answer_of c.locate.result ≡ mesh.lookup (vec s.x s.y s.z) s.depth
answered c =
    c.locate.ensures ∙ (λ i. mesh.lookup (vec (to_z-of_z c.ranges.x i) (to_z-of_z c.ranges.y i) (to_z-of_z c.ranges.z i)) c.args.depth)

pub number_or_minus-requires : goal.number_or_minus-requires
number_or_minus-requires c n e = omega (arith, lookup_small _ _ n (sym (answered (goal.at.number_or_minus-requires c).After-locate) ∙ e))
