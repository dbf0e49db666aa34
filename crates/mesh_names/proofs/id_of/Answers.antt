-- The code makes the definition's test, and then takes the value. Assumes nothing.
use mathlib.Core.Path.{sym, ◌∙◌}
use Rattle.mesh.specs.Names.{identifier_of}
use Rattle.mesh_names.proofs.id_of.Goals as goal

pub value_of-requires : goal.value_of-requires
value_of-requires c = sym c.is_name.ensures ∙ c.if-is_name.true

pub returns-then-is_name : goal.returns-then-is_name
unfolding identifier_of
returns-then-is_name c = simp (c.value_of.ensures, sym c.is_name.ensures ∙ c.if-is_name.true)

pub returns-else-is_name : goal.returns-else-is_name
unfolding identifier_of
returns-else-is_name c = simp (sym c.is_name.ensures ∙ c.if-is_name.false)
