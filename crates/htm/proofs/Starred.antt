-- The twelve starred facts, by computing. Assumes nothing.
use mathlib.Core.Path.{refl}
use Rattle.vector.specs.Numbers.{greatest, root, root_in}
use Rattle.vector.specs.Vectors.{unit, scale, is_vector}
use Rattle.mesh.specs.Trixels.{root_trixel, cut, child}
use Rattle.mesh.specs.Identifiers.{depth_of}
use Rattle.mesh.specs.Lookup.{root_number, digit, descend, identifier, lookup}
use Rattle.mesh.specs.Names.{digits, are_digits, is_name, with_digits, value_of, name_of, identifier_of}
use Rattle.htm.specs.Starred.{Starred}

pub starred : Starred
unfolding greatest root root_in unit scale is_vector root_trixel cut child depth_of root_number digit descend identifier lookup digits are_digits is_name with_digits value_of name_of identifier_of
starred = (refl, refl, refl, refl, refl, refl, refl, refl, refl, refl, refl, refl)
