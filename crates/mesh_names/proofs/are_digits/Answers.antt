-- The definition makes the tests that `all` makes. Assumes nothing.
use Rattle.std.proofs.Common.{rules, tests}
use Rattle.std.proofs.lemmas.Iterator.{YieldsList-from_slice}
use Rattle.std.proofs.lemmas.Iterator.Search.{all_from_yields_List}
use Rattle.mesh.specs.Names.{is_digit, are_digits}
use Rattle.mesh_names.proofs.are_digits.Goals as goal

pub returns : goal.returns
unfolding are_digits
returns c = all_from_yields_List is_digit _ _ c.all.result c.all.ensures.ran (YieldsList-from_slice c.args.bytes.now cc) (λ x b q k. search (rules, tests))
