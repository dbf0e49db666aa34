use Rattle.std.proofs.Common.{arith}
use Rattle.std.proofs.lemmas.Grind.{common_steps}
use Rattle.index_entries.proofs.entry_at.Goals as goal

pub returns : goal.returns
returns c = grind (arith, common_steps)
