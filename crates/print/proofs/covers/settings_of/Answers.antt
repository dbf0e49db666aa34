-- The header of an accepted file has the file's depth and budget.
use Rattle.std.proofs.Common.{◌∙◌}
use Rattle.print.proofs.HeaderLaws.{settings_accepted}
use Rattle.print.proofs.covers.settings_of.Goals as goal

pub returns : goal.returns
returns c x e = c.header_in.ensures ∙ settings_accepted _ x e
