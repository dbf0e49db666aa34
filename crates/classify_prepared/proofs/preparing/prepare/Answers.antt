-- `classify_prepared::preparing::prepare` prepares all rows. Assumes nothing.
use Rattle.classify_prepared.proofs.preparing.prepare.Goals as goal

pub returns-clause-halfspaces_after : goal.returns-clause-halfspaces_after
returns-clause-halfspaces_after c = c.prepare_rows-region.ensures.halfspaces_after
