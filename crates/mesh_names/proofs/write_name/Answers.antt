use Rattle.mesh_names.proofs.NameWriting.{written_digit, written_all}
use Rattle.mesh_names.proofs.write_name.Goals as goal

pub loop-at-preserved : goal.loop-at-preserved
loop-at-preserved c =
    rw c.last_digit.ensures (written_digit _ _ _ _ _ c.requires _ c.loop-at-test.true c.loop-at.invariant)

pub returns : goal.returns
returns c =
    rw c.letter_of.ensures (written_all _ _ _ _ _ c.requires _ c.loop-at-test.false c.loop-at.invariant)
