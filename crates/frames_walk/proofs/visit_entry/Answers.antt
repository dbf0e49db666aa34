-- `frames_walk::visit_entry` does one turn of the walk. Assumes nothing.
use mathlib.Core.Path.{refl}
use Rattle.frames_walk.proofs.WalkLaws.{turned}
use Rattle.frames_walk.proofs.visit_entry.Goals as goal

pub returns-clause-visits_entry : goal.returns-clause-visits_entry
returns-clause-visits_entry c =
    let v = c.args in
    turned v.region v.e v.at v.numbers.now _ _ c.shortened-id.result c.disposition_of-disposition.result
    record {
      id = c.shortened-id.ensures;
      outer = c.ahead.ensures;
      inner = c.ahead-2.ensures;
      span = refl;
      disposition = cc (c.disposition_of-disposition.ensures, c.begins.ensures, c.begins-2.ensures);
      visited = refl;
      dispositions = c.count_disposition.ensures;
      numbers = c.deliver.ensures;
    }
