-- A refusal returns before the name is written, and what is written is the name (NameWriting). Assumes nothing.
use native.Mathlib.Omega.{arith}
use Rattle.mesh_names.proofs.NameWriting.{not_named, no_room, named}
use Rattle.mesh_names.proofs.name_of.Goals as goal

pub returns-then-depth-eq0 : goal.returns-then-depth-eq0
returns-then-depth-eq0 c = let both = not_named _ _ (omega arith) in record {
  result_value = both.0;
  out_after = both.1;
}

pub returns-then-out-depth : goal.returns-then-out-depth
returns-then-out-depth c = let both = no_room _ _ (omega arith) (omega arith) in record {
  result_value = both.0;
  out_after = both.1;
}

pub returns : goal.returns
returns c = let both = named _ _ _ (omega arith) (omega arith) (omega arith) _ c.write_name.ensures in record {
  result_value = both.0;
  out_after = both.1;
}
