-- `htm::from_c::htm_corners` finds the corners, checks the lent list's length, and puts them. Assumes nothing.
use native.Mathlib.Omega.{arith}
use mathlib.Core.Path.{◌≡◌, sym, ap, ◌∙◌}
use Rattle.answer.specs.Calls.{answer_of}
use Rattle.answer.specs.Answer.{gives}
use Rattle.mesh.specs.Identifiers.{corners}
use Rattle.htm.proofs.CLaws.{sent, corners_small, no_corners, no_room, corners_put}
use Rattle.htm.proofs.from_c.htm_corners.Goals as goal
use Rattle.htm.proofs.from_c.htm_corners.Goals.{In-Ok}

-- the corners that were found, by the rule
found : (c : In-Ok) → gives c.in-Ok.c ≡ corners c.args.id
found c = sym (ap answer_of c.in-Ok.is) ∙ c.corners.ensures

pub returns-then-out-lt-CORNERS_LENGTH : goal.returns-then-out-lt-CORNERS_LENGTH
returns-then-out-lt-CORNERS_LENGTH c =
    let s = c.args in
    let k = no_room s.id s.out.now _ (found (goal.at.returns-then-out-lt-CORNERS_LENGTH c).In-Ok) (omega (arith, c.if-out-lt-CORNERS_LENGTH.true)) in
    record {
      value = sent c.minus.ensures c.number.ensures ∙ k.0;
      out_after = k.1;
    }

pub put_corners-requires : goal.put_corners-requires
put_corners-requires c = record {
  in_bounds = omega (arith, c.if-out-lt-CORNERS_LENGTH.false);
  small_corners = corners_small c.args.id _ (found (goal.at.put_corners-requires c).In-Ok);
}

pub shape_of-out : goal.shape_of-out
shape_of-out c = c.put_corners.auto.out

pub returns-else-out-lt-CORNERS_LENGTH : goal.returns-else-out-lt-CORNERS_LENGTH
returns-else-out-lt-CORNERS_LENGTH c =
    let s = c.args in
    let k = corners_put s.id s.out.now _ (found (goal.at.returns-else-out-lt-CORNERS_LENGTH c).In-Ok) (omega (arith, c.if-out-lt-CORNERS_LENGTH.false)) in
    record {
      value = k.0;
      out_after = c.put_corners.ensures ∙ k.1;
    }

pub returns-in-Err : goal.returns-in-Err
returns-in-Err c =
    let s = c.args in
    let k = no_corners s.id s.out.now _ (sym (ap answer_of c.in-Err.is) ∙ c.corners.ensures) in
    record {
      value = sent c.minus-in-Err.ensures c.number-in-Err.ensures ∙ k.0;
      out_after = k.1;
    }
