-- `htm::located` is the rule of the lookup of a pointing in another form: the checks in their order. Assumes nothing.
use mathlib.Core.Path.{◌≡◌, sym, ap, ◌∙◌}
use mathlib.Core.Bool.{true}
use Rattle.std.proofs.lemmas.Result.{err_from_is_err_and}
use Rattle.vector.specs.Numbers.{is_depth}
use Rattle.answer.specs.Calls.{answer_of}
use Rattle.htm.proofs.LocatedLaws.{no_depth, no_pointing, looked_up}
use Rattle.htm.proofs.located.Goals as goal
use Rattle.htm.proofs.located.Goals.{Else-not-is_depth}

depth : (c : Else-not-is_depth) → is_depth c.args.depth ≡ true
depth c = sym c.is_depth.ensures ∙ c.if-not-is_depth.false

pub returns-then-not-is_depth : goal.returns-then-not-is_depth
returns-then-not-is_depth c = no_depth (answer_of c.args.said) _ (sym c.is_depth.ensures ∙ c.if-not-is_depth.true)

pub returns-in_err-said : goal.returns-in_err-said
returns-in_err-said c =
    let p = err_from_is_err_and c.from_residual.result c.from_residual.ensures.1 in
    rw (p.1, p.2) (no_pointing _ _ (depth (goal.at.returns-in_err-said c).Else-not-is_depth) (sym (ap answer_of c.in_err-said.was)))

pub returns : goal.returns
returns c = looked_up _ _ (depth (goal.at.returns c).Else-not-is_depth) (sym (ap answer_of c.in_ok-said.was)) c.lookup.ensures
