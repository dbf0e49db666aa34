-- `trial_calls::try_setting` searches with the budget of the setting, and counts what was found. Assumes nothing.
use mathlib.Core.Path.{sym, subst}
use Rattle.trial_calls.specs.Tries.{Tries}
use Rattle.trial_calls.proofs.ScoreLaws.{spanned_few, scored}
use Rattle.trial_calls.proofs.try_setting.Goals as goal

pub score_of-requires : goal.score_of-requires
score_of-requires c =
    let k = c.requires.le_depth in
    (k.0, k.1, spanned_few c.args.s c.budget_of-budget.ensures.0 c.search-made.ensures k.2.0 k.2.1 k.1)

pub returns : goal.returns
returns c g k =
    let a = c.args in
    subst (λ r. Tries a.entries.owner a.entries.index.now a.s g a.ranges.now r c.search-made.new.ranges) (sym c.score_of.ensures)
    (scored a.s c.budget_of-budget.ensures.0 c.search-made.ensures g k)
