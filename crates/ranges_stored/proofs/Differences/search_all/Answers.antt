-- `Differences::search_all` is the search for the smallest difference. Assumes nothing.
use mathlib.Core.Path.{subst, sym, refl}
use Rattle.std.proofs.Common.{rules}
use borrow.Author.Tests.{tests}
use Rattle.ranges_stored.proofs.SearchLaws.{Best, searched}
use Rattle.ranges_stored.proofs.HintLaws.{read, best_points}
use Rattle.ranges_stored.proofs.Differences.search_all.Goals as goal
use Rattle.ranges_stored.proofs.Differences.search_all.Goals.{After-unwrap_or-from}

best : (c : After-unwrap_or-from) → let d = c.args.self.now in Best (read d.start d.less d.count d.list.now d.inside) d.count c.unwrap_or-from.result
best c =
    let d = c.args.self.now in
    let r = read d.start d.less d.count d.list.now d.inside in
    subst (Best r d.count) (sym c.unwrap_or-from.ensures)
    (searched r _ (λ x k q h. search (rules, tests)) d.count _ c.min_by_key.result refl c.requires c.min_by_key.ensures.ran)

pub at-requires : goal.at-requires
at-requires c = (best c).inside

pub returns : goal.returns
returns c = let d = c.args.self.now in best_points d.start d.less d.count d.list.now d.inside _ _ (best (goal.at.returns c).After-unwrap_or-from) c.at.ensures
