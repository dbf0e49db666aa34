-- `Differences::first_at` finds the first difference that is the floor, from the hint's number on. Assumes nothing.
use Rattle.std.specs.Prelude.{◌≡◌, ◌≢◌}
use Rattle.std.proofs.Common.{rules}
use borrow.Author.Tests.{tests}
use Rattle.std.proofs.lemmas.Iterator.{first_from_Range}
use Rattle.ranges_stored.proofs.HintLaws.{first_found, read}
use Rattle.ranges_stored.proofs.Differences.first_at.Goals as goal

pub returns : goal.returns
returns c =
    let d = c.args.self.now in
    let h = c.args.hint in
    first_found d.start d.less d.count d.list.now d.inside h.floor h.from c.find.result c.requires
    (first_from_Range _ _ _ c.find.result (λ i. read d.start d.less d.count d.list.now d.inside i ≡ h.floor) (λ i. read d.start d.less d.count d.list.now d.inside i ≢ h.floor) c.find.ensures.ran
    (λ x q k. search (rules, tests)) (λ x q k. search (rules, tests)))
