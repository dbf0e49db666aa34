-- `region_records::record_of` makes the rule's tests in their order. Assumes nothing.
use borrow.Author.Tests.{tests}
use Rattle.std.proofs.Common.{rules}
use mathlib.Core.Path.{ap, ◌∙◌}
use Rattle.std.proofs.lemmas.Iterator.{YieldsList-from_slice}
use Rattle.std.proofs.lemmas.Iterator.Consumers.{YieldsList-from_copied}
use Rattle.std.proofs.lemmas.Iterator.Search.{find_from_yields_List}
use Rattle.answer.specs.Calls.{answer_of}
use Rattle.region.specs.Records.{is, known}
use Rattle.region_records.proofs.FrameLaws.{first_found}
use Rattle.region_records.proofs.record_of.Goals as goal

pub returns : goal.returns
returns c =
    let a = c.args in
    ap answer_of c.ok_or.ensures.value
    ∙ first_found a.kind a.len (known a.len) _
    (find_from_yields_List (is a.kind a.len) _ _ c.find.result c.find.ensures.ran (YieldsList-from_copied (YieldsList-from_slice (known a.len) (cc))) (λ x b q k. search (rules, tests)))
