-- `region_records::header_payload` checks its two words. Assumes nothing.
use mathlib.Core.Path.{◌∙◌}
use Rattle.region_records.specs.Headers.{settings_in}
use Rattle.region_records.proofs.HeaderLaws.{payload_settings}
use Rattle.region_records.proofs.header_payload.Goals as goal

pub returns : goal.returns
returns c = c.checked.ensures ∙ (λ i. settings_in (c.word.ensures.value i) (c.word-2.ensures.value i)) ∙ payload_settings c.args.s.now
