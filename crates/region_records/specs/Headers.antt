-- Depth and budget of a region file. Document 01, 'Regions', and 'What is sent back', 5 and 6.
--   settings_in d b    the depth d and the budget b, or the first refusal: 5, 6
--   settings_of x      those of a file that was read
use Rattle.std.specs.Prelude.{ℕ}
use Rattle.answer.specs.Answer.{Answer, gives, check, Depth, Budget}
use Rattle.vector.specs.Numbers.{is_depth}
use Rattle.region.specs.Budgets.{is_budget}
use Rattle.region.specs.Reader.{File}
use Rattle.region_records.specs.declared.Settings.{Settings}

abbrev pub settings_in : ℕ → ℕ → Answer Settings
settings_in d b = check Depth (is_depth d) (check Budget (is_budget b) (gives (record { depth = d; budget = b })))

abbrev pub settings_of : File → Settings
settings_of x = record { depth = x.depth; budget = x.budget }
