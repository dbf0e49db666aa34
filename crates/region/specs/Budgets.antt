-- Budgets. Document 01, 'Regions' and 'What is sent back', 6; document 02, F-2.
--   is_budget b      a budget as a header may have it: at most 2048
--   default_budget   what budget 0 means
--   budget_of b      the budget that is counted with, wherever one is
use Rattle.std.specs.Prelude.{ℕ, Bool, cond, leb, eqb}

abbrev pub is_budget : ℕ → Bool
is_budget b = leb b 2048

abbrev pub default_budget : ℕ
default_budget = 16

abbrev pub budget_of : ℕ → ℕ
budget_of b = cond (eqb b 0) default_budget b
