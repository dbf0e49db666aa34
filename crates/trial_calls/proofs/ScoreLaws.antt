-- A search under a setting gives the result of the setting: the full trixels' identifiers, the partial ones and those swallowed are the identifiers of the
-- outer list (`outer_counted`), and few (`counts_small`). Assumes nothing.
use Prim.Native.Nat.{ℕ, ◌+◌, ◌-◌, ◌*◌, ◌^◌, ◌≤◌}
use native.Mathlib.Omega.{arith}
use native.Mathlib.Nat.{mul-le-mul, pow-le-pow_right}
use mathlib.Core.Path.{◌≡◌, sym, ap, subst, ◌∙◌}
use mathlib.Core.List.{List}
use lib.Dec.{lit<}
use lib.IntN.{ℤ}
use Rattle.region.specs.Regions.{Region}
use Rattle.region.specs.Budgets.{budget_of}
use Rattle.region.proofs.BudgetLaws.{budget_one}
use Rattle.covering.specs.Cover.{cover_of}
use Rattle.covering.proofs.ContentsLaws.{outer_counted, counts_small}
use Rattle.covering_walk.specs.Walk.{RowsOf}
use Rattle.frames_calls.specs.declared.SearchResult.{SearchResult}
use Rattle.frames_calls.specs.Searches.{Searches, SearchesRows}
use Rattle.trial.specs.declared.Setting.{Setting}
use Rattle.trial.specs.Trials.{walk_by}
use Rattle.trial_calls.specs.Tries.{score_of, Tries}

abbrev spanned : SearchResult → ℕ
spanned r = r.counts.full + r.counts.partial + r.counts.swallowed

-- at depth 12
pub sky_fits : (d m p : ℕ) → m ≤ 2 ^ 25 → p ≡ 4 ^ (12 - d) → 1 ≤ d → m * p ≤ 2 ^ 47
sky_fits d m p h e low =
    let k : 4 ^ (12 - d) ≤ 4 ^ 11 = pow-le-pow_right {n = 4} (lit< tt) {i = 12 - d} {j = 11} (omega arith) in
    mul-le-mul h (subst (λ q. q ≤ 4 ^ 11) (sym e) k)

-- of a search with the budget b that the setting s counts with
module _ (s : Setting) {o b n : ℕ} {l rs : List ℤ} {before numbers lists left : List ℕ} {r : SearchResult} (e : b ≡ budget_of s.budget)
    (w : SearchesRows o l s.depth b rs n before numbers r lists left) (g : Region) (k : RowsOf g n rs) where
  abbrev B : ℕ
  B = budget_of s.budget

  leaves : Searches o l s.depth B g before numbers r lists left
  leaves = subst (λ m. Searches o l s.depth m g before numbers r lists left) e (w g k)

  pub spanned_few : s.depth ≤ 12 → spanned r ≤ 2 ^ 25
  spanned_few h = subst (λ c. c.full + c.partial + c.swallowed ≤ 2 ^ 25) (sym leaves.counts) (counts_small g s.depth B (budget_one s.budget) h)

  pub scored : Tries o l s g before (score_of s.depth r) lists
  unfolding cover_of walk_by
  scored =
      let v = leaves in
      record {
        result = λ i. record {
          unchecked = (v.dispositions i).unchecked;
          held = (v.dispositions i).held;
          discarded = (v.dispositions i).discarded;
          outer = (v.counts i).outer;
          inner = (v.counts i).inner;
        };
        sky =
            ap (λ c. (c.full + c.partial + c.swallowed) * 4 ^ (12 - s.depth)) v.counts
            ∙ ap (λ m. m * 4 ^ (12 - s.depth)) (sym (outer_counted g s.depth B (budget_one s.budget)));
        lists_left = v.lists_left;
      }
