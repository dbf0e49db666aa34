-- `covering_calls::cover` prepares the rows, and covers what they were prepared to. Assumes nothing.
use Rattle.std.proofs.Common.{rules}
use native.Mathlib.Nat.{le_refl}
use Rattle.covering_walk.proofs.RowsLaws.{rows_fits, rows_ready}
use Rattle.covering_calls.proofs.cover.Goals as goal

pub prepare-requires : goal.prepare-requires
prepare-requires c = let r = c.requires.some_rows in record {
  n_bound = (r.1.most, search rules);
  fit_rows = rows_fits r.0 _ _ r.1;
}

pub cover_prepared-requires : goal.cover_prepared-requires
cover_prepared-requires c =
    let r = c.requires.some_rows in
    let p = c.prepare.ensures in
    record {
      le_depth = c.requires.le_depth;
      ready = (r.0, rows_ready r.0 _ _ r.1 _ _ (le_refl _) (search rules) p.halfspaces_after p.ends_after p.counts.0 p.counts.1);
      le_budget = c.requires.le_budget;
    }

pub returns : goal.returns
returns c g r =
    let p = c.prepare.ensures in
    c.cover_prepared.ensures g (rows_ready g _ _ r _ _ (le_refl _) (search rules) p.halfspaces_after p.ends_after p.counts.0 p.counts.1)
