-- One region under two settings. Document 02, F-13: a trial steps through an owner's entries, reporting for each setting the frames delivered unchecked, tested
-- and held, and tested and discarded. The settings stand in for the header's depth and budget.
--   is_setting s        a depth from 1 to 12, and a budget of at most 2048
--   cover_by s g        the cover of the region g under the setting s
--   walk_by o l g s     the walk over the entries of the owner o in the list l beside that cover (frames/specs/Walk)
--   result_of c ms      the result of the walk ms beside the cover c: its three counts, and how many ranges both lists have
--   result_by o l g s   the result of the setting s
--   spanned d rs       the share of the sky that ranges of depth d span, in identifiers of depth 12
--   sky_of s g          the share that the outer list spans
--   choice_of m n       the first where m is the smaller share or they are equal, else the second
--   trial_of o l g s t  both results, and the choice
use Rattle.std.specs.Prelude.{ℕ, ◌-◌, ◌*◌, ◌^◌, Bool, cond, ◌&&◌, List, leb, length, ℤ}
use Rattle.algebra.specs.Lists.{tally}
use Rattle.vector.specs.Numbers.{is_depth}
use Rattle.region.specs.Regions.{Region, holds}
use Rattle.region.specs.Budgets.{is_budget}
use Rattle.ranges.specs.declared.Range.{Range}
use Rattle.ranges.specs.Contents.{identifiers}
use Rattle.covering.specs.Cover.{Cover, cover_of}
use Rattle.frames.specs.Walk.{entries_of, WalkStep, walk, is_unchecked, is_held, is_discarded}
use Rattle.trial.specs.declared.Setting.{Setting}
use Rattle.trial.specs.declared.SettingResult.{SettingResult}
use Rattle.trial.specs.declared.Choice.{Choice}
use Rattle.trial.specs.declared.Choice.TheVariants.{First, Second}
use Rattle.trial.specs.declared.Trial.{Trial}

abbrev pub is_setting : Setting → Bool
is_setting s = is_depth s.depth && is_budget s.budget

abbrev pub cover_by : Setting → Region → Cover
cover_by s g = cover_of s.depth s.budget g

unfoldable pub walk_by : ℕ → List ℤ → Region → Setting → List WalkStep
walk_by o l g s = walk s.depth (holds g) (cover_by s g).outer (cover_by s g).inner (entries_of o l)

abbrev pub result_of : Cover → List WalkStep → SettingResult
result_of c ms = record {
  unchecked = tally (λ m. is_unchecked m.disposition) ms;
  held = tally (λ m. is_held m.disposition) ms;
  discarded = tally (λ m. is_discarded m.disposition) ms;
  outer = length c.outer;
  inner = length c.inner;
}

abbrev pub result_by : ℕ → List ℤ → Region → Setting → SettingResult
result_by o l g s = result_of (cover_by s g) (walk_by o l g s)

abbrev pub spanned : ℕ → List Range → ℕ
spanned d rs = identifiers rs * 4 ^ (12 - d)

abbrev pub sky_of : Setting → Region → ℕ
sky_of s g = spanned s.depth (cover_by s g).outer

abbrev pub choice_of : ℕ → ℕ → Choice
choice_of m n = cond (leb m n) First Second

unfoldable pub trial_of : ℕ → List ℤ → Region → Setting → Setting → Trial
trial_of o l g s t = record { first = result_by o l g s; second = result_by o l g t; choice = choice_of (sky_of s g) (sky_of t g) }
