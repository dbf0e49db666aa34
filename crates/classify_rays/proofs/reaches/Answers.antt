-- `classify_rays::reaches`: where the filter is sure, it is right, and else the squares are compared in two words. Assumes nothing.
use native.Mathlib.Omega.{arith}
use Rattle.classify_rays.proofs.RayLaws.{ray_most, filter_right}
use Rattle.classify_rays.proofs.reaches.Goals as goal

pub filtered-requires : goal.filtered-requires
filtered-requires c = let p = c.requires in (omega (arith, p.0), omega (arith, p.1), omega (arith, ray_most p.2))

pub returns-in-Some : goal.returns-in-Some
returns-in-Some c = filter_right c.args.x c.args.g c.requires.2 c.filtered.ensures c.in-Some.is
