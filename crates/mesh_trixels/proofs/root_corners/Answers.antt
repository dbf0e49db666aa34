-- `mesh_trixels::root_corners` gives the corners of the root number k. Assumes nothing.
use Prim.Native.Nat.{ℕ}
use native.Mathlib.Omega.{arith}
use mathlib.Core.Path.{◌≡◌, sym, subst, ◌∙◌}
use Rattle.mesh.specs.declared.Corners.{Corners}
use Rattle.mesh.specs.Trixels.{root_trixel}
use Rattle.mesh.specs.Identifiers.{corners_of}
use Rattle.mesh_trixels.specs.Corners.{SmallCorners}
use Rattle.mesh_trixels.proofs.CornerLaws.{root_corners_small, root_is}
use Rattle.mesh_trixels.proofs.root_corners.Goals as goal

-- the corners of the root n, where k is n
found : (k n : ℕ) {c : Corners} → k ≡ n → c ≡ corners_of (root_trixel n) → (c ≡ corners_of (root_trixel k)) × SmallCorners c
found k n e h = (h ∙ root_is k n e, subst SmallCorners (sym h) (root_corners_small n))

pub returns-in-0 : goal.returns-in-0
unfolding root_trixel
returns-in-0 c = found c.args.k 0 c.in-0.is c.triple.ensures

pub returns-in-1 : goal.returns-in-1
unfolding root_trixel
returns-in-1 c = found c.args.k 1 c.in-1.is c.triple-in-1.ensures

pub returns-in-2 : goal.returns-in-2
unfolding root_trixel
returns-in-2 c = found c.args.k 2 c.in-2.is c.triple-in-2.ensures

pub returns-in-3 : goal.returns-in-3
unfolding root_trixel
returns-in-3 c = found c.args.k 3 c.in-3.is c.triple-in-3.ensures

pub returns-in-4 : goal.returns-in-4
unfolding root_trixel
returns-in-4 c = found c.args.k 4 c.in-4.is c.triple-in-4.ensures

pub returns-in-5 : goal.returns-in-5
unfolding root_trixel
returns-in-5 c = found c.args.k 5 c.in-5.is c.triple-in-5.ensures

pub returns-in-6 : goal.returns-in-6
unfolding root_trixel
returns-in-6 c = found c.args.k 6 c.in-6.is c.triple-in-6.ensures

pub returns-in_default : goal.returns-in_default
unfolding root_trixel
returns-in_default c = found c.args.k 7 (omega arith) c.triple-in_default.ensures
