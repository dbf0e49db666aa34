-- `classify_active::active_in_convex` stores the active halfspaces, one after the other. Assumes nothing.
use mathlib.Core.Path.{◌≡◌}
use lib.ListN.{length}
use Rattle.classify_active.proofs.ActiveConvexLaws.{InSearch}
use Rattle.classify_active.proofs.active_in_convex.Given as goal

abbrev pub invariant-loop-q : goal.invariant-loop-q
invariant-loop-q l = (length l.active ≡ length l.initial.active) × InSearch l.r l.convex l.w l.initial.active l.q-index l.m l.active
