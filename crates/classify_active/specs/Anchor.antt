-- A halfspace is settled once, at a trixel's middle, for every trixel whose middle is close to it. Document 01, 'Classifying': D·E − f·b and
-- f·b − G·E change by at most K for a step of b by one, and by at most 2K for a step of E by one (proofs/AnchorLaws).
--   IsAnchor r     the numbers of r are in range
--   steps_to r b c  the steps from r to the middle b that reaches as far as c: those of b by component, and those of E, counted twice
--   close_to r m    b is ahead of its rays, and what is beyond the margin of r is beyond the clearance of m
--   settled_by q r  the class beside r for the halfspace that q was prepared from; Partial where it is active
--   Close r t      t is oriented, and its middle is close to r
use Rattle.std.specs.Prelude.{ℕ, ◌+◌, ◌*◌, ◌^◌, ◌≡◌, Bool, true, false, cond, Option, Some, None, pos, nat_abs, ◌+ℤ◌, ◌-ℤ◌, ◌*ℤ◌}
use Rattle.std.specs.Int.Signed.{le_z}
use Rattle.algebra.proofs.Sizes.{Upto}
use Rattle.vector.specs.Numbers.{Kℕ}
use Rattle.vector.specs.Vectors.{dot}
use Rattle.vector.proofs.Sizes.{Small}
use Rattle.mesh.specs.declared.Trixel.{Trixel}
use Rattle.classify.specs.declared.Class.{Class}
use Rattle.classify.specs.declared.Class.TheVariants.{Partial}
use Rattle.classify_prepared.specs.declared.PreparedHalfspace.{PreparedHalfspace}
use Rattle.classify_cap.specs.declared.BoundingCap.{BoundingCap}
use Rattle.classify_cap.specs.declared.CapReach.{CapReach}
use Rattle.vector.specs.declared.Vec3.{Vec3}
use Rattle.classify_active.specs.declared.anchors.Anchor.{Anchor}
use Rattle.classify.specs.Shape.{positive, volume}
use Rattle.classify_cap.specs.Middle.{IsBoundingCap}
use Rattle.classify_halfspace.specs.Halfspaces.{class_within, class_apart}

pub record IsAnchor (r : Anchor) : Type 0 where
  pub b : Small r.b
  pub reach : Upto Kℕ r.reach
  pub margin : Upto (2 ^ 44) r.margin

abbrev pub steps_to : Anchor → Vec3 → CapReach → ℕ
steps_to r b c = nat_abs (b.x -ℤ r.b.x) + nat_abs (b.y -ℤ r.b.y) + nat_abs (b.z -ℤ r.b.z) + 2 * nat_abs (c.reach -ℤ r.reach)

unfoldable pub close_by : Anchor → Vec3 → Option CapReach → Bool
close_by r b None = false
close_by r b (Some c) = le_z (c.clearance +ℤ pos (Kℕ * steps_to r b c)) r.margin

abbrev pub close_to : Anchor → BoundingCap → Bool
close_to r m = close_by r m.b m.ahead

unfoldable pub settled_by : PreparedHalfspace → Anchor → Class
settled_by q r =
    cond (le_z r.margin (q.low *ℤ r.reach -ℤ dot q.f r.b)) (class_apart q.d)
    (cond (le_z r.margin (dot q.f r.b -ℤ q.high *ℤ r.reach)) (class_within q.d) Partial)

pub record Close (r : Anchor) (t : Trixel) : Type 0 where
  pub cap : BoundingCap
  pub bounds : IsBoundingCap t cap
  pub oriented : positive (volume t) ≡ true
  pub close : close_to r cap ≡ true
