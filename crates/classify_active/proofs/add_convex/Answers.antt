-- `classify_active::add_convex` stores what is active of a convex. Assumes nothing.
use Rattle.std.proofs.Common.{rules, ◌≤◌, ◌<◌, length, arith, subst, Some, Ok}
use Rattle.region.specs.Regions.{Convex}
use Rattle.classify_prepared.specs.PreparedLists.{PreparedConvex}
use Rattle.classify_active.specs.Active.{ActiveResultOf}
use Rattle.classify_active.proofs.ActiveRegionLaws.{still_prepared, end_place, more_prepared, added_outside, added_active}
use Rattle.classify_active.proofs.add_convex.Goals as goal
use Rattle.classify_active.proofs.add_convex.Goals.{Else-m-w}

-- the lists have room for the counts
within : (c : Else-m-w) → (c.args.active.now.count ≤ length c.args.active.now.halfspaces) × (c.args.active.now.convexes ≤ length c.args.active.now.ends)
within c =
    let long : 32 ≤ length c.args.active.now.halfspaces = search rules in
    let wide : 32 ≤ length c.args.active.now.ends = search rules in
    let room = c.requires.few.0 in
    (omega (arith, room.0), omega (arith, room.1))

-- what was found of the convex
module _ (c : Else-m-w) (v : Convex) (k : PreparedConvex v c.args.convex.now) where
  found : ActiveResultOf c.args.r v c.args.active.now.count c.args.active.now.halfspaces c.active_in_convex.new.active (Ok (Some c.in-Some.m))
  found =
      subst (λ o. ActiveResultOf c.args.r v c.args.active.now.count c.args.active.now.halfspaces c.active_in_convex.new.active (Ok o)) c.in-Some.is (c.in_ok-m.ensures v k)

place : (c : Else-m-w) → (c.args.active.now.convexes < 32) × (c.in-Some.m ≤ 32)
place c =
    let a = c.args.active.now in
    let w = within c in
    let v = c.requires.ready.0 in
    let g = c.requires.ready.1 in
    let f = found c v.0 v.1 in
    end_place g.0 a.halfspaces a.ends a.count a.convexes g.1 w.0 w.1 f.0 f.1 f.2 (omega (arith, c.if-m-w.false))

pub returns-in_default : goal.returns-in_default
returns-in_default c =
    let a = c.args.active.now in
    let w = c.requires.few.0 in
    let long : 32 ≤ length a.halfspaces = search rules in
    let wide : 32 ≤ length a.ends = search rules in
    let f = λ (v : Convex) (k : PreparedConvex v c.args.convex.now).
    subst (λ o. ActiveResultOf c.args.r v a.count a.halfspaces c.active_in_convex.new.active (Ok o)) c.in_default.is (c.in_ok-m.ensures v k) in
    (w, λ g p v k. (g, still_prepared g a.halfspaces a.ends a.count a.convexes p (omega (arith, w.0)) (omega (arith, w.1)) (f v k).0 (f v k).1, added_outside c.args.r g v (f v k).2))

pub bounds-active-active : goal.bounds-active-active
bounds-active-active c = (place (goal.at.bounds-active-active c).Else-m-w).0

pub returns : goal.returns
returns c =
    let a = c.args.active.now in
    let e = (goal.at.returns c).Else-m-w in
    let w = within e in
    let f = found e in
    let wide : 32 ≤ length c.args.active.now.ends = search rules in
    let h = place e in (
      (h.1, omega (arith, h.0)),
      λ g p v k. (
        _,
        more_prepared g a.halfspaces a.ends a.count a.convexes p w.0 w.1 (f v k).0 (f v k).1 (f v k).2 (omega (arith, c.if-m-w.false)) (omega (arith, h.0)),
        added_active c.args.r g v (f v k).0 (f v k).3,
      ),
    )
