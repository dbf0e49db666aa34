-- A halfspace that is settled beside an anchor is settled so for every trixel that is close to it: from the anchor to the trixel's middle D·E − f·b and
-- f·b − G·E move by at most K for each step, since f is within ±K, D at most K and G at most 2K, so that what is beyond the margin is beyond the clearance.
-- Assumes nothing.
use Prim.Native.Nat.{◌+◌, ◌*◌}
use native.Mathlib.Omega.{arith}
use mathlib.Core.Path.{◌≡◌, refl, sym, ap, ◌∙◌}
use mathlib.Core.Bool.{true, false, false≢true}
use lib.Dec.{lit≤}
use lib.IntN.{pos, nat_abs, ◌+ℤ◌, ◌-ℤ◌, ◌*ℤ◌}
use lib.Signed.{le_z, ◌≤ℤ◌}
use Rattle.algebra.proofs.Sized.{upto_mono, upto_sub, upto_mul}
use Rattle.algebra.proofs.Moved.{Moved, moved_mono, moved_mul, moved_add, moved_sub, still_beyond}
use Rattle.algebra.proofs.Tests.{split, and_both, le_yes}
use Rattle.vector.specs.declared.Vec3.{Vec3}
use Rattle.vector.specs.Numbers.{Kℕ}
use Rattle.vector.specs.Vectors.{dot}
use Rattle.vector.proofs.Sizes.{Small}
use Rattle.vector.proofs.SizeLaws.{dot_upto}
use Rattle.mesh.specs.declared.Trixel.{Trixel}
use Rattle.classify.specs.declared.Class.{Class}
use Rattle.classify.specs.declared.Class.TheVariants.{Outside, Partial, Full}
use Rattle.classify_prepared.specs.declared.PreparedHalfspace.{PreparedHalfspace}
use Rattle.classify_cap.specs.declared.CapReach.{CapReach}
use Rattle.classify_cap.specs.Middle.{IsReach}
use Rattle.classify.specs.Shape.{ahead, b_of}
use Rattle.std.specs.Prelude.{Option, Some, None, MatchOption}
use Rattle.classify_active.specs.declared.anchors.Anchor.{Anchor}
use Rattle.classify.specs.Classes.{is_outside, is_full}
use Rattle.classify_prepared.specs.Measures.{SoundHalfspace}
use Rattle.classify_halfspace.specs.Halfspaces.{prepared_class, class_within, class_apart}
use Rattle.classify_active.specs.Anchor.{IsAnchor, steps_to, close_by, settled_by, Close}
use Rattle.classify_prepared.proofs.PreparedLaws.{sound_high}
use Rattle.classify_cap.proofs.CapLaws.{Beside, sound_beside, cap_beside}
use Rattle.classify_halfspace.proofs.FarLaws.{far_beyond, enclosed_beyond}
use Rattle.classify_halfspace.proofs.ClassLaws.{when_far, when_enclosed}

-- ---- from the anchor to a middle

dot_moved : {f : Vec3} → Small f → (a b : Vec3) → Moved (Kℕ * nat_abs (b.x -ℤ a.x) + Kℕ * nat_abs (b.y -ℤ a.y) + Kℕ * nat_abs (b.z -ℤ a.z)) (dot f a) (dot f b)
dot_moved s a b = moved_add (moved_add (moved_mul s.x a.x b.x) (moved_mul s.y a.y b.y)) (moved_mul s.z a.z b.z)

module _ {q : PreparedHalfspace} (r : Anchor) (b : Vec3) (m : CapReach) (h : SoundHalfspace q) where
  past_moved : Moved (Kℕ * steps_to r b m) (q.low *ℤ r.reach -ℤ dot q.f r.b) (q.low *ℤ m.reach -ℤ dot q.f b)
  past_moved = moved_mono (omega arith) (moved_sub (moved_mul (sound_beside h).size r.reach m.reach) (dot_moved (sound_beside h).small r.b b))

  inward_moved : Moved (Kℕ * steps_to r b m) (dot q.f r.b -ℤ q.high *ℤ r.reach) (dot q.f b -ℤ q.high *ℤ m.reach)
  inward_moved = moved_mono (omega arith) (moved_sub (dot_moved (sound_beside h).small r.b b) (moved_mul (sound_high h) r.reach m.reach))

-- ---- close

reached_by : (r : Anchor) (b : Vec3) {t : Trixel} (o : Option CapReach) → MatchOption o (ahead (b_of t) t ≡ false) (λ c. IsReach t b c) → close_by r b o ≡ true
    → (c : CapReach) × IsReach t b c × (le_z (c.clearance +ℤ pos (Kℕ * steps_to r b c)) r.margin ≡ true)
unfolding close_by
reached_by r b None h e = absurd (false≢true e)
reached_by r b (Some c) h e = (c, h, e)

module _ {q : PreparedHalfspace} {r : Anchor} {t : Trixel} (h : SoundHalfspace q) (k : Close r t) where
  reached : (c : CapReach) × IsReach t k.cap.b c × (le_z (c.clearance +ℤ pos (Kℕ * steps_to r k.cap.b c)) r.margin ≡ true)
  reached = reached_by r k.cap.b k.cap.ahead k.bounds.ahead k.close

  left : (reached.0.clearance +ℤ pos (Kℕ * steps_to r k.cap.b reached.0)) ≤ℤ r.margin
  left = le_yes reached.2

  cap : Beside k.cap.b reached.0.reach reached.0.rest
  cap = cap_beside reached.1

  close_far : le_z r.margin (q.low *ℤ r.reach -ℤ dot q.f r.b) ≡ true → prepared_class q t ≡ class_apart q.d
  close_far e =
      let s = sound_beside h in
      let u = upto_mono (lit≤ tt) (upto_sub (upto_mul s.size cap.size) (dot_upto s.small cap.small)) in
      when_far q t k.oriented h (and_both (reached.1.ahead) (sym (far_beyond h reached.1 (still_beyond left (le_yes e) (past_moved r k.cap.b reached.0 h)) u refl)))

  close_enclosed : le_z r.margin (dot q.f r.b -ℤ q.high *ℤ r.reach) ≡ true → prepared_class q t ≡ class_within q.d
  close_enclosed e =
      let u = upto_mono (lit≤ tt) (upto_sub (dot_upto (sound_beside h).small cap.small) (upto_mul (sound_high h) cap.size)) in
      when_enclosed q t k.oriented h
      (and_both (reached.1.ahead) (sym (enclosed_beyond h reached.1 (still_beyond left (le_yes e) (inward_moved r k.cap.b reached.0 h)) u refl)))

  -- the class, where it is not left partial
  stays : {c : Class} → (Partial ≡ c → ⊥) → settled_by q r ≡ c → prepared_class q t ≡ c
  unfolding settled_by
  stays {c} n e =
      split (le_z r.margin (q.low *ℤ r.reach -ℤ dot q.f r.b)) (λ a. close_far a ∙ (rw a at e))
      (λ a.
      split (le_z r.margin (dot q.f r.b -ℤ q.high *ℤ r.reach)) (λ b. close_enclosed b ∙ (rw (a, b) at e)) (λ b. absurd (n (rw (a, b) at e))))

module _ {q : PreparedHalfspace} {r : Anchor} {t : Trixel} (p : IsAnchor r) (h : SoundHalfspace q) (k : Close r t) where
  pub stays_outside : settled_by q r ≡ Outside → prepared_class q t ≡ Outside
  stays_outside = stays h k (λ e. false≢true (ap is_outside e))

  pub stays_full : settled_by q r ≡ Full → prepared_class q t ≡ Full
  stays_full = stays h k (λ e. false≢true (ap is_full e))
