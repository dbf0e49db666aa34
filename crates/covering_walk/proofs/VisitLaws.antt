-- One trixel of the cutting, by its class: left out, accepted as full, accepted at the depth, or cut, and then its four children one after the other.
-- And how large identifiers and counts get on the way down. Assumes nothing.
use Prim.Native.Nat.{ℕ, suc, ◌+◌, ◌-◌, ◌*◌, ◌/◌, ◌^◌, ◌≤◌, ◌<◌}
use native.Mathlib.Nat.{pow-suc, pow-le-pow_right, mul-le-mul, mul-le-mul_left, mul-le-mul_right}
use native.Mathlib.Omega.{arith}
use mathlib.Core.Path.{◌≡◌, refl, sym, ap, subst, subst₂, ◌∙◌}
use mathlib.Core.Bool.{Bool, true, false, false≢true}
use mathlib.Core.List.{List}
use lib.Dec.{lit<}
use lib.ListN.{length}
use lib.IntN.{pos, nat_abs}
use Rattle.algebra.proofs.Ring.{con, ◌:+◌, ◌:*◌}
use Rattle.algebra.proofs.Claim.{◌:≡◌, ring}
use Rattle.algebra.proofs.Inequalities.{`1}
use Rattle.vector.specs.declared.Vec3.{Vec3}
use Rattle.mesh.specs.declared.Trixel.{Trixel}
use Rattle.mesh.specs.declared.Cut.{Cut}
use Rattle.mesh.specs.Trixels.{root_trixel, cut, child}
use Rattle.mesh_trixels.specs.Corners.{SmallTrixel, SmallCut}
use Rattle.region.specs.Regions.{Region}
use Rattle.classify.specs.declared.Class.TheVariants.{Outside, Partial, Full}
use Rattle.classify.specs.Shape.{ray0}
use Rattle.classify_prepared.specs.declared.prepared_region.HalfspaceLists.{HalfspaceLists}
use Rattle.classify_prepared.specs.PreparedLists.{Prepared}
use Rattle.classify_prepared.specs.PreparedRegions.{halfspaces_in, ends_in, ReadyRegion}
use Rattle.classify_active.specs.declared.ActiveHalfspaces.{ActiveHalfspaces}
use Rattle.classify_active.specs.Active.{ActiveListsIn}
use Rattle.ranges.specs.Ranges.{range}
use Rattle.ranges_stored.proofs.HintLaws.{hinted_any}
use Rattle.covering.specs.declared.Counts.{Counts}
use Rattle.covering.specs.Cover.{descendants, left_out, taken_full, taken_partial, both, visit, cutting, listed, counts_of, both_listed}
use Rattle.covering_tally.specs.declared.Tally.{Tally}
use Rattle.covering_tally.specs.Tally.{nothing, no_tally, TallyHolds, Adds, TallyInvariant, Countable, SmallRange, CountsContained, TrixelAccepted, one_more}
use Rattle.covering_walk.specs.declared.Level.{Level}
use Rattle.covering_walk.specs.declared.ClassifiedTrixel.{ClassifiedTrixel}
use Rattle.covering_walk.specs.Children.{ClassifiedOf}
use Rattle.covering_walk.specs.Walk.{found_in, found_below, child_level, first_found, LevelFits, ChildrenFit, Needs, CutNeeds, Gives, Done, AcceptedOrCut, Dividing, RootNeeds, RootsGive, Finishes, Covers}
use Rattle.covering.proofs.CoverLaws.{full_stretch, power, found_outside, found_full, found_last, found_cut}
use Rattle.covering.proofs.ContentsLaws.{outer_counted}
use Rattle.covering_tally.proofs.WalkLaws.{cutting_contained, left_out_law, none_adds, more_adds, four_adds, cut_adds, found_to, walk_start, walk_end, roots_done}

-- ---- the range of a trixel

pub full_range : (i left span : ℕ) → span ≡ 4 ^ left → range (i * span) (i * span + (span - 1)) ≡ descendants left i
full_range i left span e =
    let h : i * 4 ^ left + (4 ^ left - 1) ≡ (i + 1) * 4 ^ left - 1 = omega (arith, full_stretch i (4 ^ left), power left) in
    ap (λ q. range (i * q) (i * q + (q - 1))) e ∙ (λ j. range (i * 4 ^ left) (h j))

last_range : (i : ℕ) → range i i ≡ descendants 0 i
last_range i =
    let l : i ≡ i * 1 = omega arith in
    let h : i ≡ (i + 1) * 1 - 1 = omega arith in
    λ j. range (l j) (h j)

-- ---- how large identifiers and counts get

module _ {i left span seen : ℕ} (l : LevelFits i left span seen) where
  pub range_fits : (i * span + (span - 1) < 2 ^ 26) × (1 ≤ span)
  range_fits =
      let e : (i + 1) * span ≡ i * span + span = full_stretch i span in
      let q : 1 ≤ span = subst (λ x. 1 ≤ x) (sym l.power) (power left) in
      (omega (arith, l.small), q)

  pub small_range : SmallRange (range (i * span) (i * span + (span - 1)))
  small_range = record { order = omega arith; small = range_fits.0 }

  pub small_id : i < 2 ^ 26
  small_id =
      let q : 1 ≤ span = range_fits.1 in
      let m : (i + 1) * 1 ≤ (i + 1) * span = mul-le-mul_left (i + 1) q in
      omega (arith, l.small)

pub countable : {i left span : ℕ} {s : Tally} {out : List ℕ} → LevelFits i left span s.seen → TallyInvariant s out → Countable s
countable l h = record { few = omega (arith, l.few); full = h.full; partial = h.partial }

pub levels : {left m : ℕ} → left ≡ suc m → 4 ^ suc left ≡ 4 * 4 ^ suc m
levels {left} {m} z = ap (λ x. 4 ^ suc x) z ∙ pow-suc 4 (suc m) ∙ omega arith

-- a level down, where the trixel itself is seen
pub down : {i left span seen m now : ℕ} → LevelFits i left span seen → left ≡ suc m → now ≡ seen + 1 → ChildrenFit i m (span / 4) now
down {i} {left} {span} {seen} {m} {now} l z e =
    let part : span ≡ 4 ^ m * 4 = l.power ∙ ap (λ x. 4 ^ x) z ∙ pow-suc 4 m in
    let quarter : span / 4 ≡ 4 ^ m = omega (arith, part) in
    let whole : (4 * i + 3 + 1) * 4 ^ m ≡ (i + 1) * (4 ^ m * 4) =
    ap nat_abs (ring 2 (λ i q. (con (pos 4) :* i :+ con (pos 3) :+ `1) :* q :≡ (i :+ `1) :* (q :* con (pos 4))) refl (pos i) (pos (4 ^ m))) in
    record {
      last = record {
        power = quarter;
        small = subst (λ x. (4 * i + 3 + 1) * x ≤ 2 ^ 26) (sym quarter) (subst (λ x. x ≤ 2 ^ 26) (sym whole) (subst (λ x. (i + 1) * x ≤ 2 ^ 26) part l.small));
        few = omega (arith, l.few, levels z, power (suc m));
      };
    }

module _ {i left span seen : ℕ} (l : ChildrenFit i left span seen) where
  pub small_ids : 4 * i + 3 < 2 ^ 26
  small_ids = small_id l.last

  -- a child, where up to it no more was seen than the children before it can have
  pub child_level_law : (k : ℕ) {now : ℕ} → k < 4 → 3 * now ≤ 3 * seen + k * (4 ^ suc left - 1) → LevelFits (4 * i + k) left span now
  child_level_law k {now} h s =
      let id : (4 * i + k + 1) * span ≤ (4 * i + 3 + 1) * span = mul-le-mul_right span (omega arith) in
      let elder : k * (4 ^ suc left - 1) ≤ 3 * (4 ^ suc left - 1) = mul-le-mul_right (4 ^ suc left - 1) (omega arith) in
      record { power = l.last.power; small = omega (arith, l.last.small); few = omega (arith, l.last.few) }

times : (k p : ℕ) → 1 ≤ p → k * p ≡ k * (p - 1) + k
times k p h =
    let e : (p - 1) + 1 ≡ p = omega arith in
    ap (λ q. k * q) (sym e) ∙ ap nat_abs (ring 2 (λ k q. k :* (q :+ `1) :≡ k :* q :+ k) refl (pos k) (pos (p - 1)))

suc_times : (k p : ℕ) → suc k * p ≡ k * p + p
suc_times k p =
    let one : suc k ≡ k + 1 = omega arith in
    ap (λ n. n * p) one ∙ ap nat_abs (ring 2 (λ k q. (k :+ `1) :* q :≡ k :* q :+ q) refl (pos k) (pos p))

pub at_least_four : (n : ℕ) → 4 ≤ 4 ^ suc n
at_least_four n = omega (arith, pow-suc 4 n, power n)

-- ---- one trixel, by its class

-- one more is seen, and the lists stay
invariant_more : {s r : Tally} {out : List ℕ} → TallyInvariant s out → r ≡ one_more s → TallyInvariant r out
invariant_more {s} {r} {out} h e = subst (λ q. TallyInvariant q out) (sym e) (record {
  budget = h.budget;
  outer = h.outer;
  inner = h.inner;
  list = h.list;
  hinted = h.hinted;
  inner_hinted = h.inner_hinted;
  full = omega (arith, h.full);
  partial = omega (arith, h.partial);
})

module _ {j : ClassifiedTrixel} {l : Level} {s r : Tally} {out out' : List ℕ} where
  done : Done j.class l s out r out' → AcceptedOrCut true j l s out r out'
  done h = record { done = λ e. h; cut = λ e. absurd (false≢true (sym e)) }

  pub done_outside : j.class ≡ Outside → TallyInvariant s out → r ≡ one_more s → out' ≡ out → AcceptedOrCut true j l s out r out'
  done_outside d h q same = done (λ g t e. record {
    adds = λ start a w. subst₂ (λ f o. TallyHolds r.budget start (both a f) r o) (sym (found_outside g l.left t l.id (e ∙ d))) (sym same)
        (subst (λ z. TallyHolds z.budget start (both a left_out) z out) (sym q) (left_out_law s.budget start a s out w));
    invariant = subst (TallyInvariant r) (sym same) (invariant_more h q);
    seen = ap (λ z. z.seen) q;
    budget = ap (λ z. z.budget) q;
  })

  pub done_full : {seen : ℕ} → j.class ≡ Full → LevelFits l.id l.left l.span seen
      → TrixelAccepted (taken_full (range (l.id * l.span) (l.id * l.span + (l.span - 1)))) s out r out' → AcceptedOrCut true j l s out r out'
  done_full d f h = done (λ g t e.
      subst (λ f. TrixelAccepted f s out r out') (ap taken_full (full_range l.id l.left l.span f.power) ∙ sym (found_full g l.left t l.id (e ∙ d))) h)

  pub done_last : j.class ≡ Partial → l.left ≡ 0 → TrixelAccepted (taken_partial (range l.id l.id)) s out r out' → AcceptedOrCut true j l s out r out'
  done_last d z h = done (λ g t e.
      subst (λ f. TrixelAccepted f s out r out') (ap taken_partial (last_range l.id) ∙ sym (found_last g t l.id (e ∙ d)) ∙ ap (λ m. visit m g t l.id) (sym z)) h)

  pub to_be_cut : j.class ≡ Partial → 1 ≤ l.left → r ≡ one_more s → out' ≡ out → AcceptedOrCut false j l s out r out'
  to_be_cut d a q same = record { done = λ e. absurd (false≢true e); cut = λ e. record { partial = d; above = a; tally = q; list = same } }

module _ {t : Trixel} {rg : HalfspaceLists 512 65} {j : ClassifiedTrixel} {l : Level} {b : Bool} {s s₁ : Tally} {out out₁ : List ℕ}
    (k : ClassifiedOf t rg j) (h : AcceptedOrCut b j l s out s₁ out₁) where
  pub visited_done : ReadyRegion rg → b ≡ true → Gives rg 1 l.left (found_in l t) s out s₁ out₁
  visited_done r e =
      let taken : (g : Region) → Prepared g (halfspaces_in rg) (ends_in rg) → TrixelAccepted (found_in l t g) s out s₁ out₁ = λ g p. h.done e g t (sym (k.class g p)) in
      let one = taken r.0 r.1 in
      record { adds = λ g p. (taken g p).adds; invariant = one.invariant; budget = one.budget; seen = omega (arith, one.seen, at_least_four l.left) }

  pub visited_cut : b ≡ false → {s' : Tally} {out' : List ℕ} → Gives rg 4 (l.left - 1) (found_below l t) s₁ out₁ s' out' → Gives rg 1 l.left (found_in l t) s out s' out'
  visited_cut e {s'} {out'} v =
      let c = h.cut e in
      let z : l.left ≡ suc (l.left - 1) = omega (arith, c.above) in
      record {
        adds = λ g p.
            subst (λ f. Adds f s out s' out') (sym (found_cut g (l.left - 1) t l.id (sym (k.class g p) ∙ c.partial)) ∙ ap (λ m. visit m g t l.id) (sym z))
            (cut_adds (found_below l t g) c.tally (subst (λ o. Adds (found_below l t g) s₁ o s' out') c.list (v.adds g p)));
        invariant = v.invariant;
        budget = v.budget ∙ ap (λ q. q.budget) c.tally;
        seen = omega (arith, v.seen, ap (λ q. q.seen) c.tally, levels z);
      }

pub cut_needs : {t : Trixel} {rg : HalfspaceLists 512 65} {j : ClassifiedTrixel} {l : Level} {b : Bool} {s s₁ : Tally} {out out₁ : List ℕ} → ClassifiedOf t rg j → AcceptedOrCut b j l s out s₁ out₁
    → b ≡ false → Needs l rg s out → CutNeeds t j l rg s₁ out₁
cut_needs {l = l} {s₁ = s₁} k h e n =
    let c = h.cut e in
    let z : l.left ≡ suc (l.left - 1) = omega (arith, c.above) in
    let f = down n.level z (ap (λ q. q.seen) c.tally) in
    record {
      rays = k.rays;
      ready = n.ready;
      invariant = subst (TallyInvariant s₁) (sym c.list) (invariant_more n.invariant c.tally);
      divisible = record { above = c.above; ids = small_ids f };
      level = f;
    }

-- ---- its four children

module _ {t : Trixel} {j : ClassifiedTrixel} {l : Level} {rg : HalfspaceLists 512 65} {ac : ActiveHalfspaces} {s₀ : Tally} {out₀ : List ℕ} {c : Cut} {r : Vec3} where
  pub dividing_start : CutNeeds t j l rg s₀ out₀ → ActiveListsIn rg ac → SmallTrixel t → (c ≡ cut t) × SmallCut c → r ≡ ray0 t
      → Dividing t j l rg ac s₀ out₀ c r 0 s₀ out₀
  unfolding first_found
  dividing_start n b m h q = record {
    needs = n;
    active = b;
    parts = record { small = m; cut = h.0; small_cut = h.1; first = q; others = n.rays };
    few = omega arith;
    gives = record { adds = λ g p. none_adds; invariant = n.invariant; budget = refl; seen = omega arith };
  }

  module _ {k : ℕ} {s : Tally} {out : List ℕ} {u : Trixel} {m : Level} (d : Dividing t j l rg ac s₀ out₀ c r k s out) (few : k < 4) (h : u ≡ child k t)
      (e : m ≡ child_level l k) where
    pub child_needs : Needs m rg s out
    child_needs = record {
      ready = d.needs.ready;
      invariant = d.gives.invariant;
      level = subst (λ m. LevelFits m.id m.left m.span s.seen) (sym e)
          (child_level_law d.needs.level k few (omega (arith, d.gives.seen, times k (4 ^ suc (l.left - 1)) (power (suc (l.left - 1))))));
    }

    pub dividing_more : {s' : Tally} {out' : List ℕ} → Gives rg 1 m.left (found_in m u) s out s' out'
        → Dividing t j l rg ac s₀ out₀ c r (k + 1) s' out'
    unfolding first_found
    dividing_more {s'} {out'} v =
        let one : k + 1 ≡ suc k = omega arith in
        let w = subst (λ m. Gives rg 1 m.left (found_in m u) s out s' out') e v in
        let x = subst (λ t. Gives rg 1 (l.left - 1) (found_in (child_level l k) t) s out s' out') h w in
        record {
          needs = d.needs;
          active = d.active;
          parts = d.parts;
          few = omega arith;
          gives = subst (λ n. Gives rg n (l.left - 1) (first_found n l t) s₀ out₀ s' out') (sym one) (record {
            adds = λ g p. more_adds (first_found k l t g) (found_in (child_level l k) (child k t) g) (d.gives.adds g p) (x.adds g p);
            invariant = x.invariant;
            budget = x.budget ∙ d.gives.budget;
            seen = omega (arith, d.gives.seen, x.seen, suc_times k (4 ^ suc (l.left - 1)));
          });
        }

  pub divided : {k : ℕ} {s : Tally} {out : List ℕ} → Dividing t j l rg ac s₀ out₀ c r k s out → 4 ≤ k
      → Gives rg 4 (l.left - 1) (found_below l t) s₀ out₀ s out
  unfolding first_found
  divided {k} {s} {out} d e =
      let four : k ≡ 4 = omega (arith, d.few) in
      let v = subst (λ k. Gives rg k (l.left - 1) (first_found k l t) s₀ out₀ s out) four d.gives in
      record {
        adds = λ g p. four_adds (found_in (child_level l 0) (child 0 t) g) (found_in (child_level l 1) (child 1 t) g) (found_in (child_level l 2) (child 2 t) g) (found_in (child_level l 3) (child 3 t) g) (v.adds g p);
        invariant = v.invariant;
        budget = v.budget;
        seen = v.seen;
      }

-- ---- the roots

-- a root
root_level : (k left span seen : ℕ) → k < 8 → left ≤ 11 → span ≡ 4 ^ left → 3 * seen ≤ k * 2 ^ 24 → LevelFits (8 + k) left span seen
root_level k left span seen h d e s =
    let m : 4 ^ left ≤ 4 ^ 11 = pow-le-pow_right {n = 4} (lit< tt) {i = left} {j = 11} d in
    let p : (8 + k + 1) * span ≤ 16 * 4 ^ 11 = let u : 8 + k + 1 ≤ 16 = omega arith in let v : span ≤ 4 ^ 11 = omega arith in mul-le-mul u v in
    record { power = e; small = omega (arith, p); few = omega (arith, pow-suc 4 left, m) }

root_seen : (left now seen k : ℕ) → left ≤ 11 → 3 * now + 1 ≤ 3 * seen + 4 ^ suc left → 3 * seen ≤ k * 2 ^ 24 → 3 * now ≤ (k + 1) * 2 ^ 24
root_seen left now seen k d h s =
    let m : 4 ^ left ≤ 4 ^ 11 = pow-le-pow_right {n = 4} (lit< tt) {i = left} {j = 11} d in
    omega (arith, pow-suc 4 left, m)

-- the first k roots are cut
pub record Rooting (depth : ℕ) (rg : HalfspaceLists 512 65) (ac : ActiveHalfspaces) (left span : ℕ) (s₀ : Tally) (out₀ : List ℕ) (k : ℕ) (s : Tally) (out : List ℕ) : Type 0 where
  pub needs : RootNeeds depth rg s₀ out₀
  pub active : ActiveListsIn rg ac
  pub above : left ≡ depth - 1
  pub power : span ≡ 4 ^ left
  pub few : k ≤ 8
  pub invariant : TallyInvariant s out
  pub budget : s.budget ≡ s₀.budget
  pub seen : 3 * s.seen ≤ k * 2 ^ 24
  pub tally : (g : Region) → Prepared g (halfspaces_in rg) (ends_in rg) → TallyHolds s.budget out₀ (found_to (depth - 1) g k) s out

module _ {depth : ℕ} {rg : HalfspaceLists 512 65} {ac : ActiveHalfspaces} {left span : ℕ} {s₀ : Tally} {out₀ : List ℕ} where
  pub rooting_start : RootNeeds depth rg s₀ out₀ → ActiveListsIn rg ac → left ≡ depth - 1 → span ≡ 4 ^ left → Rooting depth rg ac left span s₀ out₀ 0 s₀ out₀
  unfolding found_to
  rooting_start n b e p = record {
    needs = n;
    active = b;
    above = e;
    power = p;
    few = omega arith;
    invariant = subst (λ q. TallyInvariant q out₀) (sym n.fresh)
        (record {
          budget = n.budget;
          outer = omega arith;
          inner = omega arith;
          list = n.list;
          hinted = hinted_any refl _;
          inner_hinted = hinted_any refl _;
          full = omega arith;
          partial = omega arith;
        });
    budget = refl;
    seen = omega (arith, ap (λ q. q.seen) n.fresh);
    tally = λ g p. subst (λ q. TallyHolds q.budget out₀ nothing q out₀) (sym n.fresh) (walk_start s₀.budget out₀ n.list);
  }

  module _ {k : ℕ} {s : Tally} {out : List ℕ} (d : Rooting depth rg ac left span s₀ out₀ k s out) (few : k < 8) where
    pub root_needs : Needs (record { id = 8 + k; left = left; span = span }) rg s out
    root_needs = record {
      ready = d.needs.ready;
      invariant = d.invariant;
      level = root_level k left span s.seen few (omega (arith, d.above, d.needs.high)) d.power d.seen;
    }

    pub rooting_more : {u : Trixel} → u ≡ root_trixel k → {s' : Tally} {out' : List ℕ}
        → Gives rg 1 left (found_in (record { id = 8 + k; left = left; span = span }) u) s out s' out' → Rooting depth rg ac left span s₀ out₀ (k + 1) s' out'
    unfolding found_to
    rooting_more {u} e {s'} {out'} v =
        let one : suc k ≡ k + 1 = omega arith in
        record {
          needs = d.needs;
          active = d.active;
          above = d.above;
          power = d.power;
          few = omega arith;
          invariant = v.invariant;
          budget = v.budget ∙ d.budget;
          seen = root_seen left s'.seen s.seen k (omega (arith, d.above, d.needs.high)) (omega (arith, v.seen)) d.seen;
          tally = λ g p.
              subst (λ j. TallyHolds s'.budget out₀ (found_to (depth - 1) g j) s' out') one
              (subst₂ (λ m t. TallyHolds s'.budget out₀ (both (found_to (depth - 1) g k) (visit m g t (8 + k))) s' out') d.above e (v.adds g p out₀ (found_to (depth - 1) g k) (d.tally g p)));
        }

  pub rooted : {k : ℕ} {s : Tally} {out : List ℕ} → Rooting depth rg ac left span s₀ out₀ k s out → 8 ≤ k → RootsGive depth rg s₀ out₀ s out
  rooted {k} d e = record { cut = λ g p. roots_done depth k g (omega (arith, d.few)) (d.tally g p); invariant = d.invariant; budget = d.budget }

-- ---- the cover

pub cover_start : {depth b : ℕ} {rg : HalfspaceLists 512 65} {s : Tally} {out : List ℕ} → (1 ≤ depth) × (depth ≤ 12) → ReadyRegion rg
    → (1 ≤ b) × (4 * b ≤ length out) → s ≡ no_tally b → RootNeeds depth rg s out
cover_start {depth} {rg = rg} {out = out} d r h e =
    subst (λ q. RootNeeds depth rg q out) (sym e) (record { low = d.0; high = d.1; ready = r; fresh = refl; budget = h.0; list = h.1 })

-- what the end of both lists needs
pub cover_contained : {depth : ℕ} {rg : HalfspaceLists 512 65} {s₀ s : Tally} {out₀ out : List ℕ} → RootsGive depth rg s₀ out₀ s out → ReadyRegion rg → depth ≤ 12
    → CountsContained s out
cover_contained {depth} r h d = cutting_contained depth h.0 (r.cut h.0 h.1) r.invariant.budget r.invariant.outer d

pub cover_end : {depth b : ℕ} {rg : HalfspaceLists 512 65} {s₀ s : Tally} {out₀ out out' : List ℕ} {c : Counts} → RootsGive depth rg s₀ out₀ s out → s₀ ≡ no_tally b
    → 4 * b ≤ length out₀ → Finishes s out c out' → Covers rg b depth out₀ c out'
cover_end {depth} {b} {s = s} {out₀} {out} {out'} {c} r e long f g p =
    let same : s.budget ≡ b = r.budget ∙ ap (λ q. q.budget) e in
    let w = walk_end s.budget out₀ (omega (arith, same)) (cutting depth g) s out out' f.inner _ (r.cut g p) r.invariant.budget r.invariant.outer f.behind refl (outer_counted g depth s.budget r.invariant.budget) in
    subst (λ b. (c ≡ counts_of (listed b (cutting depth g))) × (out' ≡ both_listed b (listed b (cutting depth g)) out₀)) same (f.counts ∙ w.0, w.1)
