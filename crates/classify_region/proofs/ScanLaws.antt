-- The scan of convexes and their halfspaces, step by step: what is left to be scanned and the class found so far together give the region's class.
-- The class of a convex is the meet of its halfspaces' classes, that of a region the join of its convexes'. Assumes nothing.
use Prim.Native.Nat.{ℕ, zero, suc, ◌+◌, ◌-◌, ◌≤◌, ◌<◌}
use native.Mathlib.Nat.{le_refl}
use native.Mathlib.Omega.{arith}
use mathlib.Core.Path.{◌≡◌, refl, sym, ap, subst, ◌∙◌}
use mathlib.Core.Bool.{Bool, true, false, false≢true, cond, ◌&&◌, ◌||◌}
use mathlib.Core.List.{List, [], ◌∷◌, ◌++◌, append-nil}
use lib.ListN.{length, get_or, take, drop, length-drop, length-append}
use lib.Seq.{take-nil, drop-length, drop-cons, drop-drop, take_at, drop_at}
use Rattle.std.proofs.lemmas.List.{take_rest}
use Rattle.std.specs.Ordering.{ord_min, ord_max}
use Rattle.algebra.specs.Lists.{every, some}
use Rattle.algebra.proofs.Tests.{and_left, and_right}
use Rattle.vector.specs.Vectors.{is_vector}
use Rattle.mesh.specs.declared.Trixel.{Trixel}
use Rattle.region.specs.declared.Halfspace.{Halfspace}
use Rattle.region.specs.Regions.{Convex, Region}
use Rattle.region.specs.Building.{total, is_offset}
use Rattle.region.proofs.GoodRegions.{good_halfspace, good_convex, good}
use Rattle.region.proofs.FilledLaws.{Filled}
use Rattle.classify.specs.declared.Class.{Class}
use Rattle.classify.specs.declared.Class.TheVariants.{Outside, Partial, Full}
use Rattle.classify_prepared.specs.declared.PreparedHalfspace.{PreparedHalfspace}
use Rattle.classify.specs.contracts.ClassOrd.TheImpl.{cmp-value}
use Rattle.classify.specs.Classes.{is_outside, is_full, halfspace_class, convex_class, region_class}
use Rattle.classify_prepared.specs.Measures.{prepared, SoundHalfspace}
use Rattle.classify_halfspace.specs.Halfspaces.{prepared_class}
use Rattle.classify_prepared.specs.PreparedLists.{convex_prepared, region_prepared, ends_from, Prepared, PreparedConvex, RegionAt, Ready, Classed, ReadyConvex, ClassedConvex, meet, join}
use Rattle.classify_halfspace.proofs.ClassLaws.{prepared_class_is}
use Rattle.classify_prepared.proofs.PreparingLaws.{length_convex, length_region, length_ends, region_good, convex_good}

-- ---- classes put together

-- the lesser of two classes, and the greater
pub min_is_meet : (a b : Class) → ord_min cmp-value.it a b ≡ meet a b
min_is_meet Outside Outside = refl
min_is_meet Outside Partial = refl
min_is_meet Outside Full = refl
min_is_meet Partial Outside = refl
min_is_meet Partial Partial = refl
min_is_meet Partial Full = refl
min_is_meet Full Outside = refl
min_is_meet Full Partial = refl
min_is_meet Full Full = refl

pub max_is_join : (a b : Class) → ord_max cmp-value.it a b ≡ join a b
max_is_join Outside Outside = refl
max_is_join Outside Partial = refl
max_is_join Outside Full = refl
max_is_join Partial Outside = refl
max_is_join Partial Partial = refl
max_is_join Partial Full = refl
max_is_join Full Outside = refl
max_is_join Full Partial = refl
max_is_join Full Full = refl

pub outside_is : (c : Class) → is_outside c ≡ true → c ≡ Outside
outside_is Outside e = refl
outside_is Partial e = absurd (false≢true e)
outside_is Full e = absurd (false≢true e)

pub full_is : (c : Class) → is_full c ≡ true → c ≡ Full
full_is Outside e = absurd (false≢true e)
full_is Partial e = absurd (false≢true e)
full_is Full e = refl

pub meet_assoc : (a b c : Class) → meet (meet a b) c ≡ meet a (meet b c)
meet_assoc Outside b c = refl
meet_assoc Partial Outside c = refl
meet_assoc Partial Partial Outside = refl
meet_assoc Partial Partial Partial = refl
meet_assoc Partial Partial Full = refl
meet_assoc Partial Full c = refl
meet_assoc Full b c = refl

pub join_assoc : (a b c : Class) → join (join a b) c ≡ join a (join b c)
join_assoc Full b c = refl
join_assoc Partial Full c = refl
join_assoc Partial Partial Outside = refl
join_assoc Partial Partial Partial = refl
join_assoc Partial Partial Full = refl
join_assoc Partial Outside c = refl
join_assoc Outside b c = refl

pub meet_full : (a : Class) → meet a Full ≡ a
meet_full Outside = refl
meet_full Partial = refl
meet_full Full = refl

pub join_outside : (a : Class) → join a Outside ≡ a
join_outside Outside = refl
join_outside Partial = refl
join_outside Full = refl

outside_stays : (a b : Class) → is_outside a ≡ true → meet a b ≡ a
outside_stays Outside b e = refl
outside_stays Partial b e = absurd (false≢true e)
outside_stays Full b e = absurd (false≢true e)

meet_cons : (a : Class) (o f : Bool) → cond (is_outside a || o) Outside (cond (is_full a && f) Full Partial) ≡ meet a (cond o Outside (cond f Full Partial))
meet_cons Outside o f = refl
meet_cons Partial true f = refl
meet_cons Partial false true = refl
meet_cons Partial false false = refl
meet_cons Full o f = refl

join_cons : (a : Class) (f o : Bool) → cond (is_full a || f) Full (cond (is_outside a && o) Outside Partial) ≡ join a (cond f Full (cond o Outside Partial))
join_cons Full f o = refl
join_cons Partial true o = refl
join_cons Partial false true = refl
join_cons Partial false false = refl
join_cons Outside f o = refl

pub convex_cons : (h : Halfspace) (hs : Convex) (t : Trixel) → convex_class (h ∷ hs) t ≡ meet (halfspace_class h t) (convex_class hs t)
unfolding convex_class some every
convex_cons h hs t = meet_cons (halfspace_class h t) (some (λ x. is_outside (halfspace_class x t)) hs) (every (λ x. is_full (halfspace_class x t)) hs)

pub region_cons : (c : Convex) (cs : Region) (t : Trixel) → region_class (c ∷ cs) t ≡ join (convex_class c t) (region_class cs t)
unfolding region_class some every
region_cons c cs t = join_cons (convex_class c t) (some (λ x. is_full (convex_class x t)) cs) (every (λ x. is_outside (convex_class x t)) cs)

pub no_convex : (hs : Convex) (t : Trixel) → length hs ≡ 0 → convex_class hs t ≡ Full
unfolding convex_class some every
no_convex [] t e = refl
no_convex (h ∷ hs) t e = absurd (omega arith)

pub no_total : total [] ≡ 0
unfolding total
no_total = refl

pub total_cons : (c : Convex) (cs : Region) → total (c ∷ cs) ≡ length c + total cs
unfolding total
total_cons c cs = refl

pub no_region : (cs : Region) (t : Trixel) → Filled cs → total cs ≡ 0 → region_class cs t ≡ Outside
unfolding region_class some every
no_region [] t l e = refl
no_region (c ∷ cs) t l e = absurd (omega (arith, total_cons c cs, l.0))

-- ---- the next halfspace of a convex

convex_list : (h : Halfspace) (hs : Convex) → convex_prepared (h ∷ hs) ≡ prepared h ∷ convex_prepared hs
unfolding convex_prepared
convex_list h hs = refl

region_list : (c : Convex) (cs : Region) → region_prepared (c ∷ cs) ≡ convex_prepared c ++ region_prepared cs
unfolding region_prepared
region_list c cs = refl

region_ends : (n : ℕ) (c : Convex) (cs : Region) → ends_from n (c ∷ cs) ≡ (n + length c) ∷ ends_from (n + length c) cs
unfolding ends_from
region_ends n c cs = refl

-- the halfspace q, and the halfspaces of the convex behind it
pub record HalfspaceNext (q : PreparedHalfspace) (xs : List PreparedHalfspace) (v : Convex) : Type 0 where
  pub sound : SoundHalfspace q
  pub first : Halfspace
  pub good : good_halfspace first ≡ true
  pub is : q ≡ prepared first
  pub rest : Convex
  pub after : PreparedConvex rest xs
  pub class : (t : Trixel) → convex_class v t ≡ meet (prepared_class q t) (convex_class rest t)

-- the heads and the tails of equal lists
module _ {A : Type 0} {x y : A} {xs ys : List A} (e : x ∷ xs ≡ y ∷ ys) where
  head_is : x ≡ y
  head_is = cc

  tail_is : xs ≡ ys
  tail_is = cc

pub halfspace_next : {q : PreparedHalfspace} {xs : List PreparedHalfspace} (v : Convex) → PreparedConvex v (q ∷ xs) → HalfspaceNext q xs v
halfspace_next [] p = absurd (omega (arith, ap length p.halfspaces, length_convex []))
halfspace_next {q} {xs} (h ∷ hs) p =
    let both = convex_good h hs p.good in
    let same : q ∷ xs ≡ prepared h ∷ convex_prepared hs = p.halfspaces ∙ convex_list h hs in
    let is : q ≡ prepared h = head_is same in
    record {
      sound = record {
        halfspace = h;
        vector = and_left (is_vector h.n) (is_offset h.d) both.0;
        offset = and_right (is_vector h.n) (is_offset h.d) both.0;
        is = is;
      };
      first = h;
      good = both.0;
      is = is;
      rest = hs;
      after = record { good = both.1; halfspaces = tail_is same };
      class = λ t. convex_cons h hs t ∙ ap (λ c. meet c (convex_class hs t)) (sym (prepared_class_is h t) ∙ ap (λ q. prepared_class q t) (sym is));
    }

-- no halfspace is left
pub convex_end : (v : Convex) (xs : List PreparedHalfspace) → PreparedConvex v xs → length xs ≡ 0 → (t : Trixel) → convex_class v t ≡ Full
convex_end v xs p e t = no_convex v t (omega (arith, length_convex v, ap length p.halfspaces))

-- what stands from number j on, where an element is left
pub from_next : {A : Type 0} (xs : List A) (j : ℕ) (d : A) → j < length xs → drop j xs ≡ get_or xs j d ∷ drop (j + 1) xs
from_next xs j d h = let one : suc j ≡ j + 1 = omega arith in drop-cons xs j d h ∙ ap (λ m. get_or xs j d ∷ drop m xs) one

-- what stands from number j on among the first m, also where these are fewer
drop_take : {A : Type 0} (j m : ℕ) (xs : List A) → drop j (take m xs) ≡ take (m - j) (drop j xs)
drop_take zero m xs = let e : m ≡ m - 0 = omega arith in ap (λ n. take n xs) e
drop_take (suc j) zero xs = let e : 0 ≡ 0 - suc j = omega arith in ap (λ n. take n (drop (suc j) xs)) e
drop_take (suc j) (suc m) [] = sym (take-nil (suc m - suc j))
drop_take (suc j) (suc m) (x ∷ xs) = let e : m - j ≡ suc m - suc j = omega arith in drop_take j m xs ∙ ap (λ n. take n (drop j xs)) e

-- the elements from number i up to number `end`, but for the first j
part_left : {A : Type 0} (i j end : ℕ) (xs : List A) → drop j (take (end - i) (drop i xs)) ≡ take (end - (i + j)) (drop (i + j) xs)
part_left i j end xs =
    let e : end - i - j ≡ end - (i + j) = omega arith in
    drop_take j (end - i) (drop i xs) ∙ ap (take (end - i - j)) (drop-drop j i xs) ∙ ap (λ m. take m (drop (i + j) xs)) e

-- ---- the next convex of a region

module _ (xs : List PreparedHalfspace) (es : List ℕ) where
  -- convex number k, whose halfspaces are those from number i up to number `end`, and the convexes behind it
  pub record ConvexNext (i k end : ℕ) (g : Region) : Type 0 where
    pub convex : Convex
    pub at : PreparedConvex convex (take (end - i) (drop i xs))
    pub before : i ≤ end
    pub most : end ≤ length xs
    pub rest : Region
    pub after : RegionAt xs es end (k + 1) rest
    pub class : (t : Trixel) → region_class g t ≡ join (convex_class convex t) (region_class rest t)

  pub region_start : (g : Region) → Prepared g xs es → RegionAt xs es 0 0 g
  region_start g p = record { filled = p.filled; good = p.good; halfspaces = p.halfspaces; ends = p.ends }

  module _ (i k : ℕ) where
    convex_first : (v : Convex) (vs : Region) → RegionAt xs es i k (v ∷ vs) → k < length es → (end : ℕ) → end ≡ get_or es k 0 → ConvexNext i k end (v ∷ vs)
    convex_first v vs a h end e =
        let same : get_or es k 0 ∷ drop (k + 1) es ≡ (i + length v) ∷ ends_from (i + length v) vs = sym (from_next es k 0 h) ∙ a.ends ∙ region_ends i v vs in
        let q : end ≡ i + length v = e ∙ head_is same in
        let list : drop i xs ≡ convex_prepared v ++ region_prepared vs = a.halfspaces ∙ region_list v vs in
        let long : end - i ≡ length (convex_prepared v) = omega (arith, q, length_convex v) in
        let there : end ≡ i + length (convex_prepared v) = omega (arith, q, length_convex v) in
        let size : length xs - i ≡ length (convex_prepared v) + length (region_prepared vs) = sym (length-drop i xs) ∙ ap length list ∙ length-append (convex_prepared v) (region_prepared vs) in
        let some : 0 < length v = a.filled.0 in
        let both = region_good v vs a.good in
        record {
          convex = v;
          at = record { good = both.0; halfspaces = ap (take (end - i)) list ∙ take_at (convex_prepared v) (region_prepared vs) (end - i) (sym long) };
          before = omega arith;
          most = omega (arith, length_convex v);
          rest = vs;
          after = record {
            filled = a.filled.1;
            good = both.1;
            halfspaces =
                ap (λ m. drop m xs) there ∙ sym (drop-drop (length (convex_prepared v)) i xs)
                ∙ ap (drop (length (convex_prepared v))) list ∙ drop_at (convex_prepared v) (region_prepared vs) (length (convex_prepared v)) refl;
            ends = tail_is same ∙ ap (λ m. ends_from m vs) (sym q);
          };
          class = region_cons v vs;
        }

    -- its end is read
    pub convex_next : (g : Region) → RegionAt xs es i k g → k < length es → (end : ℕ) → end ≡ get_or es k 0 → ConvexNext i k end g
    convex_next [] a h = absurd (omega (arith, ap length a.ends, length_ends i [], length-drop k es))
    convex_next (v ∷ vs) a h = convex_first v vs a h

    -- no convex is left
    pub region_end : (g : Region) → RegionAt xs es i k g → length es ≤ k → (t : Trixel) → region_class g t ≡ Outside
    region_end [] a h t = no_region [] t a.filled no_total
    region_end (v ∷ vs) a h t = absurd (omega (arith, ap length a.ends, length_ends i (v ∷ vs), length-drop k es))

    -- no halfspace is left, so no convex is: each has one
    pub halfspaces_end : (g : Region) → RegionAt xs es i k g → length xs ≤ i → (t : Trixel) → region_class g t ≡ Outside
    halfspaces_end g a h t = no_region g t a.filled (omega (arith, ap length a.halfspaces, length_region g, length-drop i xs))

-- ---- where the scan of a convex stands

module _ (t : Trixel) (xs : List PreparedHalfspace) where
  -- before halfspace number j; a is the class of those before it
  pub record AtHalfspace (v : Convex) (j : ℕ) (a : Class) : Type 0 where
    pub left : Convex
    pub at : PreparedConvex left (drop j xs)
    pub class : meet a (convex_class left t) ≡ convex_class v t

  abbrev pub InConvex : ℕ → Class → Type 0
  InConvex j a = (v : Convex) → PreparedConvex v xs → AtHalfspace v j a

  module _ {j : ℕ} {a : Class} (o : InConvex j a) (d : PreparedHalfspace) (l : j < length xs) where
    here : (v : Convex) (p : PreparedConvex v xs) → HalfspaceNext (get_or xs j d) (drop (j + 1) xs) (o v p).left
    here v p = halfspace_next (o v p).left (subst (PreparedConvex (o v p).left) (from_next xs j d l) (o v p).at)

    pub halfspace_sound : ReadyConvex xs → SoundHalfspace (get_or xs j d)
    halfspace_sound r = (here r.0 r.1).sound

    pub halfspace_taken : {b c : Class} → b ≡ prepared_class (get_or xs j d) t → c ≡ ord_min cmp-value.it a b → InConvex (j + 1) c
    halfspace_taken {b} e m v p =
        let h = here v p in
        record {
          left = h.rest;
          at = h.after;
          class =
              ap (λ y. meet y (convex_class h.rest t)) (m ∙ min_is_meet a b ∙ ap (meet a) e) ∙ meet_assoc a (prepared_class (get_or xs j d) t) (convex_class h.rest t)
              ∙ ap (meet a) (sym (h.class t)) ∙ (o v p).class;
        }

  -- the convex is at its end
  pub exhausted : {j : ℕ} {a : Class} → InConvex j a → length xs ≤ j → ClassedConvex t xs a
  exhausted {j} {a} o h v p =
      let s = o v p in
      sym (meet_full a) ∙ ap (meet a) (sym (convex_end s.left (drop j xs) s.at (omega (arith, length-drop j xs)) t)) ∙ s.class

  -- the class of all of it is that of a scan that is at its end
  pub at_end : {a : Class} → ClassedConvex t xs a → InConvex (length xs) a
  unfolding convex_prepared good_convex every
  at_end {a} f v p = record {
    left = [];
    at = record { good = refl; halfspaces = drop-length xs };
    class = ap (meet a) (no_convex [] t refl) ∙ meet_full a ∙ f v p;
  }

  -- the trixel is outside of it, whatever is left
  pub convex_left_out : {j : ℕ} {a : Class} → InConvex j a → a ≡ Outside → ClassedConvex t xs a
  convex_left_out {j} {a} o e v p =
      let s = o v p in
      sym (outside_stays a (convex_class s.left t) (ap is_outside e)) ∙ s.class

-- ---- where the scan of a region stands

module _ (t : Trixel) (xs : List PreparedHalfspace) (es : List ℕ) where
  -- before convex number k, whose first halfspace is number i; c is the class of the convexes before it
  pub record AtConvex (g : Region) (i k : ℕ) (c : Class) : Type 0 where
    pub left : Region
    pub at : RegionAt xs es i k left
    pub class : join c (region_class left t) ≡ region_class g t

  abbrev pub InRegion : ℕ → ℕ → Class → Type 0
  InRegion i k c = (g : Region) → Prepared g xs es → AtConvex g i k c

  -- before halfspace number i, in convex number k, which ends before halfspace number `end`; a is the class of the convex so far
  pub record AtHalfspaceOf (g : Region) (k end i : ℕ) (c a : Class) : Type 0 where
    pub convex : Convex
    pub at : PreparedConvex convex (take (end - i) (drop i xs))
    pub left : Region
    pub after : RegionAt xs es end (k + 1) left
    pub class : join c (join (meet a (convex_class convex t)) (region_class left t)) ≡ region_class g t

  module _ {g : Region} {k end i : ℕ} {c a : Class} (s : AtHalfspaceOf g k end i c a) where
    -- what is left of the convex changes nothing
    convex_passed : meet a (convex_class s.convex t) ≡ a → AtConvex g end (k + 1) (join c a)
    convex_passed settled = record {
      left = s.left;
      at = s.after;
      class = join_assoc c a (region_class s.left t) ∙ ap (λ y. join c (join y (region_class s.left t))) (sym settled) ∙ s.class;
    }

    -- the convex is at its end
    exhausted_of : end ≤ i → AtConvex g end (k + 1) (join c a)
    exhausted_of h =
        let none : end - i ≡ 0 = omega arith in
        convex_passed (ap (meet a) (convex_end s.convex (take (end - i) (drop i xs)) s.at (ap (λ m. length (take m (drop i xs))) none) t) ∙ meet_full a)

  -- the trixel is outside of the convex, whatever is left of it
  pub left_out : {g : Region} {k end i : ℕ} {c a : Class} → AtHalfspaceOf g k end i c a → is_outside a ≡ true → AtConvex g end (k + 1) (join c a)
  left_out {a = a} s e = convex_passed s (outside_stays a (convex_class s.convex t) e)

  module _ {i k : ℕ} {c : Class} (o : InRegion i k c) (l : k < length es) where
    -- the next convex
    opened : (g : Region) (p : Prepared g xs es) → ConvexNext xs es i k (get_or es k 0) (o g p).left
    opened g p = convex_next xs es i k (o g p).left (o g p).at l (get_or es k 0) refl

    pub opened_within : Ready xs es → (i ≤ get_or es k 0) × (get_or es k 0 ≤ length xs)
    opened_within r = let n = opened r.0 r.1 in (n.before, n.most)

    pub opened_ready : Ready xs es → ReadyConvex (take (get_or es k 0 - i) (drop i xs))
    opened_ready r = let n = opened r.0 r.1 in (n.convex, n.at)

    -- its class is taken
    pub closed : {a b : Class} → ClassedConvex t (take (get_or es k 0 - i) (drop i xs)) a → b ≡ ord_max cmp-value.it c a → InRegion (get_or es k 0) (k + 1) b
    closed {a} f e g p =
        let n = opened g p in
        record {
          left = n.rest;
          at = n.after;
          class =
              ap (λ y. join y (region_class n.rest t)) (e ∙ max_is_join c a ∙ ap (join c) (f n.convex n.at)) ∙ join_assoc c (convex_class n.convex t) (region_class n.rest t)
              ∙ ap (join c) (sym (n.class t)) ∙ (o g p).class;
        }

    -- it is scanned up to its halfspace number j
    within : {j : ℕ} {a : Class} → InConvex t (take (get_or es k 0 - i) (drop i xs)) j a → (g : Region) → Prepared g xs es → AtHalfspaceOf g k (get_or es k 0) (i + j) c a
    within {j} s g p =
        let n = opened g p in
        let w = s n.convex n.at in
        record {
          convex = w.left;
          at = subst (PreparedConvex w.left) (part_left i j (get_or es k 0) xs) w.at;
          left = n.rest;
          after = n.after;
          class = ap (λ y. join c (join y (region_class n.rest t))) w.class ∙ ap (join c) (sym (n.class t)) ∙ (o g p).class;
        }

    -- the trixel is outside of it, whatever is left of it
    pub left_out_in : {j : ℕ} {a : Class} → InConvex t (take (get_or es k 0 - i) (drop i xs)) j a → a ≡ Outside → InRegion (get_or es k 0) (k + 1) (ord_max cmp-value.it c a)
    left_out_in {a = a} s e g p = subst (AtConvex g (get_or es k 0) (k + 1)) (sym (max_is_join c a)) (left_out (within s g p) (ap is_outside e))

  -- no convex is left
  pub ended : {i k : ℕ} {c : Class} → InRegion i k c → length es ≤ k → Classed t xs es c
  ended {i} {k} {c} o h g p = let a = o g p in sym (join_outside c) ∙ ap (join c) (sym (region_end xs es i k a.left a.at h t)) ∙ a.class

  -- the region is full, whatever is left
  pub full : (g : Region) (i k : ℕ) (c : Class) → c ≡ Full → AtConvex g i k c → c ≡ region_class g t
  full g i k c e a =
      let stays : join c (region_class a.left t) ≡ c = ap (λ y. join y (region_class a.left t)) e ∙ sym e in
      sym stays ∙ a.class

  pub full_in : {i k : ℕ} {c : Class} → InRegion i k c → c ≡ Full → Classed t xs es c
  full_in {i} {k} {c} o e g p = full g i k c e (o g p)

-- ---- a region of one convex

module _ (t : Trixel) (xs : List PreparedHalfspace) (es : List ℕ) where
  -- before halfspace number i of the first convex, which ends with all halfspaces; a is the class of those before it
  abbrev pub InOnly : ℕ → Class → Type 0
  InOnly i a = (g : Region) → Prepared g xs es → AtHalfspaceOf t xs es g 0 (length xs) i Outside a

  -- where no halfspace is left, what the scan has is the class for the region
  pub only_end : {i : ℕ} {a : Class} → InOnly i a → length xs ≤ i → Classed t xs es a
  only_end {a = a} o h g p =
      let s = exhausted_of t xs es (o g p) h in
      sym (join_outside a) ∙ ap (join a) (sym (halfspaces_end xs es (length xs) 1 s.left s.at (le_refl (length xs)) t)) ∙ s.class

module _ (t : Trixel) {xs : List PreparedHalfspace} {es : List ℕ} (one : length es ≡ 1) where
  -- its halfspaces are all
  only_prepared : (v : Convex) → Prepared (v ∷ []) xs es → PreparedConvex v xs
  unfolding region_prepared
  only_prepared v p = record { good = (region_good v [] p.good).0; halfspaces = p.halfspaces ∙ append-nil (convex_prepared v) }

  pub only_ready : Ready xs es → ReadyConvex xs
  only_ready ([], p) = absurd (omega (arith, ap length p.ends, length_ends 0 []))
  only_ready (v ∷ [], p) = (v, only_prepared v p)
  only_ready (v ∷ w ∷ vs, p) = absurd (omega (arith, ap length p.ends, length_ends 0 (v ∷ w ∷ vs)))

  -- behind its only convex there is none
  none_after : (v : Convex) → Prepared (v ∷ []) xs es → RegionAt xs es (length xs) 1 []
  unfolding region_prepared ends_from good every
  none_after v p = record { filled = tt; good = refl; halfspaces = drop-length xs; ends = ap (drop 1) p.ends }

  -- the scan of its only convex is that of the region
  pub only_scan : {j : ℕ} {a : Class} → InConvex t xs j a → InOnly t xs es j a
  only_scan s [] p = absurd (omega (arith, ap length p.ends, length_ends 0 []))
  only_scan {j} s (v ∷ []) p =
      let w = s v (only_prepared v p) in
      record {
        convex = w.left;
        at = subst (PreparedConvex w.left) (sym (take_rest xs j)) w.at;
        left = [];
        after = none_after v p;
        class = ap (λ y. join y (region_class [] t)) w.class ∙ sym (region_cons v [] t);
      }
  only_scan s (v ∷ w ∷ vs) p = absurd (omega (arith, ap length p.ends, length_ends 0 (v ∷ w ∷ vs)))

  -- where its only convex is at its end, what the scan has is the class for the region
  pub only_end_in : {j : ℕ} {a : Class} → InConvex t xs j a → length xs ≤ j → Classed t xs es a
  only_end_in s = only_end t xs es (only_scan s)

  -- the class for the only convex of a region is that for the region
  pub only_convex : {c : Class} → ClassedConvex t xs c → Classed t xs es c
  only_convex f = only_end_in (at_end t xs f) (le_refl (length xs))
