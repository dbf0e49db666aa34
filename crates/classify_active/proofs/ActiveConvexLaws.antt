-- What is stored of a convex beside an anchor, halfspace by halfspace: a settled one is outside for every close trixel, and so is its convex, or it is
-- full and leaves the class of its convex as it is. Assumes nothing.
use Prim.Native.Nat.{ℕ, ◌+◌, ◌≤◌, ◌<◌}
use native.Mathlib.Omega.{arith}
use mathlib.Core.Path.{◌≡◌, refl, sym, ap, subst, subst₂, ◌∙◌}
use mathlib.Core.Bool.{true}
use mathlib.Core.List.{List, [], ◌∷◌, ◌++◌}
use lib.ListN.{length, get_or, drop, set, length-append, length-drop}
use Rattle.algebra.specs.Lists.{every}
use Rattle.algebra.proofs.Tests.{and_left, and_right, and_both}
use Rattle.answer.specs.Lent.{put}
use Rattle.answer.proofs.PutLaws.{put_length, put_none, put_next, set_put}
use Rattle.mesh.specs.declared.Trixel.{Trixel}
use Rattle.region.specs.declared.Halfspace.{Halfspace}
use Rattle.region.specs.Regions.{Convex}
use Rattle.region.proofs.GoodRegions.{good_halfspace, good_convex}
use Rattle.classify.specs.declared.Class.{Class}
use Rattle.classify.specs.declared.Class.TheVariants.{Outside, Partial, Full}
use Rattle.classify_prepared.specs.declared.PreparedHalfspace.{PreparedHalfspace}
use Rattle.classify_active.specs.declared.anchors.Anchor.{Anchor}
use Rattle.classify.specs.Classes.{halfspace_class, convex_class}
use Rattle.classify_prepared.specs.Measures.{prepared, SoundHalfspace}
use Rattle.classify_halfspace.specs.Halfspaces.{prepared_class}
use Rattle.classify_active.specs.Anchor.{IsAnchor, settled_by, Close}
use Rattle.classify_halfspace.proofs.ClassLaws.{prepared_class_is}
use Rattle.classify_active.proofs.AnchorLaws.{stays_outside, stays_full}
use Rattle.classify_prepared.specs.PreparedLists.{convex_prepared, PreparedConvex, ReadyConvex, meet}
use Rattle.classify_region.proofs.ScanLaws.{meet_assoc, meet_full, convex_cons, no_convex, HalfspaceNext, halfspace_next, convex_end, from_next}
use Rattle.classify_prepared.proofs.PreparingLaws.{length_convex}
use Rattle.classify_active.specs.Active.{Stores, active_stored_count, active_stored_list}

-- ---- a halfspace at the end of a convex

meet_outside : (a : Class) → meet a Outside ≡ Outside
meet_outside Outside = refl
meet_outside Partial = refl
meet_outside Full = refl

module _ (h : Halfspace) where
  convex_snoc : (u : Convex) (t : Trixel) → convex_class (u ++ h ∷ []) t ≡ meet (convex_class u t) (halfspace_class h t)
  convex_snoc [] t = convex_cons h [] t ∙ ap (meet (halfspace_class h t)) (no_convex [] t refl) ∙ meet_full (halfspace_class h t) ∙ ap (λ a. meet a (halfspace_class h t)) (sym (no_convex [] t refl))
  convex_snoc (v ∷ vs) t =
      convex_cons v (vs ++ h ∷ []) t ∙ ap (meet (halfspace_class v t)) (convex_snoc vs t)
      ∙ sym (meet_assoc (halfspace_class v t) (convex_class vs t) (halfspace_class h t)) ∙ ap (λ a. meet a (halfspace_class h t)) (sym (convex_cons v vs t))

  list_snoc : (u : Convex) → convex_prepared (u ++ h ∷ []) ≡ convex_prepared u ++ prepared h ∷ []
  unfolding convex_prepared
  list_snoc [] = refl
  list_snoc (v ∷ vs) = ap (λ l. prepared v ∷ l) (list_snoc vs)

  good_snoc : (u : Convex) → good_convex u ≡ true → good_halfspace h ≡ true → good_convex (u ++ h ∷ []) ≡ true
  unfolding good_convex every
  good_snoc [] e f = and_both f refl
  good_snoc (v ∷ vs) e f = and_both (and_left (good_halfspace v) (every good_halfspace vs) e) (good_snoc vs (and_right (good_halfspace v) (every good_halfspace vs) e) f)

pub length_snoc : {A : Type 0} (xs : List A) (x : A) → length (xs ++ x ∷ []) ≡ length xs + 1
length_snoc xs x = omega (arith, length-append xs (x ∷ []))

-- ---- the halfspaces of a convex

module _ (r : Anchor) (xs : List PreparedHalfspace) (w : ℕ) (ys : List PreparedHalfspace) where
  -- before halfspace number j of the convex v; m halfspaces are stored
  pub record ConvexSearch (v : Convex) (j m : ℕ) (ys' : List PreparedHalfspace) : Type 0 where
    pub left : Convex
    pub at : PreparedConvex left (drop j xs)
    pub stored : Convex
    pub stores : Stores w stored ys ys'
    pub count : m ≡ w + length stored
    pub class : (t : Trixel) → Close r t → meet (convex_class stored t) (convex_class left t) ≡ convex_class v t

  abbrev pub InSearch : ℕ → ℕ → List PreparedHalfspace → Type 0
  InSearch j m ys' = (v : Convex) → PreparedConvex v xs → ConvexSearch v j m ys'

  nothing_stored : w ≤ 32 → Stores w [] ys ys
  unfolding good_convex every convex_prepared
  nothing_stored h = record { good = refl; small = omega arith; list = sym (put_none w ys) }

  pub convex_search_start : w ≤ 32 → InSearch 0 w ys
  convex_search_start h v p = record {
    left = v;
    at = p;
    stored = [];
    stores = nothing_stored h;
    count = omega arith;
    class = λ t c. ap (λ a. meet a (convex_class v t)) (no_convex [] t refl);
  }

  -- another halfspace is stored
  stored_more : (u : Convex) (h : Halfspace) {ys' : List PreparedHalfspace} → Stores w u ys ys' → good_halfspace h ≡ true → {m : ℕ} → m ≡ w + length u → m < 32 → length ys ≡ 32
      → {q : PreparedHalfspace} → q ≡ prepared h → Stores w (u ++ h ∷ []) ys (set ys' m q)
  stored_more u h {ys'} s f {m} e l long {q} is =
      let at : m ≡ w + length (convex_prepared u) = omega (arith, e, length_convex u) in
      let in_list : w + length (convex_prepared u) ≤ length ys = omega (arith, s.small, length_convex u) in
      let here : m < length ys' = omega (arith, ap length s.list ∙ put_length w (convex_prepared u) ys in_list) in
      record {
        good = good_snoc h u s.good f;
        small = omega (arith, e, length_snoc u h);
        list =
            ap (set ys' m) is ∙ put_next w (convex_prepared u) (prepared h ∷ []) ys s.list (set_put m (prepared h) ys' here) at (omega (arith, e))
            ∙ ap (λ l. put w l ys) (sym (list_snoc h u));
      }

  module _ {j m : ℕ} {ys' : List PreparedHalfspace} (anchor : IsAnchor r) (o : InSearch j m ys') (d : PreparedHalfspace) (l : j < length xs) where
    here : (v : Convex) (p : PreparedConvex v xs) → HalfspaceNext (get_or xs j d) (drop (j + 1) xs) (o v p).left
    here v p = halfspace_next (o v p).left (subst (PreparedConvex (o v p).left) (from_next xs j d l) (o v p).at)

    pub search_sound : ReadyConvex xs → SoundHalfspace (get_or xs j d)
    search_sound k = (here k.0 k.1).sound

    module _ (v : Convex) (p : PreparedConvex v xs) where
      -- the class of the convex, with that of the halfspace
      with_first : (t : Trixel) → Close r t → {c : Class} → prepared_class (get_or xs j d) t ≡ c
          → meet (convex_class (o v p).stored t) (meet c (convex_class (here v p).rest t)) ≡ convex_class v t
      with_first t k e =
          let a = o v p in
          ap (λ b. meet (convex_class a.stored t) (meet b (convex_class (here v p).rest t))) (sym e) ∙ ap (meet (convex_class a.stored t)) (sym ((here v p).class t)) ∙ a.class t k

      passed : settled_by (get_or xs j d) r ≡ Full → ConvexSearch v (j + 1) m ys'
      passed s = record {
        left = (here v p).rest;
        at = (here v p).after;
        stored = (o v p).stored;
        stores = (o v p).stores;
        count = (o v p).count;
        class = λ t k. with_first t k (stays_full anchor (here v p).sound k s);
      }

      left_active : m < 32 → length ys ≡ 32 → ConvexSearch v (j + 1) (m + 1) (set ys' m (get_or xs j d))
      left_active few long =
          let a = o v p in
          let h = here v p in
          record {
            left = h.rest;
            at = h.after;
            stored = a.stored ++ h.first ∷ [];
            stores = stored_more a.stored h.first a.stores h.good a.count few long h.is;
            count = omega (arith, a.count, length_snoc a.stored h.first);
            class = λ t k.
                ap (λ b. meet b (convex_class h.rest t)) (convex_snoc h.first a.stored t)
                ∙ meet_assoc (convex_class a.stored t) (halfspace_class h.first t) (convex_class h.rest t)
                ∙ with_first t k (ap (λ q. prepared_class q t) h.is ∙ prepared_class_is h.first t);
          }

      stored_by : (c : Class) → c ≡ settled_by (get_or xs j d) r → (c ≡ Outside → ⊥) → m < 32 → length ys ≡ 32
          → ConvexSearch v (j + 1) (active_stored_count c m) (active_stored_list c m (get_or xs j d) ys')
      stored_by Outside e n few long = absurd (n refl)
      stored_by Partial e n few long = left_active few long
      stored_by Full e n few long = passed (sym e)

    -- the halfspace leaves every close trixel outside
    pub search_outside : {c : Class} → c ≡ settled_by (get_or xs j d) r → c ≡ Outside → (v : Convex) → PreparedConvex v xs
        → (u : Convex) × Stores w u ys ys' × ((t : Trixel) → Close r t → convex_class v t ≡ Outside)
    search_outside e f v p = (
      (o v p).stored,
      (o v p).stores,
      λ t k. sym (with_first v p t k (stays_outside anchor (here v p).sound k (sym e ∙ f))) ∙ meet_outside (convex_class (o v p).stored t),
    )

    -- it does not, and is stored where it is active
    pub search_more : {c : Class} → c ≡ settled_by (get_or xs j d) r → (c ≡ Outside → ⊥) → m < 32 → length ys ≡ 32
        → {m' : ℕ} {ys'' : List PreparedHalfspace} → m' ≡ active_stored_count c m → ys'' ≡ active_stored_list c m (get_or xs j d) ys' → InSearch (j + 1) m' ys''
    search_more {c} e n few long f g v p = subst₂ (ConvexSearch v (j + 1)) (sym f) (sym g) (stored_by v p c e n few long)

  -- no halfspace is left
  pub convex_search_end : {j m : ℕ} {ys' : List PreparedHalfspace} → InSearch j m ys' → length xs ≤ j → (v : Convex) → PreparedConvex v xs
      → (u : Convex) × Stores w u ys ys' × (m ≡ w + length u) × ((t : Trixel) → Close r t → convex_class v t ≡ convex_class u t)
  convex_search_end {j} o l v p =
      let a = o v p in (
        a.stored,
        a.stores,
        a.count,
        λ t k.
            sym (a.class t k) ∙ ap (meet (convex_class a.stored t)) (convex_end a.left (drop j xs) a.at (omega (arith, length-drop j xs)) t)
            ∙ meet_full (convex_class a.stored t),
      )
