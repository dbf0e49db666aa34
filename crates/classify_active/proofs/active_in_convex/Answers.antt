use Rattle.std.proofs.Common.{rules, arith, ◌∙◌, sym, refl, ap}
use mathlib.Core.Bool.{false≢true}
use denote.Enum.Bare.{sameb, same_true}
use Rattle.classify.specs.declared.Class.TheVariants.{Outside}
use Rattle.classify.specs.contracts.Class.{the_type}
use Rattle.classify_active.proofs.ActiveConvexLaws.{convex_search_start, search_sound, search_outside, search_more, convex_search_end}
use Rattle.classify_active.proofs.active_in_convex.Goals as goal

pub loop-q-init : goal.loop-q-init
loop-q-init c = (refl, convex_search_start _ _ _ _ c.requires.few.0)

pub returns-then-most-m : goal.returns-then-most-m
returns-then-most-m c v p = let s = c.loop-q.invariant.1 v p in (s.stored, s.stores)

pub settled_class-c-requires : goal.settled_class-c-requires
settled_class-c-requires c = record {
  sound_halfspace = search_sound _ _ _ _ c.requires.anchor c.loop-q.invariant.1 _ c.loop-q-test.true c.requires.ready;
  anchor = c.requires.anchor;
}

-- where it is outside
pub returns-then-eq : goal.returns-then-eq
returns-then-eq c =
    search_outside _ _ _ _ c.requires.anchor c.loop-q.invariant.1 _ c.loop-q-test.true c.settled_class-c.ensures
    (same_true the_type (search rules) _ _ (sym c.eq.ensures ∙ c.if-eq.true))

-- where it is not
pub loop-q-preserved : goal.loop-q-preserved
loop-q-preserved c = (
  c.store_active-m.auto.active ∙ c.loop-q.invariant.0,
  search_more _ _ _ _ c.requires.anchor c.loop-q.invariant.1 _ c.loop-q-test.true c.settled_class-c.ensures
      (λ e. false≢true (sym c.if-eq.false ∙ c.eq.ensures ∙ ap (λ x. sameb the_type x Outside) e))
      (omega (arith, c.if-most-m.false, c.requires.few.2)) c.requires.few.1 c.store_active-m.ensures.value c.store_active-m.ensures.active_after,
)

pub returns : goal.returns
returns c = convex_search_end _ _ _ _ c.loop-q.invariant.1 c.loop-q-test.false
