-- A range that is accepted: it is pushed onto the outer list, a full one onto the inner list behind it too, and the trixel is counted as seen. Assumes nothing.
use Prim.Native.Nat.{ℕ, ◌+◌, ◌-◌, ◌*◌, ◌≤◌}
use native.Mathlib.Omega.{arith}
use mathlib.Core.Path.{◌≡◌, refl, sym, ap, subst, subst₂, ◌∙◌}
use mathlib.Core.List.{List}
use lib.ListN.{length}
use Rattle.ranges_stored.specs.declared.Pending.{Pending}
use Rattle.ranges_stored.specs.declared.StoredRanges.{StoredRanges}
use Rattle.ranges.specs.declared.Range.{Range}
use Rattle.ranges.specs.Ranges.{ranges_in}
use Rattle.ranges.specs.Lists.{gaps}
use Rattle.ranges.proofs.Pushing.{outer_push}
use Rattle.ranges_stored.specs.Stored.{Writes, differences_in, Hinted}
use Rattle.covering.specs.Cover.{taken_full, taken_partial}
use Rattle.covering_tally.specs.Tally.{with_outer, with_inner, one_full, one_partial, OuterPushed, InnerNeeds, InnerPushed, InnerAdded, SmallRange, TallyInvariant, TrixelAccepted}
use Rattle.covering_tally.specs.declared.Tally.{Tally}
use Rattle.covering_tally.proofs.WalkLaws.{taken_partial_law, taken_full_law, hinted_before, hinted_behind}

-- ---- a range that is accepted

pub outer_pushed : (r : Range) (m : StoredRanges) (s : Tally) {out out₁ : List ℕ}
    → Writes (outer_push s.budget (ranges_in s.outer.n out) r) out out₁ m.n → m.n ≤ s.budget → Hinted m.hint (gaps (ranges_in m.n out₁)) → OuterPushed r s out (with_outer m s) out₁
outer_pushed r m s w few h = record { writes = w; few = few; hinted = h; inner = refl; seen = refl; budget = refl; full = refl; partial = refl }

module _ {r : Range} {s s₁ : Tally} {out out₁ : List ℕ} (invariant : TallyInvariant s out) (o : OuterPushed r s out s₁ out₁) (same : length out₁ ≡ length out) where
  behind : Hinted s.inner.stored.hint (differences_in (2 * s.budget) 0 s.inner.stored.n out₁)
  behind = hinted_behind s.inner.stored.hint s.inner.stored.n s.budget o.writes o.few (omega (arith, invariant.list)) invariant.inner_hinted

  pub partial_taken : {s₂ : Tally} → s₂ ≡ one_partial s₁ → TrixelAccepted (taken_partial r) s out s₂ out₁
  partial_taken {s₂} e =
      subst (λ q. TrixelAccepted (taken_partial r) s out q out₁)
      (sym (e ∙ (λ i. record {
        outer = s₁.outer;
        inner = o.inner i;
        seen = o.seen i + 1;
        budget = o.budget i;
        full = o.full i;
        partial = o.partial i + 1;
      })))
      (record {
        adds = λ start a w. taken_partial_law s.budget start a s out w r out₁ s₁.outer invariant.outer o.writes o.few;
        invariant = record { budget = invariant.budget; outer = o.few; inner = invariant.inner; list = omega (arith, same, invariant.list); hinted = o.hinted; inner_hinted = behind; full = omega (arith, invariant.full); partial = omega (arith, invariant.partial) };
        seen = refl;
        budget = refl;
      })

  -- what the inner list's writer needs
  pub inner_wants : InnerNeeds s₁.budget s₁.inner out₁
  inner_wants =
      subst₂ (λ b p. InnerNeeds b p out₁) (sym o.budget) (sym o.inner)
      (record { budget = invariant.budget; few = invariant.inner; list = omega (arith, same, invariant.list); hinted = behind })

  -- the inner list's writer gave p₂
  module _ {out₂ : List ℕ} {p₂ : Pending} (long : length out₂ ≡ length out₁) where
    full_now : InnerPushed s.budget r s.inner out₁ p₂ out₂ → SmallRange r
        → TrixelAccepted (taken_full r) s out
        (record { outer = s₁.outer; inner = p₂; seen = s.seen + 1; budget = s.budget; full = s.full + (r.high - r.low + 1); partial = s.partial }) out₂
    full_now k z = record {
      adds = λ start a w. taken_full_law s.budget start a s out w r out₁ s₁.outer invariant.outer o.writes o.few out₂ p₂ k.behind;
      invariant = record {
        budget = invariant.budget;
        outer = o.few;
        inner = k.few;
        list = omega (arith, long, same, invariant.list);
        hinted = hinted_before s₁.outer.hint s₁.outer.n s.budget out₁ out₂ k.behind.rest o.few (omega (arith, same, invariant.list)) k.behind.list o.hinted;
        inner_hinted = k.hinted;
        full = omega (arith, invariant.full, z.order, z.small);
        partial = omega (arith, invariant.partial);
      };
      seen = refl;
      budget = refl;
    }

  pub full_taken : {s₂ s₃ : Tally} {out₂ : List ℕ} → InnerAdded r s₁ out₁ s₂ out₂ → length out₂ ≡ length out₁ → SmallRange r
      → s₃ ≡ one_full (r.high - r.low + 1) s₂ → TrixelAccepted (taken_full r) s out s₃ out₂
  full_taken {s₂} {s₃} {out₂} k long z more =
      let n = r.high - r.low + 1 in
      subst (λ q. TrixelAccepted (taken_full r) s out q out₂)
      (sym (more ∙ ap (one_full n) k.noted ∙ (λ i. record {
        outer = s₁.outer;
        inner = k.beside;
        seen = o.seen i + 1;
        budget = o.budget i;
        full = o.full i + n;
        partial = o.partial i;
      })))
      (full_now long (subst₂ (λ b p. InnerPushed b r p out₁ k.beside out₂) o.budget o.inner k.pushed) z)

pub inner_added : {r : Range} {s : Tally} {out out' : List ℕ} {q : Pending} → InnerPushed s.budget r s.inner out q out' → InnerAdded r s out (with_inner q s) out'
inner_added {q = q} h = record { beside = q; pushed = h; noted = refl }
