-- The size of a region decides the limits as the region itself does, and grows as it grows. Assumes nothing.
use Prim.Native.Nat.{ℕ, ◌+◌, ◌<◌}
use native.Mathlib.Omega.{arith}
use mathlib.Core.Path.{◌≡◌, refl, sym, ap, ◌∙◌}
use mathlib.Core.Bool.{Bool, true, false, ◌&&◌}
use mathlib.Core.List.{◌∷◌, []}
use lib.Dec.{ltb}
use lib.ListN.{length, length-append}
use borrow.Author.Tests.{ltb-true, ltb-false, le-leb, lt-leb}
use Rattle.algebra.proofs.Tests.{and_right, split}
use Rattle.answer.specs.Answer.{Answer, gives, check, with_value, Crowd, Vector, Offset}
use Rattle.answer.proofs.AnswerLaws.{check_passed, check_gives}
use Rattle.vector.specs.Vectors.{is_vector}
use Rattle.region.specs.declared.Halfspace.{Halfspace}
use Rattle.region.specs.Regions.{Region}
use Rattle.region.specs.Building.{last_convex, total, with_convex, with_halfspace, few_convexes, below_limits, is_offset, add}
use Rattle.region.proofs.AddLaws.{GoodHalfspace}
use Rattle.region.proofs.RegionLaws.{convex_length, convex_last, convex_total, halfspace_length, halfspace_last, halfspace_total}
use Rattle.region_rows.specs.declared.counts.RegionSize.{RegionSize}
use Rattle.region_rows.specs.RegionSizes.{region_size, add_convex, add_halfspace}

-- ---- a new convex

few : (g : Region) → ltb (length g) 64 ≡ few_convexes (with_convex g)
few g =
    split (ltb (length g) 64)
    (λ t. t ∙ sym (le-leb (length (with_convex g)) 64 (omega (arith, convex_length g, ltb-true (length g) 64 t))))
    (λ f. f ∙ sym (lt-leb (length (with_convex g)) 64 (omega (arith, convex_length g, ltb-false (length g) 64 f))))

pub convex_counts : (g : Region) → add_convex (region_size g) ≡ check Crowd (few_convexes (with_convex g)) (gives (region_size (with_convex g)))
unfolding add_convex
convex_counts g =
    λ i. check Crowd (few g i)
    (gives (record { convexes = sym (convex_length g) i; last = length (sym (convex_last g) i); all = sym (convex_total g) i }))

-- ---- a new halfspace

halfspace_grown : (g : Region) (h : Halfspace) → 0 < length g
    → record { convexes = length g; last = length (last_convex g) + 1; all = total g + 1 } ≡ region_size (with_halfspace g h)
halfspace_grown g h b =
    let last : length (last_convex g) + 1 ≡ length (last_convex (with_halfspace g h)) = omega (arith, ap length (halfspace_last g h b), length-append (last_convex g) (h ∷ [])) in
    λ i. record { convexes = sym (halfspace_length g h) i; last = last i; all = sym (halfspace_total g h b) i }

value_checks : {A B : Type 0} (f : A → B) (m n o : ℕ) (r s t : Bool) (a : A)
    → check m r (check n s (check o t (gives (f a)))) ≡ with_value f (check m r (check n s (check o t (gives a))))
value_checks f m n o false s t a = refl
value_checks f m n o true false t a = refl
value_checks f m n o true true false a = refl
value_checks f m n o true true true a = refl

pub halfspace_counts : (g : Region) (h : Halfspace) → 0 < length g → add_halfspace (region_size g) h ≡ with_value region_size (add g h)
unfolding add_halfspace add
halfspace_counts g h b =
    ap (λ k. check Crowd (below_limits g) (check Vector (is_vector h.n) (check Offset (is_offset h.d) (gives k)))) (halfspace_grown g h b)
    ∙ value_checks region_size Crowd Vector Offset (below_limits g) (is_vector h.n) (is_offset h.d) (with_halfspace g h)

-- what passed its checks
pub halfspace_passed : (k l : RegionSize) (h : Halfspace) → add_halfspace k h ≡ gives l → GoodHalfspace h × (k.all < 512)
unfolding add_halfspace
halfspace_passed k l h e =
    let below = ltb k.last 100 && ltb k.all 512 in
    let last : Answer RegionSize = gives (record { convexes = k.convexes; last = k.last + 1; all = k.all + 1 }) in
    let offset = check Offset (is_offset h.d) last in
    let vector = check Vector (is_vector h.n) offset in
    let v = check_gives Crowd below vector l e in
    let good : GoodHalfspace h = record {
      vector = check_passed Vector (is_vector h.n) offset l v;
      offset = check_passed Offset (is_offset h.d) last l (check_gives Vector (is_vector h.n) offset l v);
    } in
    (good, ltb-true k.all 512 (and_right (ltb k.last 100) (ltb k.all 512) (check_passed Crowd below vector l e)))
