use Prim.Native.Nat.{ℕ, zero, suc, ◌+◌, ◌-◌, ◌*◌, ◌/◌, ◌^◌, ◌≤◌, ◌<◌}
use native.Mathlib.Numerals.{add-one}
use native.Mathlib.Omega.{arith}
use mathlib.Core.Path.{◌≡◌, refl, ap, ◌∙◌}
use mathlib.Core.List.{List, [], ◌∷◌}
use lib.ListN.{length, get_or, take, drop}
use lib.Seq.{get_or-drop, length-take-le}
use Rattle.std.specs.Simd.{first_chunks}
use Rattle.std.proofs.lemmas.List.{get_or-take}
use Rattle.ranges.specs.Ranges.{ranges_in}
use Rattle.ranges.specs.Contents.{identifiers}
use Rattle.ranges.proofs.ContentsLaws.{identifiers_next, identifiers_first}
use Rattle.covering_calls.proofs.identifiers_in.Goals as goal

-- the pairs of a list: pair i stands at element 2 × i
pair_at : (m i : ℕ) (l : List ℕ) → i < m → (get_or (get_or (first_chunks 2 m l) i []) 0 0 ≡ get_or l (2 * i) 0) × (get_or (get_or (first_chunks 2 m l) i []) 1 0 ≡ get_or l (2 * i + 1) 0)
pair_at zero i l h = absurd (omega arith)
pair_at (suc m) zero [] h = (refl, refl)
pair_at (suc m) zero (x ∷ []) h = (refl, refl)
pair_at (suc m) zero (x ∷ y ∷ l) h = (refl, refl)
pair_at (suc m) (suc i) l h =
    let p = pair_at m i (drop 2 l) (omega arith) in
    let a : 2 + 2 * i ≡ 2 * suc i = omega arith in
    let b : 2 + (2 * i + 1) ≡ 2 * suc i + 1 = omega arith in
    (p.0 ∙ get_or-drop 2 l (2 * i) 0 ∙ ap (λ k. get_or l k 0) a, p.1 ∙ get_or-drop 2 l (2 * i + 1) 0 ∙ ap (λ k. get_or l k 0) b)

module _ (l : List ℕ) (n i : ℕ) (ps : List (List ℕ)) (fits : 2 * n ≤ length l) (few : identifiers (ranges_in n l) ≤ 2 ^ 25) (front : ps ≡ first_chunks 2 (length l / 2) l)
    (many : length ps ≡ length l / 2) (here : i < length (take n ps)) where
  inside : i < n
  inside = omega (arith, length-take-le n ps (omega arith))

  abbrev pair : List ℕ
  pair = get_or (take n ps) i []

  -- a range's identifiers but one
  span_is : (r : ℕ) → r ≡ get_or pair 1 0 - get_or pair 0 0 → r ≡ get_or l (2 * i + 1) 0 - get_or l (2 * i) 0
  span_is r e =
      let f : pair ≡ get_or (first_chunks 2 (length l / 2) l) i [] = get_or-take n ps i [] inside ∙ ap (λ p. get_or p i []) front in
      let q = pair_at (length l / 2) i l (omega (arith, inside)) in
      e ∙ (λ j. (ap (λ p. get_or p 1 0) f ∙ q.1) j - (ap (λ p. get_or p 0 0) f ∙ q.0) j)

  -- range number i is one of n
  more_few : identifiers (ranges_in i l) + (get_or l (2 * i + 1) 0 - get_or l (2 * i) 0 + 1) ≤ 2 ^ 25
  more_few = omega (arith, identifiers_next i l, identifiers_first (suc i) n l (omega (arith, inside)))

pub loop-low-init : goal.loop-low-init
unfolding ranges_in identifiers
loop-low-init c = refl

pub overflow_add-sum : goal.overflow_add-sum
overflow_add-sum c =
    let p = c.as_chunks.ensures in
    let s = span_is c.args.list.now c.args.n c.loop-low.low-index c.as_chunks.result.0.now c.requires.0 c.requires.1 p.front p.front_len c.loop-low-test.true c.saturating_sub.result c.saturating_sub.ensures in
    omega (arith, s, more_few c.args.list.now c.args.n c.loop-low.low-index c.as_chunks.result.0.now c.requires.0 c.requires.1 p.front p.front_len c.loop-low-test.true)

pub overflow_add-sum-in-loop-low : goal.overflow_add-sum-in-loop-low
overflow_add-sum-in-loop-low c =
    let p = c.as_chunks.ensures in
    let s = span_is c.args.list.now c.args.n c.loop-low.low-index c.as_chunks.result.0.now c.requires.0 c.requires.1 p.front p.front_len c.loop-low-test.true c.saturating_sub.result c.saturating_sub.ensures in
    omega (arith, s, c.loop-low.invariant, more_few c.args.list.now c.args.n c.loop-low.low-index c.as_chunks.result.0.now c.requires.0 c.requires.1 p.front p.front_len c.loop-low-test.true)

pub loop-low-preserved : goal.loop-low-preserved
loop-low-preserved c =
    let p = c.as_chunks.ensures in
    let xs = c.args.list.now in
    let i = c.loop-low.low-index in
    let s = span_is xs c.args.n i c.as_chunks.result.0.now c.requires.0 c.requires.1 p.front p.front_len c.loop-low-test.true c.saturating_sub.result c.saturating_sub.ensures in
    omega (arith, s, c.loop-low.invariant, identifiers_next i xs, ap (λ k. identifiers (ranges_in k xs)) (add-one i))

pub returns : goal.returns
returns c =
    let n = c.args.n in
    let e : c.loop-low.low-index ≡ n = omega (arith, length-take-le n c.as_chunks.result.0.now (omega (arith, c.requires.0, c.as_chunks.ensures.front_len))) in
    c.loop-low.invariant ∙ ap (λ k. identifiers (ranges_in k c.args.list.now)) e
