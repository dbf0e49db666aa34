use Prim.Native.Nat.{◌+◌, ◌-◌, ◌*◌, ◌^◌, ◌≤◌, ◌<◌}
use native.Mathlib.Omega.{arith}
use mathlib.Core.Path.{◌≡◌, refl}
use mathlib.Core.Bool.{true}
use mathlib.Core.List.{[]}
use lib.ListN.{get_or}
use Rattle.catalogue_line.specs.Lines.{is_digit_to, digits_in}
use Rattle.catalogue_line.proofs.LinesInverse.{no_digits}
use Rattle.catalogue_line.proofs.ReadingLaws.{past, power_small, all_read, no_digits_left, is_digit_low, is_digit_high, is_digit_there, one_more}
use Rattle.catalogue_line.proofs.digits.Goals as goal
use Rattle.catalogue_line.proofs.digits.Goals.{In-48-to-57, else-loop-test, then-loop-test+in_default, then-loop-test+in_default-2, then-loop-test+in_default-3}

small : (c : In-48-to-57) → (c.loop.number < 2 * 10 ^ 7) × (c.loop.power ≤ 10 ^ 7)
small c =
    let r = c.loop.invariant in
    let p = power_small _ _ _ _ _ _ r in
    (omega (arith, r.size, p), p)

pub overflow_mul-number : goal.overflow_mul-number
overflow_mul-number c = omega (arith, small c)

pub overflow_add-number : goal.overflow_add-number
overflow_add-number c = omega (arith, small (goal.at.overflow_add-number c).In-48-to-57, c.from.ensures)

pub overflow_mul-power : goal.overflow_mul-power
overflow_mul-power c = omega (arith, small (goal.at.overflow_mul-power c).In-48-to-57)

pub loop-preserved : goal.loop-preserved
loop-preserved c =
    let t = c.loop.rest.now in
    let e : is_digit_to 9 (get_or t 0 0) ≡ true = is_digit_there 9 (get_or t 0 0) (omega arith) (omega arith) in
    rw c.from.ensures (one_more _ _ _ _ t (7 - c.loop.counter) (7 - (c.loop.counter + 1)) (omega arith) c.loop.invariant e)

pub returns : goal.returns
returns c =
    let l = c.loop in
    let t = l.rest.now in
    let left = 7 - l.counter in
    let none : digits_in left t ≡ [] = elim c.loop-test.branch [
      | else-loop-test w ↦ no_digits_left t left (omega arith)
      | then-loop-test+in_default w ↦ no_digits left t (is_digit_low 9 (get_or t 0 0) (omega (arith, past t 0)))
      | then-loop-test+in_default-2 w ↦ no_digits left t (is_digit_low 9 (get_or t 0 0) (omega arith))
      | then-loop-test+in_default-3 w ↦ no_digits left t (is_digit_high 9 (get_or t 0 0) (omega arith))
    ] in
    all_read _ _ _ _ _ _ l.invariant none _ refl refl refl
