use Prim.Native.Nat.{◌+◌, ◌<◌}
use native.Mathlib.Omega.{arith}
use borrow.Author.Rules.{rules}
use lib.ListN.{length}
use Rattle.mesh_names.proofs.NameReading.{name_length, read_letter, next_digit, next_fits, read_digit, read_all, after_letter_at, after_letter_length}
use Rattle.mesh_names.proofs.value_of.Goals as goal

pub bounds-name-0 : goal.bounds-name-0
bounds-name-0 c = name_length _ c.requires

pub loop-c-init : goal.loop-c-init
loop-c-init c = rw c.letter_value-id.ensures (read_letter _ c.requires)

pub overflow_mul-id : goal.overflow_mul-id
overflow_mul-id c =
    let n = c.args.name.now in
    let l : c.loop-c.c-index + 1 < length n = omega (arith, after_letter_length n, c.loop-c-test.true) in
    omega (arith, next_fits _ _ _ c.loop-c.invariant l)

pub overflow_add-id : goal.overflow_add-id
overflow_add-id c =
    let n = c.args.name.now in
    let l : c.loop-c.c-index + 1 < length n = omega (arith, after_letter_length n, c.loop-c-test.true) in
    record { fits = omega (arith, next_fits _ _ _ c.loop-c.invariant l, c.from.ensures, after_letter_at n c.loop-c.c-index) }

pub loop-c-preserved : goal.loop-c-preserved
loop-c-preserved c =
    let n = c.args.name.now in
    let l : c.loop-c.c-index + 1 < length n = omega (arith, after_letter_length n, c.loop-c-test.true) in
    rw (c.from.ensures, after_letter_at n c.loop-c.c-index) (read_digit _ _ _ c.loop-c.invariant l)

pub returns : goal.returns
returns c = let n = c.args.name.now in read_all _ _ _ c.loop-c.invariant (omega (arith, after_letter_length n, c.loop-c-test.false))

pub slice_bounds-c-items-count : goal.slice_bounds-c-items-count
slice_bounds-c-items-count c = name_length _ c.requires

pub slice_bounds-c-items-start : goal.slice_bounds-c-items-start
slice_bounds-c-items-start c = let h = name_length c.args.name.now c.requires in search rules

pub overflow_sub-c : goal.overflow_sub-c
overflow_sub-c c =
    let n = c.args.name.now in
    let l : c.loop-c.c-index + 1 < length n = omega (arith, after_letter_length n, c.loop-c-test.true) in
    rw (after_letter_at n c.loop-c.c-index) (next_digit _ _ _ c.loop-c.invariant l).0
