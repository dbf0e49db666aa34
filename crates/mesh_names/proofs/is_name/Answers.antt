-- The code makes the definition's tests, the length first. Assumes nothing.
use Prim.Native.Nat.{◌≤◌}
use mathlib.Core.Path.{sym, ap, ◌∙◌}
use mathlib.Core.Bool.{false}
use native.Mathlib.Omega.{arith}
use lib.ListN.{length}
use Rattle.std.proofs.lemmas.Grind.{common_steps}
use Rattle.std.proofs.lemmas.Bool.Decides.{nat_tests}
use Rattle.mesh.specs.Names.{are_digits}
use Rattle.mesh_names.proofs.NameReading.{too_short, too_long, no_letter, letter_then_digits, after_letter}
use Rattle.mesh_names.proofs.is_name.Goals as goal
use Rattle.mesh_names.proofs.is_name.Goals.{then-contains, else-contains}

pub returns-then-is_letter : goal.returns-then-is_letter
returns-then-is_letter c =
    let n = c.args.name.now in
    elim c.if-contains.branch [
      | then-contains w ↦
          let low : 2 ≤ length n = grind (arith, nat_tests, common_steps) in
          let high : length n ≤ 32 = grind (arith, nat_tests, common_steps) in
          c.are_digits.ensures ∙ ap are_digits (after_letter n) ∙ sym (letter_then_digits n low high (sym w.is_letter.ensures ∙ sym w.value-is ∙ c.if-is_letter.true))
      | else-contains w ↦ cc
    ]

pub returns-else-is_letter : goal.returns-else-is_letter
returns-else-is_letter c =
    let n = c.args.name.now in
    elim c.if-contains.branch [
      | then-contains w ↦ c.if-is_letter.false ∙ sym (no_letter n (sym w.is_letter.ensures ∙ sym w.value-is ∙ c.if-is_letter.false))
      | else-contains w ↦ c.if-is_letter.false ∙ grind (arith, nat_tests, common_steps, too_short n, too_long n)
    ]
