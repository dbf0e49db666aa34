-- The code makes the definition's tests in their order: the whole part, the point, a digit; then it reads the digits. Assumes nothing.
use Prim.Native.Nat.{◌-◌, ◌<◌}
use native.Mathlib.Omega.{arith}
use mathlib.Core.Path.{◌≡◌, ◌∙◌, subst}
use mathlib.Core.Bool.{true, false}
use lib.ListN.{length, take, drop, get_or}
use Rattle.std.proofs.Common.{rules}
use mir.Syntax.{w64}
use mir.Facts.{to_z-of_z}
use Rattle.algebra.proofs.Sized.{sfits}
use Rattle.catalogue_line.specs.Lines.{digit0, point, is_digit_to}
use Rattle.catalogue_line.specs.Reading.{Reads}
use Rattle.catalogue_line.proofs.ReadingLaws.{past, is_digit_low, is_digit_high, is_digit_there, no_whole, no_point, no_digit, decimal_there}
use Rattle.catalogue_line.proofs.unsigned_in.Goals as goal
use Rattle.catalogue_line.proofs.unsigned_in.Goals.{In-48-to-49}
use Rattle.catalogue_line.proofs.unsigned_in.Goals.{in_default-via-then-bytes-lt2, in_default-via-else-bytes-lt2+then-bytes-lt48, in_default-via-else-bytes-lt2+else-bytes-lt48+then-bytes-lt50+in_default-1, in_default-via-else-bytes-lt2+else-bytes-lt48+else-bytes-lt50}
use Rattle.catalogue_line.proofs.unsigned_in.Goals.{in_default-after-via-then-after-lt1, in_default-after-via-else-after-lt1+then-after-lt48, in_default-after-via-else-after-lt1+else-after-lt48+else-after-lt58}

-- a 0 or 1, and a point
bit : (c : In-48-to-49) → is_digit_to 1 (get_or c.args.bytes.now 0 0) ≡ true
bit c = is_digit_there 1 (get_or c.args.bytes.now 0 0) (omega arith) (omega arith)

dot : (c : In-48-to-49) → get_or c.args.bytes.now 1 0 ≡ point
dot c = omega arith

pub returns-in_default : goal.returns-in_default
returns-in_default c =
    let a = c.args in
    let s = a.bytes.now in
    elim c.in_default.branch [
      | in_default-via-then-bytes-lt2 w ↦ let short : length s < 2 = search rules in no_point a.negative s (λ q. omega (arith, past s 1))
      | in_default-via-else-bytes-lt2+then-bytes-lt48 w ↦ no_whole a.negative s (is_digit_low 1 (get_or s 0 0) (omega arith))
      | in_default-via-else-bytes-lt2+else-bytes-lt48+then-bytes-lt50+in_default-1 w ↦ no_point a.negative s (λ q. omega arith)
      | in_default-via-else-bytes-lt2+else-bytes-lt48+else-bytes-lt50 w ↦ no_whole a.negative s (is_digit_high 1 (get_or s 0 0) (omega arith))
    ]

pub returns-in_default-after : goal.returns-in_default-after
returns-in_default-after c =
    let a = c.args in
    let s = a.bytes.now in
    let p = (goal.at.returns-in_default-after c).In-48-to-49 in
    let t = take (length s - 2) (drop 2 s) in
    let none : is_digit_to 9 (get_or t 0 0) ≡ false = elim c.in_default-after.branch [
      | in_default-after-via-then-after-lt1 w ↦ let short : length t < 1 = search rules in is_digit_low 9 (get_or t 0 0) (omega (arith, past t 0))
      | in_default-after-via-else-after-lt1+then-after-lt48 w ↦ is_digit_low 9 (get_or t 0 0) (omega arith)
      | in_default-after-via-else-after-lt1+else-after-lt48+else-after-lt58 w ↦ is_digit_high 9 (get_or t 0 0) (omega arith)
    ] in
    no_digit a.negative s (bit p) (dot p) none

pub returns : goal.returns
returns c =
    let a = c.args in
    let s = a.bytes.now in
    let p = (goal.at.returns c).In-48-to-49 in
    let t = take (length s - 2) (drop 2 s) in
    let r : Reads (get_or s 0 0 - digit0) t c.digits-d.result = subst (λ n. Reads n t c.digits-d.result) c.from.ensures c.digits-d.ensures in
    let e : is_digit_to 9 (get_or t 0 0) ≡ true = is_digit_there 9 (get_or t 0 0) (omega arith) (omega arith) in
    decimal_there a.negative s (bit p) (dot p) e c.digits-d.result r (to_z-of_z (sfits w64 c.scaled.ensures.1 tt) ∙ c.scaled.ensures.0)
