-- The word is not `-`. A pair of digits is what the word has in its places, and after the loop all of the word are read.
use Rattle.std.proofs.Common.{rules, ◌≡◌, ◌*◌, ◌/◌, length, take, sym, ap, ◌∙◌, arith, length-take-le}
use borrow.Author.Tests.{eqb-true, eqb-false}
use Rattle.command_words.specs.Files.{file_length}
use Rattle.command_words.proofs.FileLaws.{no_dash, no_digits, all_bytes, both_read, first_bad, second_bad, all_read}
use Rattle.command_words.proofs.file.Goals as goal

pub returns-in_err-digit : goal.returns-in_err-digit
returns-in_err-digit c =
    let bad = first_bad _ _ (omega arith) _ c.as_chunks.ensures.front c.in_err-digit.ensures.value in
    ap file_length c.from_residual.ensures ∙ no_digits _ (no_dash _ _ c.as_slice.ensures c.if-eq.ensures) (sym c.loop-i.invariant.digits ∙ bad)

pub returns-in_err-value : goal.returns-in_err-value
returns-in_err-value c =
    let bad = second_bad _ _ (omega arith) _ c.as_chunks.ensures.front c.in_err-value.ensures.value in
    ap file_length c.from_residual-in_err-value.ensures ∙ no_digits _ (no_dash _ _ c.as_slice.ensures c.if-eq.ensures) (sym c.loop-i.invariant.digits ∙ bad)

pub loop-i-preserved : goal.loop-i-preserved
loop-i-preserved c = record {
  digits = sym (both_read _ _ (omega arith) _ c.as_chunks.ensures.front c.in_ok-digit.ensures.value c.in_ok-value.ensures.value) ∙ c.loop-i.invariant.digits;
  room = search rules;
}

pub returns : goal.returns
returns c =
    let word = c.args.word.now in
    let even : length c.as_chunks.result.1.now ≡ 0 = eqb-true _ _ (sym c.if-not-is_empty.ensures) in
    let some = eqb-false _ _ (sym c.if-is_empty.ensures) in
    let all = sym c.loop-i.invariant.digits ∙ all_read word (c.loop-i.i * 2) (omega arith) in
    let pairs : length c.as_chunks.result.0.now ≡ length word / 2 = c.as_chunks.ensures.front_len in
    let size : length (take c.min.result c.loop-i.to) ≡ c.min.result = length-take-le c.min.result c.loop-i.to (omega arith) in
    all_bytes word (no_dash _ _ c.as_slice.ensures c.if-eq.ensures) (omega (arith, some)) (omega arith) all (omega arith)
