-- The digits from this pair on are all digits where those of the word are.
use Rattle.std.proofs.Common.{◌≡◌, ◌*◌, length, drop}
use Rattle.algebra.specs.Lists.{every}
use Rattle.command_words.specs.Files.{is_hex, FileCapacity}
use Rattle.command_words.proofs.file.Given as goal

abbrev pub invariant-loop-i : goal.invariant-loop-i
invariant-loop-i l = record {
  digits : every is_hex (drop (l.i * 2) l.fn.word) ≡ every is_hex l.fn.word;
  room : length l.to ≡ FileCapacity;
}
