-- What the digits that are left write after n is what the word writes, and n is at most `most`.
use Rattle.std.proofs.Common.{◌≡◌, ◌≤◌, drop}
use Rattle.command_words.specs.Numbers.{natural_from, natural_in}
use Rattle.command_words.proofs.natural_of.Given as goal

abbrev pub invariant-loop-b : goal.invariant-loop-b
invariant-loop-b l = record { most : l.n ≤ l.most; rest : natural_from l.most l.n (drop l.b-index l.word) ≡ natural_in l.most l.word }
