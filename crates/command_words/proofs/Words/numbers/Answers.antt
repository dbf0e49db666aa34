-- The part that is lent has as many numbers as words were counted, and these are all words of the line.
use Rattle.std.proofs.Common.{arith}
use Rattle.command_words.proofs.WordLaws.{all_words}
use Rattle.command_words.proofs.Words.numbers.Goals as goal

pub returns : goal.returns
returns c =
    let all = all_words c.count.ensures.ran.0 c.args.self c.count.ensures.ran.1 in
    let part = rw c.in_ok-numbers.ensures.ok_part at c.get_mut.ensures.lookup.0 in
    omega (arith, all, part, c.count.ensures.ran.2)
