-- `htm_abi::owner_refusal_or_space` answers the owner's refusal, or else the file's or 10. Assumes nothing.
use native.Mathlib.Omega.{arith}
use mathlib.Core.Path.{ap, ◌∙◌}
use borrow.Author.Tests.{lt-ltb, le-ltb}
use Rattle.answer.specs.Answer.{check, Owner}
use Rattle.htm_abi.specs.ShortLists.{file_refusal_or_space}
use Rattle.htm_abi.proofs.owner_refusal_or_space.Goals as goal

pub returns-then-owner-ge-OWNERS : goal.returns-then-owner-ge-OWNERS
returns-then-owner-ge-OWNERS c = ap (λ t. check Owner t (file_refusal_or_space c.args.file.now)) (le-ltb c.args.owner 2 (omega (arith, c.if-owner-ge-OWNERS.true)))

pub returns : goal.returns
returns c =
    ap (λ t. check Owner t (file_refusal_or_space c.args.file.now)) (lt-ltb c.args.owner 2 (omega (arith, c.if-owner-ge-OWNERS.false)))
    ∙ c.file_refusal_or_space.ensures
