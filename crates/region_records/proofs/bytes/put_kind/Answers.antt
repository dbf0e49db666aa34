-- The two words stand one after the other, and so as one list. Assumes nothing.
use native.Mathlib.Omega.{arith}
use mathlib.Core.Path.{refl, ◌∙◌}
use mathlib.Core.List.{◌++◌}
use Rattle.answer.specs.Lent.{put}
use Rattle.region.specs.Bytes.{word_bytes}
use Rattle.answer.proofs.PutLaws.{put_next}
use Rattle.region_records.proofs.bytes.put_kind.Goals as goal

pub size_of-requires : goal.size_of-requires
size_of-requires c = c.requires.1

pub put_word-requires : goal.put_word-requires
put_word-requires c = (omega arith, c.size_of.ensures.1)

pub put_word-requires-2 : goal.put_word-requires-2
put_word-requires-2 c = (omega (arith, c.put_word.auto.out), c.kind_of.ensures.1)

pub shape_of-out : goal.shape_of-out
shape_of-out c = c.put_word-2.auto.out ∙ c.put_word.auto.out

pub returns : goal.returns
returns c =
    let a = c.args in
    put_next a.at (word_bytes c.size_of.result) (word_bytes c.kind_of.result) _
    c.put_word.ensures c.put_word-2.ensures refl (omega arith)
    ∙ (λ i. put a.at (word_bytes (c.size_of.ensures.0 i) ++ word_bytes (c.kind_of.ensures.0 i)) a.out.now)
