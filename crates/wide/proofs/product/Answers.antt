-- `wide::product` adds up the four products of halves by their columns. Assumes nothing.
use Rattle.wide.proofs.WordLaws.{whole}
use Rattle.wide.proofs.product.Goals as goal

pub returns : goal.returns
returns c = whole _ _ _ _ _ _ c.mul32-p00.ensures.0 c.mul32-p10.ensures.0 c.mul32-p01.ensures.0 c.mul32-p11.ensures.0
