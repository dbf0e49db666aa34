-- `classify_rays::product_within`: both products fit a word. Assumes nothing.
use Rattle.classify_rays.proofs.FilterLaws.{product_fits, square_fits}
use Rattle.classify_rays.proofs.product_within.Goals as goal

pub overflow_mul-result : goal.overflow_mul-result
overflow_mul-result c = product_fits c.requires.0 c.requires.1

pub overflow_mul-result-2 : goal.overflow_mul-result-2
overflow_mul-result-2 c = square_fits c.requires.2
