-- A halfspace that was added passed its checks: the region was below its limits, the direction is a vector and the offset is within ±K. Assumes nothing.
use Prim.Native.Nat.{◌<◌}
use mathlib.Core.Path.{◌≡◌}
use mathlib.Core.Bool.{true}
use lib.Dec.{ltb}
use lib.ListN.{length}
use borrow.Author.Tests.{ltb-true}
use Rattle.algebra.proofs.Tests.{and_left, and_right}
use Rattle.answer.specs.Answer.{gives, check, Crowd, Vector, Offset}
use Rattle.answer.proofs.AnswerLaws.{check_passed, check_gives, same_value}
use Rattle.vector.specs.Vectors.{is_vector}
use Rattle.region.specs.declared.Halfspace.{Halfspace}
use Rattle.region.specs.Regions.{Region}
use Rattle.region.specs.Building.{is_offset, last_convex, total, with_halfspace, below_limits, add}

-- the direction is a vector, and the offset is within ±K
pub record GoodHalfspace (h : Halfspace) : Type 0 where
  pub vector : is_vector h.n ≡ true
  pub offset : is_offset h.d ≡ true

-- adding h to g gives r
pub record Added (g r : Region) (h : Halfspace) : Type 0 where
  pub good : GoodHalfspace h
  pub in_convex : length (last_convex g) < 100
  pub in_all : total g < 512
  pub is : with_halfspace g h ≡ r

pub added : (g r : Region) (h : Halfspace) → add g h ≡ gives r → Added g r h
unfolding add
added g r h e =
    let last = gives (with_halfspace g h) in
    let offset = check Offset (is_offset h.d) last in
    let vector = check Vector (is_vector h.n) offset in
    let m = check_passed Crowd (below_limits g) vector r e in
    let v = check_gives Crowd (below_limits g) vector r e in
    let o = check_gives Vector (is_vector h.n) offset r v in
    record {
      good = record { vector = check_passed Vector (is_vector h.n) offset r v; offset = check_passed Offset (is_offset h.d) last r o };
      in_convex = ltb-true (length (last_convex g)) 100 (and_left (ltb (length (last_convex g)) 100) (ltb (total g) 512) m);
      in_all = ltb-true (total g) 512 (and_right (ltb (length (last_convex g)) 100) (ltb (total g) 512) m);
      is = same_value (with_halfspace g h) r (check_gives Offset (is_offset h.d) last r o);
    }
