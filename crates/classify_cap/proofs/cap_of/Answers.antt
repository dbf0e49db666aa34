-- `classify_cap::cap_of` is the cap of the trixel: with E where each product b·r is positive. Assumes nothing.
use Rattle.classify_rays.proofs.RayLaws.{own_rays}
use Rattle.classify_cap.proofs.CapLaws.{ahead_bounds}
use Rattle.classify_cap.proofs.cap_of.Goals as goal

pub products_of-requires : goal.products_of-requires
products_of-requires c = record { small = c.requires.b_value.1; own_rays = own_rays c.requires.rays_of }

pub returns-in-Some : goal.returns-in-Some
returns-in-Some c = ahead_bounds c.requires.rays_of c.requires.b_value.0 c.in-Some.p c.in-Some.ensures c.cap_ahead.ensures
