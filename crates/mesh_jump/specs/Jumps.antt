-- What the jump's functions give. The numbers d0, d1, d2 of a trixel follow a pointing p: d0 v0 + d1 v1 + d2 v2 is nearly a multiple of p, pushed outward.
--   excess_of n          d0 − d1 − d2, whose sign is the side of the cut at v0
--   Above n, Below n    the place that they follow is on this or that side of that cut, by more than the margin
--   turned_of n          the numbers from the next corner on
--   less_of d a          d, less a / 2²⁴ of it
--   at_corner n b c      the numbers of the child at v0, where b and c are the bends of the edges v0 v1 and v0 v2
--   in_middle n a        those of the child in the middle, a the bends
--   begin_of p c         the numbers at the start
--   NotNegative n       none is below 0; Within n, small enough for sums and doubles
--   InMiddle n          none is more than the other two together
--   Started p n         what the start is tested for
--   with_digit s k       the digits s and behind them k
--   Given n o           o is the child that the numbers n give, or none, where none is sure
--   Sure n a k m        k is the child that they give, and m are its numbers, a being the bends of the trixel; unbent, where nothing is bent
--   Entry c             the corners of an entry of the table
--   along n i t         the trixel n levels below t, by the last n digits of i
--   volume_of c          det(v0, v1, v2)
--   StandsAt i g x      a trixel i levels below depth 3 in S0's octant, of the shape of its level, below one of depth 3 with the volume g
--   FollowsAt i g p x   the numbers follow p, pushed outward, at the corners of x
--   Following p c k i d the numbers d follow p, k levels below the corners c, at the trixel by the last digits of i
--   Jumped p c i n r    the digits of r are those of the rule, and the descent goes on behind them
--   Reached p c i n r   and after four levels the numbers of r follow p
use Rattle.std.specs.Prelude.{ℕ, zero, suc, Option, Some, None, ◌+◌, ◌*◌, ◌/◌, ◌%◌, ◌^◌, ◌≤◌, ◌<◌, ◌≡◌, true, ℤ, pos, neg_ℤ, nat_abs, ◌+ℤ◌, ◌-ℤ◌, ◌*ℤ◌, ◌≤ℤ◌, ◌<ℤ◌}
use Rattle.algebra.proofs.Sizes.{Upto}
use Rattle.jump.proofs.Jump.{det}
use Rattle.jump.proofs.JumpInvariant.{Follows, pushed}
use Rattle.jump.proofs.JumpLevel.{Stands}
use Rattle.jump.proofs.JumpConstants.{u, δ, D, least, edge_at, part_at, bounds_at, margin_at}
use Rattle.jump.proofs.UnitLaws.{three}
use Rattle.vector.specs.declared.Vec3.{Vec3}
use Rattle.vector.specs.Numbers.{K}
use Rattle.vector.specs.Vectors.{is_vector}
use Rattle.mesh.specs.declared.Trixel.{Trixel}
use Rattle.mesh.specs.declared.Corners.{Corners}
use Rattle.mesh.specs.Trixels.{root_trixel, child}
use Rattle.mesh.specs.Identifiers.{corners_of}
use Rattle.mesh.specs.Lookup.{descend}
use Rattle.mesh_trixels.specs.Corners.{bare}
use Rattle.mesh_bends.specs.declared.Bends.{Bends}
use Rattle.mesh_jump.specs.declared.Numbers.{Numbers}
use Rattle.mesh_jump.specs.declared.SureDigits.{SureDigits}
use Rattle.mesh_jump.specs.declared.BentDigits.{BentDigits}

abbrev pub excess_of : Numbers → ℤ
excess_of n = n.d0 -ℤ n.d1 -ℤ n.d2

abbrev pub Above : Numbers → Type 0
Above n = n.margin <ℤ excess_of n

abbrev pub Below : Numbers → Type 0
Below n = n.margin <ℤ neg_ℤ (excess_of n)

abbrev pub turned_of : Numbers → Numbers
turned_of n = record { d0 = n.d1; d1 = n.d2; d2 = n.d0; margin = n.margin }

abbrev pub less_of : ℤ → ℤ → ℤ
less_of d a = d -ℤ pos (nat_abs d / 16777216) *ℤ a

abbrev pub at_corner : Numbers → ℤ → ℤ → Numbers
at_corner n b c = record { d0 = excess_of n; d1 = less_of (pos 2 *ℤ n.d1) b; d2 = less_of (pos 2 *ℤ n.d2) c; margin = pos 2 *ℤ n.margin }

abbrev pub in_middle : Numbers → Bends → Numbers
in_middle n a = record {
  d0 = less_of (n.d1 +ℤ n.d2 -ℤ n.d0) a.a0;
  d1 = less_of (n.d0 +ℤ n.d2 -ℤ n.d1) a.a1;
  d2 = less_of (n.d0 +ℤ n.d1 -ℤ n.d2) a.a2;
  margin = pos 2 *ℤ n.margin;
}

abbrev pub begin_of : Vec3 → Corners → Numbers
begin_of p c = record {
  d0 = det (three c.v1) (three c.v2) (pushed δ (three p));
  d1 = det (three c.v2) (three c.v0) (pushed δ (three p));
  d2 = det (three c.v0) (three c.v1) (pushed δ (three p));
  margin = pos 26388279066624;
}

-- one digit more
abbrev pub with_digit : SureDigits → ℕ → SureDigits
with_digit s k = record { count = s.count + 1; id = 4 * s.id + k }

-- no bends
abbrev pub unbent : Bends
unbent = record { a0 = pos 0; a1 = pos 0; a2 = pos 0 }

pub record Within (n : Numbers) : Type 0 where
  pub d0 : Upto (2 ^ 61) n.d0
  pub d1 : Upto (2 ^ 61) n.d1
  pub d2 : Upto (2 ^ 61) n.d2
  pub margin : Upto (2 ^ 61) n.margin

pub record NotNegative (n : Numbers) : Type 0 where
  pub d0 : pos 0 ≤ℤ n.d0
  pub d1 : pos 0 ≤ℤ n.d1
  pub d2 : pos 0 ≤ℤ n.d2
  pub margin : pos 0 ≤ℤ n.margin

-- where none of the three is more than the other two together
pub record InMiddle (n : Numbers) : Type 0 where
  pub at0 : pos 0 ≤ℤ (n.d1 +ℤ n.d2 -ℤ n.d0)
  pub at1 : pos 0 ≤ℤ (n.d0 +ℤ n.d2 -ℤ n.d1)
  pub at2 : pos 0 ≤ℤ (n.d0 +ℤ n.d1 -ℤ n.d2)

pub record Started (p : Vec3) (n : Numbers) : Type 0 where
  pub vector : is_vector p ≡ true
  pub d0 : pos 0 ≤ℤ n.d0
  pub d1 : pos 0 ≤ℤ n.d1
  pub d2 : pos 0 ≤ℤ n.d2

pub data Given (n : Numbers) : Option ℕ → Type 0 where
  given0 : Above n → Given n (Some 0)
  given1 : Below n → Above (turned_of n) → Given n (Some 1)
  given2 : Below n → Below (turned_of n) → Above (turned_of (turned_of n)) → Given n (Some 2)
  given3 : Below n → Below (turned_of n) → Below (turned_of (turned_of n)) → Given n (Some 3)
  not_given : Given n None

pub data Sure (n : Numbers) (a : Bends) : ℕ → Numbers → Type 0 where
  at0 : Above n → Sure n a 0 (at_corner n a.a2 a.a1)
  at1 : Below n → Above (turned_of n) → Sure n a 1 (at_corner (turned_of n) a.a0 a.a2)
  at2 : Below n → Below (turned_of n) → Above (turned_of (turned_of n)) → Sure n a 2 (at_corner (turned_of (turned_of n)) a.a1 a.a0)
  at3 : Below n → Below (turned_of n) → Below (turned_of (turned_of n)) → Sure n a 3 (in_middle n a)

-- the trixel of the table's entry number 4 d + e
abbrev pub entry_trixel : ℕ → ℕ → Trixel
entry_trixel d e = child e (child d (root_trixel 0))

pub record Entry (c : Corners) : Type 0 where
  pub d : ℕ
  pub e : ℕ
  pub d_low : d < 4
  pub e_low : e < 4
  pub is : c ≡ corners_of (entry_trixel d e)

unfoldable pub along : ℕ → ℕ → Trixel → Trixel
along zero i t = t
along (suc n) i t = child (i % 4) (along n (i / 4) t)

abbrev pub volume_of : Corners → ℤ
volume_of c = det (three c.v0) (three c.v1) (three c.v2)

abbrev pub StandsAt : ℕ → ℤ → Trixel → Type 0
StandsAt i g x = Stands K (pos (edge_at i)) D (part_at i *ℤ g) (three x.v0) (three x.v1) (three x.v2)

abbrev pub FollowsAt : ℕ → ℤ → Vec3 → Trixel → ℤ → ℤ → ℤ → Type 0
FollowsAt i g p x d0 d1 d2 = Follows u D (bounds_at i g) d0 d1 d2 (three x.v0) (three x.v1) (three x.v2) (pushed δ (three p))

pub record Following (p : Vec3) (c : Corners) (k i : ℕ) (d : Numbers) : Type 0 where
  pub vector : is_vector p ≡ true
  pub large : least ≤ℤ volume_of c
  pub follows : FollowsAt k (volume_of c) p (along k i (bare c)) d.d0 d.d1 d.d2
  pub stands : StandsAt k (volume_of c) (along k i (bare c))
  pub sum : (d.d0 +ℤ d.d1 +ℤ d.d2) ≤ℤ pos (2 ^ 61)
  pub margin : d.margin ≡ margin_at k

pub record Jumped (p : Vec3) (c : Corners) (i n : ℕ) (r : SureDigits) : Type 0 where
  pub upto : r.count ≤ n
  pub room : (b : ℕ) → i < b → r.id < b * 4 ^ r.count
  pub goes_on : (m : ℕ) → descend p (r.count + m) (bare c) i ≡ descend p m (along r.count r.id (bare c)) r.id

pub record Reached (p : Vec3) (c : Corners) (i n : ℕ) (r : BentDigits) : Type 0 where
  pub most : r.sure.count ≤ 4
  pub jumped : Jumped p c i n r.sure
  pub following : r.sure.count ≡ 4 → Following p c 4 r.sure.id r.numbers
