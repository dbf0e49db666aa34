-- The numbers of the jump for its nine levels, from the table's corners of depth 3 to depth 12; what holds of them is computed in JumpConstants. 64ths of a unit
-- for low and high; volumes and growth as parts of 2³⁰ of the volume g of the trixel of depth 3. Definitions only.
--   constants_at i   the constants of level i, which leads from depth 3 + i to the next
--   bounds_at i g    the bounds of the invariant before level i
--   margin_at i      the margin of level i: 24 · 2⁴⁰, doubled i times
use Prim.Native.Nat.{ℕ, zero, suc, ◌*◌, ◌^◌}
use lib.IntN.{ℤ, pos, ◌*ℤ◌}
use Rattle.jump.proofs.JumpInvariant.{Bounds}

-- K, parts of a unit, how far p is pushed outward, the length of a rest, 2³⁰, the least volume at depth 3
abbrev pub k : ℤ
k = pos 1048576

abbrev pub u : ℤ
u = pos 64

abbrev pub δ : ℤ
δ = pos 5

abbrev pub j : ℤ
j = pos 3632378

abbrev pub D : ℤ
D = pos 1073741824

abbrev pub least : ℤ
least = pos 168800000000000000

-- ---- the constants

-- before level i: the longest edge, the least volume, low, high, the growth of l / e, the least sum. Of level i: the most of 2 K − n, the most that a number loses,
-- what is left of the bending behind and ahead, the most of the sum of the components of a normal, what else there may be along one
pub record Constants : Type 0 where
  pub edge : ℕ
  pub part : ℤ
  pub low : ℤ
  pub high : ℤ
  pub grow : ℤ
  pub floor : ℤ
  pub bend : ℤ
  pub lost : ℤ
  pub behind : ℤ
  pub ahead : ℤ
  pub normal : ℤ
  pub error : ℤ

abbrev pub row : (edge part low high grow floor bend lost behind ahead normal error : ℕ) → Constants
row e p l h g f b a c d n x = record {
  edge = e;
  part = pos p;
  low = pos l;
  high = pos h;
  grow = pos g;
  floor = pos f;
  bend = pos b;
  lost = pos a;
  behind = pos c;
  ahead = pos d;
  normal = pos n;
  error = pos x;
}

unfoldable pub constants_at : ℕ → Constants
constants_at zero = row 605396 1073741824 0 0 1073741824 168796297468958032 89289 715000 0 47 574202567934 39352864412045441761280
constants_at (suc zero) = row 316158 279038656 86 22 1073745033 161602651473680568 23975 192000 114 331 290421276801 48323587827850578755584
constants_at (suc (suc zero)) = row 159907 70437463 244 116 1073773909 159753255895597370 6112 49000 368 207 145632902259 63793011579052277891072
constants_at (suc (suc (suc zero))) = row 80186 17651308 368 176 1073810884 159286676128198281 1540 13000 233 70 72869120600 73058520632403408453632
constants_at (suc (suc (suc (suc zero)))) = row 40122 4415343 448 192 1073830357 159163251193473319 390 0 16 3120 36803246594 75523222016191652429824
constants_at (suc (suc (suc (suc (suc zero))))) = row 20264 1103137 593 273 1074031180 159163251193473319 104 0 16 832 18503329861 87502509221773234405376
constants_at (suc (suc (suc (suc (suc (suc zero)))))) = row 10188 275432 669 285 1074085534 159163251193473319 31 0 16 248 9287988704 89279992625790881628160
constants_at (suc (suc (suc (suc (suc (suc (suc zero))))))) = row 5114 68681 735 287 1074102500 159163251193473319 13 0 16 104 4662156238 89576809013598438293504
constants_at (suc (suc (suc (suc (suc (suc (suc (suc zero)))))))) = row 2567 17081 800 288 1074110247 159163251193473319 8 0 16 64 2344699534 89728392313550967980032
constants_at (suc (suc (suc (suc (suc (suc (suc (suc (suc zero))))))))) = row 1291 4225 865 289 1074115433 159163251193473319 8 0 16 64 2344699534 89728392313550967980032
constants_at (suc (suc (suc (suc (suc (suc (suc (suc (suc (suc i)))))))))) = row 1291 4225 865 289 1074115433 159163251193473319 8 0 16 64 2344699534 89728392313550967980032

abbrev pub edge_at : ℕ → ℕ
edge_at i = (constants_at i).edge

abbrev pub part_at : ℕ → ℤ
part_at i = (constants_at i).part

abbrev pub bounds_at : ℕ → ℤ → Bounds
bounds_at i g = record { low = (constants_at i).low; high = (constants_at i).high; most = (constants_at i).grow *ℤ g; floor = (constants_at i).floor }

unfoldable pub margin_at : ℕ → ℤ
margin_at i = pos (26388279066624 * 2 ^ i)
