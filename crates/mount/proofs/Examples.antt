-- Single floats by the rule, at both widths: -0.3 keeps its minus, the ends, the smallest sizes, and what is refused. Assumes nothing.
use Prim.Native.Nat.{ℕ}
use mathlib.Core.Path.{◌≡◌, refl}
use mathlib.Core.List.{List, [], ◌∷◌}
use lib.IntN.{ℤ, pos, negsuc}
use Rattle.answer.specs.Answer.{Answer, refused, gives, Float}
use Rattle.mount.specs.declared.Width.{Width}
use Rattle.mount.specs.Floats.{single, double, usable, scaled, component}

abbrev answers : Width → List ℕ → List (Answer ℤ)
answers w [] = []
answers w (b ∷ bs) = component w b ∷ answers w bs

-- -0.3, 0.3, 1, -1; 2^-20, the float before it, the smallest subnormal below 0, -0
abbrev taken : List (Answer ℤ)
taken =
    gives (negsuc 314571) ∷ gives (pos 314572) ∷ gives (pos 1048576) ∷ gives (negsuc 1048575)
    ∷ gives (pos 1) ∷ gives (pos 0) ∷ gives (pos 0) ∷ gives (pos 0) ∷ []

pub taken_single : answers single (0xbe99999a ∷ 0x3e99999a ∷ 0x3f800000 ∷ 0xbf800000 ∷ 0x35800000 ∷ 0x357fffff ∷ 0x80000001 ∷ 0x80000000 ∷ []) ≡ taken
unfolding component usable scaled
taken_single = refl

pub taken_double : answers double
    (0xbfd3333333333333 ∷ 0x3fd3333333333333 ∷ 0x3ff0000000000000 ∷ 0xbff0000000000000
    ∷ 0x3eb0000000000000 ∷ 0x3eafffffffffffff ∷ 0x8000000000000001 ∷ 0x8000000000000000 ∷ [])
    ≡ taken
unfolding component usable scaled
taken_double = refl

-- the float after 1, its negative; both infinities; a quiet and a signalling NaN
abbrev refusals : List (Answer ℤ)
refusals = refused Float ∷ refused Float ∷ refused Float ∷ refused Float ∷ refused Float ∷ refused Float ∷ []

pub refused_single : answers single (0x3f800001 ∷ 0xbf800001 ∷ 0x7f800000 ∷ 0xff800000 ∷ 0x7fc00000 ∷ 0xff800001 ∷ []) ≡ refusals
unfolding component usable scaled
refused_single = refl

pub refused_double : answers double
    (0x3ff0000000000001 ∷ 0xbff0000000000001 ∷ 0x7ff0000000000000 ∷ 0xfff0000000000000 ∷ 0x7ff8000000000000 ∷ 0xfff0000000000001 ∷ [])
    ≡ refusals
unfolding component usable scaled
refused_double = refl
