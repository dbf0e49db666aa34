-- A NaN is the only float that differs from itself, and it is refused in both formats. Assumes nothing.
use mathlib.Core.Path.{◌≡◌, refl, sym, ap, subst, ◌∙◌}
use mathlib.Core.Bool.{true, false≢true}
use lib.Dec.{T}
use lib.Ieee.{Float, Format, binary32, binary64, nan, inf, fin, ne, is_nan, to_bits}
use lib.Ieee.Compare.{differs_from_itself, nan_differs}
use Rattle.answer.specs.Answer as answer
use Rattle.answer.specs.Answer.{refused}
use Rattle.mount.specs.Floats.{usable, scaled, component, component_of}

nan_refused : (f : Format) → refused answer.Float ≡ component_of f nan
unfolding to_bits component usable scaled
nan_refused binary32 = refl
nan_refused binary64 = refl

nan_is : (x : Float) → is_nan x ≡ true → x ≡ nan
unfolding is_nan
nan_is nan h = refl
nan_is (inf s) h = absurd (false≢true h)
nan_is (fin s m e) h = absurd (false≢true h)

pub differs_refused : (f : Format) (x : Float) → ne x x ≡ true → refused answer.Float ≡ component_of f x
differs_refused f x h = nan_refused f ∙ ap (λ y. component_of f y) (sym (differs_from_itself x (subst T (sym h) tt)))

pub a_nan_refused : (f : Format) (x : Float) → is_nan x ≡ true → refused answer.Float ≡ component_of f x
a_nan_refused f x h = differs_refused f x (ap (λ y. ne y y) (nan_is x h) ∙ nan_differs)
