-- The children of a trixel by their numbers: each is what is made of the trixel and its cut. Assumes nothing.
use mathlib.Core.Path.{◌≡◌, refl, sym, ap, ◌∙◌}
use Prim.Native.Nat.{ℕ}
use Rattle.vector.specs.declared.Vec3.{Vec3}
use Rattle.mesh.specs.declared.Trixel.{Trixel}
use Rattle.mesh.specs.declared.Cut.{Cut}
use Rattle.mesh.specs.Trixels.{cut, child0, child1, child2, child3, child}
use Rattle.covering_walk.specs.declared.ClassifiedTrixel.{ClassifiedTrixel}
use Rattle.covering_walk.specs.Children.{CutParts}

first_child : (t : Trixel) → child0 t (cut t) ≡ child 0 t
unfolding child
first_child t = refl

second_child : (t : Trixel) → child1 t (cut t) ≡ child 1 t
unfolding child
second_child t = refl

third_child : (t : Trixel) → child2 t (cut t) ≡ child 2 t
unfolding child
third_child t = refl

fourth_child : (t : Trixel) → child3 t (cut t) ≡ child 3 t
unfolding child
fourth_child t = refl

module _ {t : Trixel} {c : Cut} {r : Vec3} {j : ClassifiedTrixel} (p : CutParts t c r j) {q : Trixel} where
  -- they are the children by number
  pub is_first : {k : ℕ} → k ≡ 0 → q ≡ child0 t c → q ≡ child k t
  is_first e d = d ∙ ap (child0 t) p.cut ∙ first_child t ∙ ap (λ n. child n t) (sym e)

  pub is_second : {k : ℕ} → k ≡ 1 → q ≡ child1 t c → q ≡ child k t
  is_second e d = d ∙ ap (child1 t) p.cut ∙ second_child t ∙ ap (λ n. child n t) (sym e)

  pub is_third : {k : ℕ} → k ≡ 2 → q ≡ child2 t c → q ≡ child k t
  is_third e d = d ∙ ap (child2 t) p.cut ∙ third_child t ∙ ap (λ n. child n t) (sym e)

  pub is_fourth : {k : ℕ} → k ≡ 3 → q ≡ child3 t c → q ≡ child k t
  is_fourth e d = d ∙ ap (child3 t) p.cut ∙ fourth_child t ∙ ap (λ n. child n t) (sym e)
