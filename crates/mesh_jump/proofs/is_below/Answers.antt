-- `mesh_jump::is_below` compares what the other two numbers have more than the first with the margin. Assumes nothing.
use mathlib.Core.Path.{◌≡◌, refl, sym, subst, ◌∙◌}
use lib.IntN.{ℤ, neg_ℤ, ◌+ℤ◌, ◌-ℤ◌}
use lib.Signed.{◌<ℤ◌}
use Rattle.algebra.proofs.Ring.{◌:+◌, ◌:-◌, :neg}
use Rattle.algebra.proofs.Claim.{◌:≡◌, ring}
use Rattle.algebra.proofs.Sized.{held, is_add, is_sub, same_lt}
use Rattle.algebra.proofs.Tests.{lt_yes}
use Rattle.mesh_jump.proofs.is_below.Goals as goal

other_side : (a b c : ℤ) → b +ℤ c -ℤ a ≡ neg_ℤ (a -ℤ b -ℤ c)
other_side = ring 3 (λ a b c. b :+ c :- a :≡ :neg (a :- b :- c)) refl

pub returns : goal.returns
returns c =
    let s = c in
    let w = s.requires in
    let n = s.args.n in
    λ e. subst (λ z. n.margin <ℤ z) (other_side n.d0 n.d1 n.d2)
    (lt_yes (sym (same_lt (held w.margin tt) (is_sub (is_add (held w.d1 tt) (held w.d2 tt) tt) (held w.d0 tt) tt)) ∙ e))
