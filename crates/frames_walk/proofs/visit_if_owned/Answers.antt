-- `frames_walk::visit_if_owned` passes over what the walk does not visit. Assumes nothing.
use mathlib.Core.Path.{sym, ◌∙◌}
use native.Mathlib.Omega.{arith}
use Rattle.frames_walk.proofs.WalkLaws.{visits_other, visits_full, visits_own}
use Rattle.frames_walk.proofs.visit_if_owned.Goals as goal
use Rattle.frames_walk.proofs.visit_if_owned.Goals.{then-not-is_owned-via-then-not-is_owned, then-not-is_owned-via-else-not-is_owned+then-at-ge-OWNER_CAPACITY}

pub returns-then-not-is_owned-clause-visits_if_owned : goal.returns-then-not-is_owned-clause-visits_if_owned
returns-then-not-is_owned-clause-visits_if_owned c =
    let v = c.args in
    elim c.then-not-is_owned.branch [
      | then-not-is_owned-via-then-not-is_owned w ↦ visits_other v.owner v.region v.e v.at v.numbers.now (sym c.is_owned.ensures ∙ w.if-not-is_owned.true)
      | then-not-is_owned-via-else-not-is_owned+then-at-ge-OWNER_CAPACITY w ↦ visits_full v.owner v.region v.e v.at v.numbers.now (omega (arith, w.if-at-ge-OWNER_CAPACITY.true))
    ]

pub returns-clause-visits_if_owned : goal.returns-clause-visits_if_owned
returns-clause-visits_if_owned c =
    let v = c.args in
    visits_own v.owner v.region v.e v.at v.numbers.now c.visit_entry.result _ (sym c.is_owned.ensures ∙ c.if-not-is_owned.false)
    (omega (arith, c.if-at-ge-OWNER_CAPACITY.false)) c.visit_entry.ensures.fits.1 c.visit_entry.ensures.visits_entry
