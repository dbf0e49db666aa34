-- `index_calls::insert` looks for the key, makes the place free, and stores the entry there. Assumes nothing.
use Prim.Native.Nat.{◌<◌}
use native.Mathlib.Omega.{arith}
use mathlib.Core.Path.{sym, ap, ◌∙◌}
use borrow.Author.Tests.{ltb-true}
use Rattle.algebra.proofs.Tests.{and_left, and_right}
use Rattle.answer.specs.Lent.{put}
use Rattle.index.specs.Exposures.{IndexCapacity, OwnerCapacity}
use Rattle.index_calls.proofs.CallLaws.{is_twice, is_full, is_inserted}
use lib.ListN.{drop}
use Rattle.std.specs.Prelude.{Ok}
use Rattle.index.specs.Entries.{entries_from, numbers}
use Rattle.index_entries.specs.Steps.{Found}
use Rattle.index_calls.proofs.insert.Goals as goal
use Rattle.index_calls.proofs.insert.Goals.{Else-not-has_place}

pub returns-in_default : goal.returns-in_default
returns-in_default c =
    let v = c.args in
    let f : Found c.count_in-n.result v.key (entries_from c.count_in-n.result (drop 1 v.index.now)) (Ok c.in_default.field-0) = c.in_default.ensures in
    is_twice v.index.now c.count_in-n.result c.in_ok-check_length.ensures c.count_in-n.ensures.0 v.key c.in_default.field-0 f.0 v.e f.1

pub returns-then-not-has_place : goal.returns-then-not-has_place
returns-then-not-has_place c =
    let v = c.args in
    let f = c.in-Err.ensures in
    is_full v.index.now c.count_in-n.result c.in_ok-check_length.ensures c.count_in-n.ensures.0 v.key c.count_in-n.result f.0 v.e c.in-Err.owned
    (omega arith) f.1 (sym c.has_place.ensures ∙ c.if-not-has_place.true)

-- there is a place
place : (c : Else-not-has_place) → c.in-Err.owned < OwnerCapacity
place c = ltb-true _ _ (and_left _ _ (sym c.has_place.ensures ∙ c.if-not-has_place.false))

room : (c : Else-not-has_place) → c.count_in-n.result < IndexCapacity
room c = ltb-true _ _ (and_right _ _ (sym c.has_place.ensures ∙ c.if-not-has_place.false))

pub returns : goal.returns
returns c =
    let v = c.args in
    let f = c.in-Err.ensures in
    let x = (goal.at.returns c).Else-not-has_place in
    is_inserted v.index.now c.count_in-n.result c.in_ok-check_length.ensures c.count_in-n.ensures.0 v.key c.count_in-n.result f.0 v.e c.in-Err.owned
    (omega arith) f.1 (place x) c.make_gap-i.result _ _
    (room x) c.make_gap-i.ensures.value.0 c.make_gap-i.ensures.value.1 c.make_gap-i.ensures.index_after
    (c.store_entry.ensures ∙ ap (λ k. put k (numbers v.e) c.make_gap-i.new.index) c.element_of.ensures)
