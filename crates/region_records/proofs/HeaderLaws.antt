-- The payload of a header: its depth and its budget, each checked. Assumes nothing.
use Prim.Native.Nat.{ℕ}
use mathlib.Core.Path.{◌≡◌, refl}
use mathlib.Core.Bool.{Bool, true, false}
use mathlib.Core.List.{List, []}
use Rattle.answer.specs.Answer.{gives, check, with_value, Depth, Budget}
use Rattle.vector.specs.Numbers.{is_depth}
use Rattle.region.specs.Budgets.{is_budget}
use Rattle.region.specs.Bytes.{word}
use Rattle.region.specs.Reader.{File}
use Rattle.region.specs.Reader as reader
use Rattle.region_records.specs.Headers.{settings_in, settings_of}

by_tests : (p q : Bool) (x : File) → check Depth p (check Budget q (gives (settings_of x))) ≡ with_value settings_of (check Depth p (check Budget q (gives x)))
by_tests false q x = refl
by_tests true false x = refl
by_tests true true x = refl

pub payload_settings : (s : List ℕ) → settings_in (word s 0) (word s 2) ≡ with_value settings_of (reader.header_of s)
payload_settings s = by_tests (is_depth (word s 0)) (is_budget (word s 2)) (record { depth = word s 0; budget = word s 2; region = [] })
