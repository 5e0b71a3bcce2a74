-- All that single adjustment may say: a property that holds of each holds of what it says. Assumes nothing.
use Rattle.std.specs.Prelude.{None, Option, Some}
use mathlib.Core.Bool.{false}
use mathlib.Core.List.{List, []}
use Prim.Native.Nat.{ℕ, ◌+◌}
use Rattle.slots.specs.Slot.{Slot}
use Rattle.slots.specs.Line.{slot}
use Rattle.answers.specs.Said.{Said, applied, declined}
use Rattle.single.specs.SinglePos.{adjust_said, place_for, single_said}

pub says : (P : Said → Type 0) (t : List ℕ) (ss : List Slot) (i : ℕ) → P (declined []) → P (applied (i + 1) [] false) → P (single_said t ss i)
says P t ss i declines applies = go (place_for t (slot ss i).glyph)
  where
    go : (place : Option ℕ) → P (adjust_said i place)
    go (Some at) = applies
    go None = declines
