-- A search of what is left: of the slot at hand, or of those after it. Assumes nothing.
use mathlib.Core.Path.{◌≡◌}
use mathlib.Core.Bool.{Bool, false, ◌||◌}
use mathlib.Core.List.{List}
use Prim.Native.Nat.{ℕ, ◌+◌, ◌<◌, ◌≤◌}
use native.Mathlib.Numerals.{add-one}
use lib.ListN.{length, drop, drop_of_length-le}
use lib.Seq.{drop-cons}
use Rattle.slots.specs.Slot.{Slot, no_slot}
use Rattle.slots.specs.Line.{slot}
use Rattle.checks.specs.Ranges.{some}

module _ (p : Slot → Bool) (ss : List Slot) (i : ℕ) where
  pub some_here : (j : ℕ) → i < length ss → j ≡ i + 1 → some p (drop i ss) ≡ (p (slot ss i) || some p (drop j ss))
  unfolding some
  some_here j h e = rw (drop-cons ss i no_slot h, e, add-one)

  pub some_none : length ss ≤ i → some p (drop i ss) ≡ false
  unfolding some
  some_none h = rw (drop_of_length-le ss h)
