-- The first i slots are numbered. Assumes nothing.
use mathlib.Core.Path.{◌≡◌}
use lib.ListN.{take}
use Rattle.slots.specs.Slot.{clustered_size, slot_size}
use Rattle.slots.specs.Numbered.{numbered_from}
use Rattle.slots.specs.Line.{shape_with, slots}
use Rattle.moves.proofs.number_slots.Given as goal

abbrev pub invariant-loop-i : goal.invariant-loop-i
invariant-loop-i l =
    take l.i (slots (shape_with clustered_size l.n) l.target) ≡ take l.i (numbered_from 0 (slots (shape_with slot_size l.n) l.line))
