-- Starting a line: every chain and type becomes 0, and nothing else changes. Assumes nothing.
use Rattle.std.specs.Prelude.{List, map, pos}
use Rattle.slots.specs.Slot.{Slot}
use Rattle.slots.specs.Fields.{attached}

-- a slot with chain and type 0
abbrev pub unattached : Slot → Slot
unattached s = attached 0 (pos 0) s

-- each slot of a line
abbrev pub started : List Slot → List Slot
started ss = map unattached ss
