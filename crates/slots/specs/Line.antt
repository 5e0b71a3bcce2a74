-- The line: slots one after another, no header. Assumes nothing.
use Rattle.std.specs.Prelude.{List, [], ◌∷◌, ◌++◌, ℕ, zero, suc, ◌/◌, length, get_or, set, take, drop}
use Rattle.slots.specs.Slot.{Slot, bytes_of, no_slot, slot_of}
use Rattle.slots.specs.declared.shape.Shape.{Shape}

-- how many slots of z bytes a line of bytes has
abbrev pub count : ℕ → List ℕ → ℕ
count z l = length l / z

-- n slots of z bytes
abbrev pub shape_with : ℕ → ℕ → Shape
shape_with z n = record { size = z; count = n }

-- the shape of a line of bytes
abbrev pub shape_of : ℕ → List ℕ → Shape
shape_of z l = shape_with z (count z l)

-- the first n slots of a line of bytes, of z bytes each
unfoldable pub slots_n : ℕ → ℕ → List ℕ → List Slot
slots_n z zero l = []
slots_n z (suc n) l = slot_of (take z l) ∷ slots_n z n (drop z l)

-- the slots of bytes of a shape
unfoldable pub slots : Shape → List ℕ → List Slot
slots w l = slots_n w.size w.count l

-- the slots of a line, of z bytes each
abbrev pub line_slots : ℕ → List ℕ → List Slot
line_slots z l = slots (shape_of z l) l

-- the bytes of a line of slots, of z bytes each
unfoldable pub bytes : ℕ → List Slot → List ℕ
bytes z [] = []
bytes z (s ∷ ss) = bytes_of z s ++ bytes z ss

-- slot i of a line
abbrev pub slot : List Slot → ℕ → Slot
slot ss i = get_or ss i no_slot

-- the line with slot i changed by f, all other slots as they were
unfoldable pub update : ℕ → (Slot → Slot) → List Slot → List Slot
update i f ss = set ss i (f (slot ss i))
