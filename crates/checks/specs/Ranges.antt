-- The ranges of a slot's fields: refusal 4. Assumes nothing.
use Rattle.std.specs.Prelude.{Bool, false, ◌||◌, List, [], ◌∷◌, ltb}
use Rattle.slots.specs.Slot.{Slot}

-- a slot's ligature id above 7, component above 15, or a flag bit that is none of the three
abbrev pub bad_slot : Slot → Bool
bad_slot s = ltb 7 s.ligature_id || (ltb 15 s.component || ltb 7 s.flags)

-- does some slot pass the test?
unfoldable pub some : (Slot → Bool) → List Slot → Bool
some p [] = false
some p (s ∷ ss) = p s || some p ss

-- refusal 4: some slot is out of range
abbrev pub bad_slots : List Slot → Bool
bad_slots ss = some bad_slot ss
