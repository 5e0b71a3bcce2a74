-- What a slot is, apart from where it is and what it hangs on. Assumes nothing.
use Rattle.std.specs.Prelude.{List, map, ℕ}
use Rattle.slots.specs.Slot.{Slot}

-- a slot's glyph, ligature id, component and flags
abbrev pub identity : Slot → ℕ × ℕ × ℕ × ℕ
identity s = (s.glyph, s.ligature_id, s.component, s.flags)

-- the identities of slots, in order
abbrev pub identities : List Slot → List (ℕ × ℕ × ℕ × ℕ)
identities ss = map identity ss
