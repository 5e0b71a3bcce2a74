-- A line that is refused for its length or for its slots' size: refusal 1. Assumes nothing.
use Rattle.std.specs.Prelude.{Bool, not, ◌||◌, List, ℕ, ◌*◌, ◌%◌, eqb, ltb, length}
use Rattle.slots.specs.Slot.{known}

-- the longest line
abbrev pub most_slots : ℕ
most_slots = 1024

-- a length of n bytes that is no multiple of a slot's, or above the longest line's: 24,576 bytes, and 28,672 with
-- clusters
abbrev pub bad_length : ℕ → ℕ → Bool
bad_length z n = not (eqb (n % z) 0) || ltb (most_slots * z) n

-- refusal 1: slots have no such size, or the line no such length
abbrev pub bad_line : ℕ → List ℕ → Bool
bad_line z l = not (known z) || bad_length z (length l)
