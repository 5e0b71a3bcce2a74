-- What a call leaves, as a value to compute with: what it says, and the slots afterwards. Whatever meets the call's contract is this. Assumes nothing.
use mathlib.Core.Path.{◌≡◌, ap₂}
use mathlib.Core.List.{List}
use Prim.Native.Nat.{ℕ}
use Rattle.slots.specs.Slot.{Slot}
use Rattle.slots.specs.Line.{line_slots}
use Rattle.answers.specs.Said.{Said}
use Rattle.answers.specs.Outcome.{answer_to, Call, line_after, Made}

pub record Result : Type 0 where
  pub says : Said
  pub line : List Slot

-- of a call that said `given` and left the bytes l'
abbrev pub result_of : ℕ → Said → List ℕ → Result
result_of z given l' = record { says = given; line = line_slots z l' }

-- of a call on the line l, of slots of z bytes
abbrev pub result : Call → ℕ → List ℕ → Result
result c z l = result_of z (answer_to c z l) (line_after z (answer_to c z l) l (c.leaves (line_slots z l)))

pub met : (c : Call) (z : ℕ) (l : List ℕ) (given : Said) (l' : List ℕ) → Made c z l given l' → result_of z given l' ≡ result c z l
met c z l given l' o = ap₂ (result_of z) o.answer o.line
