-- What a public call leaves: one answer and one line. Assumes nothing.
use Rattle.std.specs.Prelude.{List, [], ◌∷◌, ◌≡◌, ℕ}
use Rattle.slots.specs.Checks.{bad_line}
use Rattle.slots.specs.Slot.{Slot}
use Rattle.slots.specs.Line.{bytes, line_slots}
use Rattle.answers.specs.Said.{Said, applied, declined, refused, done, unless}

-- the line afterwards: where the call was applied or done, the bytes of these slots, z each; a refusal or a decline
-- leaves the line itself
abbrev pub line_after : ℕ → Said → List ℕ → List Slot → List ℕ
line_after z (applied n hs a) l ss = bytes z ss
line_after z done l ss = bytes z ss
line_after z (declined hs) l ss = l
line_after z (refused n) l ss = l

-- a call on the line l, of slots of z bytes, that is to say s, and to change the slots to ss if it is applied or done:
-- it said `given`, and the line is l'; of a move, the line is the target
pub record Outcome (z : ℕ) (l : List ℕ) (s : Said) (ss : List Slot) (given : Said) (l' : List ℕ) : Type 0 where
  pub answer : given ≡ s
  pub line : l' ≡ line_after z s l ss

-- ---- the calls that work on one line
-- A call by what it says of the slots of a line, all but refusal 1, and by the slots that it leaves where it is applied
-- or done. Neither knows how many bytes a slot has.
pub record Call : Type 0 where
  pub says : List Slot → Said
  pub leaves : List Slot → List Slot

-- what it says of a line of slots of z bytes: refusal 1, or what it says of the slots
abbrev pub answer_to : Call → ℕ → List ℕ → Said
answer_to c z l = unless ((bad_line z l, 1) ∷ []) (c.says (line_slots z l))

-- it was made on the line l of slots of z bytes, said `given`, and left the line l'
abbrev pub Made : Call → ℕ → List ℕ → Said → List ℕ → Type 0
Made c z l given l' = Outcome z l (answer_to c z l) (c.leaves (line_slots z l)) given l'
