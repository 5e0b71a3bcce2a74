-- Moving a line to slots with a cluster, and back: what the moves say, and the target afterwards. Assumes nothing.
use Rattle.std.specs.Prelude.{Result, Bool, false, not, ◌||◌, List, [], ◌∷◌, ℕ, ◌*◌, eqb, length}
use Rattle.slots.specs.Checks.{bad_line}
use Rattle.slots.specs.Numbered.{is_numbered_from, numbered_from}
use Rattle.slots.specs.Line.{count, line_slots}
use Rattle.slots.specs.Slot.{clustered_size, slot_size}
use Rattle.answers.specs.Outcome.{Outcome}
use Rattle.answers.specs.Said.{Said, done, said_moved, unless}
use Rattle.answers.specs.declared.WiderRefusal.{WiderRefusal}
use Rattle.checks.specs.Ranges.{bad_slots}

-- what a move of the line l, of slots of z bytes, into the target t, of slots of y bytes, says: refusals 1 and 4 of the
-- line; 10 where the target's length is not just the moved line's, or where a cluster would be lost
abbrev pub move_said : ℕ → ℕ → Bool → List ℕ → List ℕ → Said
move_said z y lost l t =
    unless ((bad_line z l, 1) ∷ (bad_slots (line_slots z l), 4) ∷ (not (eqb (length t) (count z l * y)) || lost, 10)
    ∷ []) done

-- to slots with a cluster: it answered r and left the target t', which where it is done has each slot with its number
-- for a cluster
abbrev pub ToClustersCall : List ℕ → List ℕ → Result (Unit {0}) WiderRefusal → List ℕ → Type 0
ToClustersCall l t r t' =
    Outcome clustered_size t (move_said slot_size clustered_size false l t) (numbered_from 0 (line_slots slot_size l))
    (said_moved r) t'

-- and back: a cluster that is not its slot's number would be lost; where it is done, the target has the slots without
-- clusters
abbrev pub FromClustersCall : List ℕ → List ℕ → Result (Unit {0}) WiderRefusal → List ℕ → Type 0
FromClustersCall l t r t' =
    Outcome slot_size t
    (move_said clustered_size slot_size (not (is_numbered_from 0 (line_slots clustered_size l))) l t)
    (line_slots clustered_size l) (said_moved r) t'
