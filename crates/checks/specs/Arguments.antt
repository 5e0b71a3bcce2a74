-- The tests for which the calls refuse, each with its number, in order: the first that holds is the lowest. Assumes
-- nothing.
use Rattle.std.specs.Prelude.{Bool, List, [], ◌∷◌, ◌++◌, ℕ, ltb}
use Rattle.ints.specs.Scale.{bad_scale}
use Rattle.slots.specs.Axis.{direction_of}
use Rattle.slots.specs.Slot.{Slot}
use Rattle.slots.specs.declared.axis.Direction.{Direction}
use Rattle.answers.specs.Outcome.{Call}
use Rattle.answers.specs.Said.{unless}
use Rattle.checks.specs.Ranges.{bad_slots}

-- refusals 2 to 4: the direction, a number out of its range, a slot out of range
abbrev pub slot_tests : List Slot → ℕ → Bool → List (Bool × ℕ)
slot_tests ss direction bad_number = (ltb 3 direction, 2) ∷ (bad_number, 3) ∷ (bad_slots ss, 4) ∷ []

-- refusals 2 to 5 of an applying call: besides these, a bad index or neighbour
abbrev pub call_tests : List Slot → ℕ → ℕ → ℕ → Bool → List (Bool × ℕ)
call_tests ss direction s u bad_index = slot_tests ss direction (bad_scale s u) ++ ((bad_index, 5) ∷ [])

-- refusals 2 to 6: and a bad subtable
abbrev pub applying_tests : List Slot → ℕ → ℕ → ℕ → Bool → Bool → List (Bool × ℕ)
applying_tests ss direction s u bad_index bad_subtable =
    call_tests ss direction s u bad_index ++ ((bad_subtable, 6) ∷ [])

-- An applying call: refusals 2 to 6, by whether its index is bad in these slots and its subtable is; else what its
-- core, by the direction, says and leaves.
abbrev pub applying : (direction s u : ℕ) (bad_index : List Slot → Bool) (bad_subtable : Bool) (core : Direction → Call)
    → Call
applying direction s u bad_index bad_subtable core =
    record {
      says = λ ss. unless (applying_tests ss direction s u (bad_index ss) bad_subtable)
          ((core (direction_of direction)).says ss);
      leaves = (core (direction_of direction)).leaves;
    }
