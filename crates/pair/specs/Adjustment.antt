-- Applying the two value records of a pair (`apply_pair`). Assumes nothing.
use Rattle.std.specs.Prelude.{Bool, false, not, ◌||◌, List, [], ◌∷◌, ℕ, ◌+◌, eqb, if◌then◌else◌}
use Rattle.slots.specs.Slot.{Slot}
use Rattle.slots.specs.Line.{update}
use Rattle.slots.specs.declared.axis.Direction.{Direction}
use Rattle.values.specs.Format.{record_at, record_length}
use Rattle.values.specs.Value.{valued, worked}
use Rattle.answers.specs.Outcome.{Call}
use Rattle.answers.specs.declared.Neighbour.{Neighbour}
use Rattle.answers.specs.Said.{Range, unsafe_to_break, unsafe_to_concat, Said, applied, declined}
use Rattle.pair.specs.PairPos.{value_format1, value_format2}
use Rattle.pair.specs.Plan.{Plan, stop, adjust, plan_of}

-- the first value record of a pair, at a place of a table: nothing where it is cut
abbrev pub first_record : List ℕ → List ℕ → ℕ → List ℕ
first_record t table at = record_at table at (value_format1 t)

-- the second, which follows it; each is judged alone, so it may be cut where the first isn't
abbrev pub second_record : List ℕ → List ℕ → ℕ → List ℕ
second_record t table at = record_at table (at + record_length (value_format1 t)) (value_format2 t)

-- a slot with the first value applied
abbrev pub first_valued : ℕ → ℕ → Direction → List ℕ → List ℕ → ℕ → Slot → Slot
first_valued s u d t table at = valued s u d (first_record t table at) (value_format1 t)

-- a slot with the second value applied
abbrev pub second_valued : ℕ → ℕ → Direction → List ℕ → List ℕ → ℕ → Slot → Slot
second_valued s u d t table at = valued s u d (second_record t table at) (value_format2 t)

-- either record worked
abbrev pub either_worked : Direction → List ℕ → List ℕ → ℕ → Bool
either_worked d t table at =
    worked d (first_record t table at) (value_format1 t) || worked d (second_record t table at) (value_format2 t)

-- break where either worked, else concat: even a zero-valued pair is a hazard, since another second glyph could select
-- a non-zero one
abbrev pub pair_hazard : Bool → ℕ → ℕ → Range
pair_hazard w idx second = if w then unsafe_to_break idx (second + 1) else unsafe_to_concat idx (second + 1)

-- a pair is applied, also with zero values. With a second value, by its format alone, the second glyph is done with:
-- the next index is past it, and one more break is reported, up to and with the slot after it (harfbuzz #3824, #3888)
abbrev pub pair_said : Bool → Bool → ℕ → ℕ → Said
pair_said w more idx second =
    if more then applied (second + 1) (pair_hazard w idx second ∷ unsafe_to_break idx (second + 2) ∷ []) false
    else applied second (pair_hazard w idx second ∷ []) false

-- is there a second value, by its format?
abbrev pub has_second : List ℕ → Bool
has_second t = not (eqb (value_format2 t) 0)

-- what is said of a plan
abbrev pub plan_said : Direction → List ℕ → ℕ → Plan → Said
plan_said d t idx (stop hazards) = declined hazards
plan_said d t idx (adjust table at second) = pair_said (either_worked d t table at) (has_second t) idx second

-- the slots that a plan leaves: the first value applied to the first slot, then the second to the second
abbrev pub planned : ℕ → ℕ → Direction → List ℕ → ℕ → Plan → List Slot → List Slot
planned s u d t idx (stop hazards) ss = ss
planned s u d t idx (adjust table at second) ss =
    update second (second_valued s u d t table at) (update idx (first_valued s u d t table at) ss)

-- pair adjustment of slot i and the second slot that the caller names
abbrev pub pair_adjustment : (t : List ℕ) (d : Direction) (s u i : ℕ) (second : Neighbour) → Call
pair_adjustment t d s u i second =
    record {
      says = λ ss. plan_said d t i (plan_of t ss i second);
      leaves = λ ss. planned s u d t i (plan_of t ss i second) ss;
    }
