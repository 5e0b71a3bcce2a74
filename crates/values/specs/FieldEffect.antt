-- What a field of a value record does to a slot, in each direction. Assumes nothing.
use Rattle.std.specs.Prelude.{Bool, true, false, ℕ, eqb, ℤ, if◌then◌else◌}
use Rattle.ints.specs.Saturating.{sat_sub, sat_add}
use Rattle.slots.specs.Axis.{horizontal}
use Rattle.slots.specs.Slot.{Slot}
use Rattle.slots.specs.Fields.{measure, with_measure}
use Rattle.slots.specs.declared.axis.Axis.{Axis}
use Rattle.slots.specs.declared.axis.Axis.TheVariants.{X, Y}
use Rattle.slots.specs.declared.axis.Direction.{Direction}
use Rattle.slots.specs.declared.fields.Measure.{Measure}
use Rattle.slots.specs.declared.fields.Measure.TheVariants.{Advance, Offset}

-- the field is skipped, or its value is added to or subtracted from one of the slot's measures
pub data FieldEffect : Type 0 where
  skipped : FieldEffect
  added : (m : Measure) (a : Axis) → FieldEffect
  subtracted : (m : Measure) (a : Axis) → FieldEffect

-- the fields that may apply, by their bits
abbrev pub x_placement_bit : ℕ
x_placement_bit = 0

abbrev pub y_placement_bit : ℕ
y_placement_bit = 1

abbrev pub x_advance_bit : ℕ
x_advance_bit = 2

abbrev pub y_advance_bit : ℕ
y_advance_bit = 3

-- The rule. Both placements apply in every direction. Of the advances only the one along the line does: x is added, y
-- is subtracted. Device offsets never apply.
unfoldable pub effect_of : Direction → ℕ → FieldEffect
effect_of d b =
    if eqb b x_placement_bit then added Offset X
    else (if eqb b y_placement_bit then added Offset Y
    else (if eqb b x_advance_bit then (if horizontal d then added Advance X else skipped)
    else (if eqb b y_advance_bit then (if horizontal d then skipped else subtracted Advance Y)
    else skipped)))

-- does the field apply?
abbrev pub applies : FieldEffect → Bool
applies skipped = false
applies (added m a) = true
applies (subtracted m a) = true

-- the slot with a scaled value added or subtracted, saturating once
abbrev pub with_effect : FieldEffect → ℤ → Slot → Slot
with_effect skipped z s = s
with_effect (added m a) z s = with_measure m a (sat_add (measure m a s) z) s
with_effect (subtracted m a) z s = with_measure m a (sat_sub (measure m a s) z) s
