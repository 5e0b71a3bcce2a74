-- Where in a slot's bytes a field is. Assumes nothing.
use Rattle.std.specs.Prelude.{ℕ, ◌+◌, ◌*◌, ◌/◌, ◌%◌}
use Rattle.slots.specs.Slot.{ligature_id_at, component_at, flags_at, attach_type_at, x_advance_at, y_advance_at, x_offset_at}
use Rattle.slots.specs.Slot.{y_offset_at}
use Rattle.slots.specs.declared.axis.Axis.{Axis}
use Rattle.slots.specs.declared.axis.Axis.TheVariants.{X, Y}
use Rattle.slots.specs.declared.fields.ByteField.{ByteField}
use Rattle.slots.specs.declared.fields.ByteField.TheVariants.{LigatureId, Component, Flags, AttachType}
use Rattle.slots.specs.declared.fields.Measure.{Measure}
use Rattle.slots.specs.declared.fields.Measure.TheVariants.{Advance, Offset}

-- a number of two bytes with its bytes exchanged
abbrev pub swapped : ℕ → ℕ
swapped n = n % 256 * 256 + n / 256

-- where a field of one byte is
abbrev pub byte_at : ByteField → ℕ
byte_at LigatureId = ligature_id_at
byte_at Component = component_at
byte_at Flags = flags_at
byte_at AttachType = attach_type_at

-- where an advance or an offset is
abbrev pub measure_at : Measure → Axis → ℕ
measure_at Advance X = x_advance_at
measure_at Advance Y = y_advance_at
measure_at Offset X = x_offset_at
measure_at Offset Y = y_offset_at
