-- The fields of a slot: reading one, and changing one with all else as it was. Assumes nothing.
use Rattle.std.specs.Prelude.{Bool, ℕ, ◌/◌, ◌%◌, eqb, ℤ}
use Rattle.slots.specs.Slot.{Slot}
use Rattle.slots.specs.declared.axis.Axis.{Axis}
use Rattle.slots.specs.declared.axis.Axis.TheVariants.{X, Y}
use Rattle.slots.specs.declared.fields.ByteField.{ByteField}
use Rattle.slots.specs.declared.fields.ByteField.TheVariants.{LigatureId, Component, Flags, AttachType}
use Rattle.slots.specs.declared.fields.Flag.{Flag}
use Rattle.slots.specs.declared.fields.Flag.TheVariants.{Seen, Mark, Multiplied}
use Rattle.slots.specs.declared.fields.Measure.{Measure}
use Rattle.slots.specs.declared.fields.Measure.TheVariants.{Advance, Offset}

-- ---- what a slot is: glyph, ligature id, component, flags
-- the slot with these, all else as it was
abbrev pub with_identity : ℕ → ℕ → ℕ → ℕ → Slot → Slot
with_identity g i c f s =
    record {
      glyph = g;
      ligature_id = i;
      component = c;
      flags = f;
      attach_type = s.attach_type;
      chain = s.chain;
      x_advance = s.x_advance;
      y_advance = s.y_advance;
      x_offset = s.x_offset;
      y_offset = s.y_offset;
      cluster = s.cluster;
    }

-- the slot with another glyph
abbrev pub with_glyph : ℕ → Slot → Slot
with_glyph g s = with_identity g s.ligature_id s.component s.flags s

-- is the flag set in a byte of flags? 1 seen, 2 mark, 4 multiplied
abbrev pub flag_in : Flag → ℕ → Bool
flag_in Seen n = eqb (n % 2) 1
flag_in Mark n = eqb (n / 2 % 2) 1
flag_in Multiplied n = eqb (n / 4 % 2) 1

-- is the flag of a slot set?
abbrev pub flag_of : Flag → Slot → Bool
flag_of f s = flag_in f s.flags

-- ---- how it is attached: type and chain
-- attached by the type t, with the parent c slots further on
abbrev pub attached : ℕ → ℤ → Slot → Slot
attached t c s =
    record {
      glyph = s.glyph;
      ligature_id = s.ligature_id;
      component = s.component;
      flags = s.flags;
      attach_type = t;
      chain = c;
      x_advance = s.x_advance;
      y_advance = s.y_advance;
      x_offset = s.x_offset;
      y_offset = s.y_offset;
      cluster = s.cluster;
    }

-- the slot with another chain, its type as it was
abbrev pub with_chain : ℤ → Slot → Slot
with_chain c s = attached s.attach_type c s

-- the type has the cursive bit
abbrev pub cursive_bit : ℕ → Bool
cursive_bit kind = eqb (kind / 2 % 2) 1

-- ---- the four fields of one byte
abbrev pub byte_of : ByteField → Slot → ℕ
byte_of LigatureId s = s.ligature_id
byte_of Component s = s.component
byte_of Flags s = s.flags
byte_of AttachType s = s.attach_type

-- the slot with one of them changed
abbrev pub with_byte : ByteField → ℕ → Slot → Slot
with_byte LigatureId n s = with_identity s.glyph n s.component s.flags s
with_byte Component n s = with_identity s.glyph s.ligature_id n s.flags s
with_byte Flags n s = with_identity s.glyph s.ligature_id s.component n s
with_byte AttachType n s = attached n s.chain s

-- ---- where it is: advances and offsets
-- the slot with these, all else as it was
abbrev pub with_place : ℤ → ℤ → ℤ → ℤ → Slot → Slot
with_place xa ya xo yo s =
    record {
      glyph = s.glyph;
      ligature_id = s.ligature_id;
      component = s.component;
      flags = s.flags;
      attach_type = s.attach_type;
      chain = s.chain;
      x_advance = xa;
      y_advance = ya;
      x_offset = xo;
      y_offset = yo;
      cluster = s.cluster;
    }

-- the advance or the offset on an axis
abbrev pub measure : Measure → Axis → Slot → ℤ
measure Advance X s = s.x_advance
measure Advance Y s = s.y_advance
measure Offset X s = s.x_offset
measure Offset Y s = s.y_offset

-- the slot with one of them changed
abbrev pub with_measure : Measure → Axis → ℤ → Slot → Slot
with_measure Advance X z s = with_place z s.y_advance s.x_offset s.y_offset s
with_measure Advance Y z s = with_place s.x_advance z s.x_offset s.y_offset s
with_measure Offset X z s = with_place s.x_advance s.y_advance z s.y_offset s
with_measure Offset Y z s = with_place s.x_advance s.y_advance s.x_offset z s

-- the advance on an axis
abbrev pub advance : Axis → Slot → ℤ
advance a s = measure Advance a s

-- the offset on an axis
abbrev pub offset : Axis → Slot → ℤ
offset a s = measure Offset a s

-- ---- which letter it came from
-- the slot with another cluster, all else as it was
abbrev pub with_cluster : ℕ → Slot → Slot
with_cluster n s =
    record {
      glyph = s.glyph;
      ligature_id = s.ligature_id;
      component = s.component;
      flags = s.flags;
      attach_type = s.attach_type;
      chain = s.chain;
      x_advance = s.x_advance;
      y_advance = s.y_advance;
      x_offset = s.x_offset;
      y_offset = s.y_offset;
      cluster = n;
    }
