-- What a slot's bytes can hold. Assumes nothing.
use Rattle.std.specs.Prelude.{List, [], ◌∷◌, ℕ, ◌-◌, ◌^◌, ◌<◌}
use Rattle.ints.specs.Signed.{InBytes}
use Rattle.slots.specs.Slot.{Slot, slot_size}

-- what z bytes can hold
pub record Storable (z : ℕ) (s : Slot) : Type 0 where
  pub glyph_fits : s.glyph < 65536
  pub id_fits : s.ligature_id < 256
  pub component_fits : s.component < 256
  pub flags_fit : s.flags < 256
  pub type_fits : s.attach_type < 256
  pub chain_fits : InBytes 2 s.chain
  pub x_advance_fits : InBytes 4 s.x_advance
  pub y_advance_fits : InBytes 4 s.y_advance
  pub x_offset_fits : InBytes 4 s.x_offset
  pub y_offset_fits : InBytes 4 s.y_offset
  pub cluster_fits : s.cluster < 256 ^ (z - slot_size)

-- every slot can be held by z bytes
unfoldable pub AllStorable : ℕ → List Slot → Type 0
AllStorable z [] = Unit {0}
AllStorable z (s ∷ ss) = Storable z s × AllStorable z ss
