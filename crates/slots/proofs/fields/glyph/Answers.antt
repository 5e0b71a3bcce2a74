-- The first two bytes of the slot are its glyph. Assumes nothing.
use mathlib.Core.Path.{ap, ◌∙◌}
use native.Mathlib.Omega.{arith}
use Rattle.slots.specs.Slot.{Slot, slot_of}
use Rattle.slots.proofs.fields.glyph.Goals as goal

pub returns : goal.returns
unfolding slot_of
returns c = (c.read_u16.ensures.0 ∙ ap (λ (s : Slot). s.glyph) c.slot_at.ensures.0, omega arith)
