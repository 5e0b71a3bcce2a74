-- Bytes 6 and 7 of the slot are its chain. Assumes nothing.
use mathlib.Core.Path.{ap, ◌∙◌}
use Rattle.slots.specs.Slot.{Slot, slot_of}
use Rattle.slots.proofs.fields.chain.Goals as goal

pub returns : goal.returns
unfolding slot_of
returns c = (c.read_i16.ensures.0 ∙ ap (λ (s : Slot). s.chain) c.slot_at.ensures.0, c.read_i16.ensures.1)
