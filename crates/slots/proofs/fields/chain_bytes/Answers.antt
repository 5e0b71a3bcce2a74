-- Bytes 6 and 7 of the slot are its chain. Assumes nothing.
use mathlib.Core.Path.{ap, ◌∙◌}
use Rattle.ints.specs.Signed.{int_at, signed}
use Rattle.slots.specs.Slot.{Slot, slot_of}
use Rattle.slots.proofs.fields.chain_bytes.Goals as goal

pub returns : goal.returns
unfolding slot_of int_at
returns c =
    (ap (signed 2) c.low_first.ensures.0 ∙ ap (λ (s : Slot). s.chain) c.slot_at.ensures.0, c.low_first.ensures.1)
