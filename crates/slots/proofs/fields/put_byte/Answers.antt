-- A store at the field's place is a change of the field. Assumes nothing.
use mathlib.Core.Path.{ap, ◌∙◌}
use Prim.Native.Nat.{ℕ}
use lib.ListN.{set}
use Rattle.slots.specs.Slot.{slot_of}
use Rattle.slots.proofs.FieldLaws.{byte_put}
use Rattle.slots.proofs.fields.put_byte.Goals as goal

pub returns : goal.returns
returns c =
    let a = c.args in
    ap (λ (k : ℕ). slot_of (set a.slot.now k a.n)) c.byte_at.ensures.0 ∙ byte_put a.f a.n a.slot.now c.requires
