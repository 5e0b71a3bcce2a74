-- The byte at the field's place is the field. Assumes nothing.
use mathlib.Core.Path.{ap, ◌∙◌}
use Prim.Native.Nat.{ℕ}
use lib.ListN.{get_or}
use Rattle.slots.specs.Fields.{byte_of}
use Rattle.slots.proofs.FieldLaws.{byte_get}
use Rattle.slots.proofs.fields.get_byte.Goals as goal

pub returns : goal.returns
returns c =
    let a = c.args in
    let s = c.slot_at in
    ap (λ (n : ℕ). get_or s.result.now n 0) c.byte_at.ensures.0 ∙ byte_get a.f s.result.now ∙ ap (byte_of a.f) s.ensures.0
