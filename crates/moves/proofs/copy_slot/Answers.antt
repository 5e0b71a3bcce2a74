-- The first 24 bytes are those of the slot. Assumes nothing.
use mathlib.Core.List.{List, ◌++◌}
use mathlib.Core.Path.{ap, ◌∙◌}
use Prim.Native.Nat.{ℕ}
use lib.ListN.{drop}
use Rattle.slots.specs.Slot.{slot_of, slot_size}
use Rattle.moves.proofs.MoveLaws.{copied_slot}
use Rattle.moves.proofs.copy_slot.Goals as goal

pub returns : goal.returns
returns c =
    let a = c.args in
    ap (λ (l : List ℕ). slot_of (l ++ drop slot_size a.to.now)) c.copy_from_slice.ensures.after
    ∙ copied_slot a.from.now c.requires.0 a.to.now c.requires.1
