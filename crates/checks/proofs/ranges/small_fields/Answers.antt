-- Four bytes are the digits of their number. Assumes nothing.
use Prim.Native.Nat.{ℕ}
use lib.ListN.{get_or}
use Rattle.slots.specs.Slot.{slot_of}
use Rattle.checks.proofs.RangeLaws.{bytes_out}
use Rattle.checks.proofs.ranges.small_fields.Goals as goal

pub returns : goal.returns
unfolding slot_of
returns c =
    let byte : ℕ → ℕ = λ k. get_or c.args.slot.now k 0 in
    let known = c.type_inv.slot in
    rw c.from_le_bytes.ensures (bytes_out (byte 2) (byte 3) (byte 4) (byte 5) (known 2).fits (known 3).fits (known 4).fits)
