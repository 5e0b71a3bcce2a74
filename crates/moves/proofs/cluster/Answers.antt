-- The four bytes at 24 are the cluster. Assumes nothing.
use native.Mathlib.Omega.{arith}
use Rattle.ints.specs.BigEndian.{nat_at}
use Rattle.ints.proofs.BigEndianLaws.{nat_at_fits}
use Rattle.ints.proofs.SignedLaws.{signed_same}
use Rattle.ints.specs.Signed.{int_at}
use Rattle.slots.specs.Slot.{slot_of, slot_size}
use Rattle.moves.proofs.cluster.Goals as goal

pub returns : goal.returns
unfolding slot_of int_at
returns c =
    let q = c.args.slot.now in
    signed_same 4 c.read_i32.result (nat_at 4 q slot_size) (omega arith) (nat_at_fits 4 q slot_size (λ k. (c.type_inv.slot k).fits)) c.read_i32.ensures
