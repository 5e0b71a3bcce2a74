-- Two bytes, exchanged, are the number of two bytes. Assumes nothing.
use native.Mathlib.Omega.{arith}
use Rattle.ints.proofs.BigEndianLaws.{nat_at_2}
use Rattle.slots.proofs.fields.low_first.Goals as goal

pub returns : goal.returns
returns c = let high = (c.type_inv.slot 6).fits in let low = (c.type_inv.slot 7).fits in omega (arith, nat_at_2 c.args.slot.now 6)
