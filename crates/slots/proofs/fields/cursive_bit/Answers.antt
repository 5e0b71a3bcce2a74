-- The bit of weight 2. Assumes nothing.
use native.Mathlib.Omega.{arith}
use Rattle.std.proofs.lemmas.Nat.Bits.{and_pow}
use Prim.Native.Nat.{◌/◌, ◌%◌}
use lib.Bits.{bit_and}
use Rattle.slots.proofs.FieldLaws.{bit_test}
use Rattle.slots.proofs.fields.cursive_bit.Goals as goal

pub returns : goal.returns
returns c = let k = c.args.kind in bit_test (bit_and k 2) 2 (k / 2 % 2) (omega arith) (omega arith) (and_pow k 1)
