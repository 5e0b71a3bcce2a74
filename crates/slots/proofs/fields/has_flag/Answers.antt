-- Each arm tests the bit of its flag. Assumes nothing.
use mathlib.Core.Path.{ap, ◌∙◌}
use Prim.Native.Nat.{◌/◌, ◌%◌}
use native.Mathlib.Omega.{arith}
use lib.Bits.{bit_and}
use Rattle.std.proofs.lemmas.Nat.Bits.{and_pow}
use Rattle.slots.specs.Fields.{flag_in}
use Rattle.slots.specs.declared.fields.Flag.TheVariants.{Mark, Multiplied}
use Rattle.slots.proofs.FieldLaws.{bit_test}
use Rattle.slots.proofs.fields.has_flag.Goals as goal

pub returns-in-Mark : goal.returns-in-Mark
returns-in-Mark c =
    let n = c.get_byte-flags.result in
    rw c.in-Mark.is (bit_test (bit_and n 2) 2 (n / 2 % 2) (omega arith) (omega arith) (and_pow n 1) ∙ ap (flag_in Mark) c.get_byte-flags.ensures)

pub returns-in-Multiplied : goal.returns-in-Multiplied
returns-in-Multiplied c =
    let n = c.get_byte-flags.result in
    rw c.in-Multiplied.is (bit_test (bit_and n 4) 4 (n / 4 % 2) (omega arith) (omega arith) (and_pow n 2) ∙ ap (flag_in Multiplied) c.get_byte-flags.ensures)
