-- Two bytes are the pattern of a number of 16 bits, which 32 bits hold. Assumes nothing.
use mathlib.Core.Path.{sym, ap, ◌∙◌}
use Prim.Native.Nat.{◌+◌}
use native.Mathlib.Omega.{arith}
use mir.Syntax.{w16}
use mir.Facts.{to_z-of_z}
use Rattle.ints.specs.Signed.{int_at, signed}
use Rattle.ints.proofs.BigEndianLaws.{nat_at_2}
use Rattle.ints.proofs.SignedLaws.{cast_16, returned}
use Rattle.ints.proofs.SizeLaws.{mag_abs}
use Rattle.ints.proofs.big_endian.read_i16.Goals as goal

pub returns : goal.returns
unfolding int_at
returns c =
    let read = c.from_be_bytes in
    let a = c.args in
    let high = (c.type_inv.s a.at).fits in
    let low = (c.type_inv.s (a.at + 1)).fits in
    let e = returned c.cast_unsigned.result c.from.result (omega arith) c.cast_unsigned.ensures ∙ c.from.ensures ∙ to_z-of_z {w = w16} (record { sfits = read.type_inv }) in (
      e ∙ read.ensures ∙ cast_16 _ (omega arith) ∙ ap (signed 2) (sym (nat_at_2 a.s.now a.at)),
      rw e (omega (arith, mag_abs read.result)),
    )
