-- Four bytes copied are a write of four bytes. Assumes nothing.
use mathlib.Core.Path.{sym, ap, ◌∙◌}
use native.Mathlib.Omega.{arith}
use Rattle.ints.specs.BigEndian.{with_nat}
use Rattle.ints.specs.Signed.{with_int}
use Rattle.ints.proofs.BigEndianLaws.{digits_4, put_digits}
use Rattle.ints.proofs.SignedLaws.{pattern_signed}
use Rattle.ints.proofs.big_endian.write_i32.Goals as goal

pub returns : goal.returns
unfolding with_int
returns c =
    let a = c.args in
    put_digits 4 a.s.now c.copy_from_slice.new.self a.at a.v c.requires (c.copy_from_slice.ensures.after ∙ c.to_be_bytes.ensures ∙ sym (digits_4 a.v))
    ∙ sym (ap (with_nat 4 a.s.now a.at) (pattern_signed 4 a.v (omega arith)))
