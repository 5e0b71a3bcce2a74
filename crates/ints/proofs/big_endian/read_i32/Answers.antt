-- Four bytes read are the pattern of four bytes. Assumes nothing.
use mathlib.Core.Path.{ap}
use native.Mathlib.Omega.{arith}
use Rattle.ints.specs.Signed.{int_at, signed}
use Rattle.ints.proofs.BigEndianLaws.{nat_at_4}
use Rattle.ints.proofs.big_endian.read_i32.Goals as goal

pub returns : goal.returns
unfolding int_at
returns c = ap (signed 4) (omega (arith, nat_at_4 c.args.s.now c.args.at))
