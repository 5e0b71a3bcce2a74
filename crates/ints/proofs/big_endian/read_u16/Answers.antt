-- Two bytes read are the number of two bytes. Assumes nothing.
use native.Mathlib.Omega.{arith}
use Rattle.ints.proofs.BigEndianLaws.{nat_at_2}
use Rattle.ints.proofs.big_endian.read_u16.Goals as goal

pub returns : goal.returns
returns c = omega (arith, nat_at_2 c.args.s.now c.args.at)
