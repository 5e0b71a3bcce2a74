-- Two stores are a write of two bytes. Assumes nothing.
use mathlib.Core.Path.{sym}
use Rattle.ints.proofs.BigEndianLaws.{with_nat_2}
use Rattle.ints.proofs.big_endian.write_u16.Goals as goal

pub returns : goal.returns
returns c = rw c.to_be_bytes.ensures (sym (with_nat_2 c.args.s.now c.args.at c.args.n))
