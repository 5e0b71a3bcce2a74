-- The lower half of the bits is the pattern of 16 bits. Assumes nothing.
use native.Mathlib.Omega.{arith}
use Rattle.ints.specs.Signed.{with_int}
use Rattle.ints.proofs.SignedLaws.{pattern_16}
use Rattle.ints.proofs.big_endian.write_i16.Goals as goal

pub returns : goal.returns
unfolding with_int
returns c = cc (pattern_16 c.args.v (omega arith) (omega arith))
