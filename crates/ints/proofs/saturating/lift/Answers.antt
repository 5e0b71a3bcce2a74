-- Adding 2 ^ 31 to the bits turns the top bit. Assumes nothing.
use native.Mathlib.Omega.{arith}
use Rattle.ints.proofs.SaturatingLaws.{lifted}
use Rattle.ints.proofs.saturating.lift.Goals as goal

pub returns : goal.returns
returns c = (cc (lifted c.args.v (omega arith)), omega arith)
