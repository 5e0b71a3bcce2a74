-- The nearest of the numbers that 32 bits hold. Assumes nothing.
use Rattle.ints.proofs.SaturatingLaws.{lowered_to}
use Rattle.ints.proofs.saturating.lower.Goals as goal

pub returns : goal.returns
returns c = lowered_to c.args.n c.clamp.result c.clamp.ensures
