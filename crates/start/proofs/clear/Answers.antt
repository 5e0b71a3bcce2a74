-- Bytes 5, 6 and 7 are type and chain. Assumes nothing.
use Rattle.start.proofs.ClearLaws.{clear_put}
use Rattle.start.proofs.clear.Goals as goal

pub returns : goal.returns
returns c = clear_put c.args.slot.now c.requires
