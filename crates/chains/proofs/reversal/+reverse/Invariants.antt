-- The measure: how many slots are attached. A call that goes on has cleared an attached slot. Assumes nothing.
use Rattle.slots.specs.Line.{slots}
use Rattle.chains.specs.Chains.{attached_count}
use Rattle.chains.proofs.reversal.+reverse.Given as goal

abbrev pub decreases-reverse : goal.decreases-reverse
decreases-reverse l = attached_count (slots l.shape l.line.now)
