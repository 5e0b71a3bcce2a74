-- The measure: the limit. Assumes nothing.
use Rattle.finish.proofs.propagate.+settle.Given as goal

abbrev pub decreases-settle : goal.decreases-settle
decreases-settle l = l.limit
