-- `lookup::subtables::all_good` meets its contract: those that were passed are good, so that the rest decides. Assumes nothing.
use Rattle.lookup.specs.Kinds.{good_for}
use Rattle.lookup.proofs.SubtableLaws.{Passed}
use Rattle.lookup.proofs.subtables.all_good.Given as goal

abbrev pub invariant-loop-len : goal.invariant-loop-len
invariant-loop-len l = Passed (good_for l.kind) l.lengths l.subtables l.len-index l.rest
