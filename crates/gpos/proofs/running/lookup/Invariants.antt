-- What holds at each turn, and how many turns are left. Assumes nothing.
use Rattle.gpos.proofs.RunLaws.{Loop, turns_left}
use Rattle.gpos.proofs.running.lookup.Given as goal

abbrev pub invariant-loop-st : goal.invariant-loop-st
invariant-loop-st l = Loop l.fn.settings l.fn.line l.subtables l.lengths l.fn.list l.records l.line l.list l.st

abbrev pub decreases-loop-st : goal.decreases-loop-st
decreases-loop-st l = turns_left l.fn.settings l.fn.line l.lengths l.st
