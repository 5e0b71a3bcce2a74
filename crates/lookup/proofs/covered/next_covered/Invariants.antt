-- What is asked of slot i and subtable k is asked of this slot. Assumes nothing.
use Rattle.slots.specs.Line.{slots}
use Rattle.lookup.proofs.CoveredLaws.{Searching}
use Rattle.lookup.proofs.covered.next_covered.Given as goal

abbrev pub invariant-loop-index : goal.invariant-loop-index
invariant-loop-index l = Searching (slots l.shape l.line) l.subtables l.lengths l.i l.fn.k l.fn.start l.index l.k l.start
