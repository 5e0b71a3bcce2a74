-- What is asked of subtable k is asked of this one. Assumes nothing.
use Rattle.slots.specs.Line.{slots}
use Rattle.lookup.proofs.CoveredLaws.{Searching}
use Rattle.lookup.proofs.covered.covered_at.Given as goal

abbrev pub invariant-loop-subtable : goal.invariant-loop-subtable
invariant-loop-subtable l = Searching (slots l.fn.shape l.line) l.subtables l.lengths l.i l.k l.start l.i l.subtable l.at
