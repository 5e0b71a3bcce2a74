-- `tables::spans::seek` meets its contract. The loop's invariant: the glyph lies between lo and hi; the law of the search does the rest. Assumes nothing.
use Prim.Native.Nat.{◌-◌}
use Rattle.tables.specs.Spans.{span_at}
use Rattle.tables.proofs.SpansLaws.{Between}
use Rattle.tables.proofs.spans.seek.Given as goal

abbrev pub invariant-loop-lo : goal.invariant-loop-lo
invariant-loop-lo l = Between (span_at l.t l.stride l.over) l.count l.glyph l.lo l.hi

abbrev pub decreases-loop-lo : goal.decreases-loop-lo
decreases-loop-lo l = l.hi - l.lo
