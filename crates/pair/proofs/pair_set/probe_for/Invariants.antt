-- `pair::pair_set::probe_for` meets its contract. The loop's invariant: the whole answer is that of the records from lo up to hi, of which there are at most as
-- many as 16 bits count. Assumes nothing.
use Prim.Native.Nat.{◌-◌, ◌≤◌}
use Rattle.pair.specs.PairSet.{probe}
use Rattle.pair.proofs.PairSetLaws.{Left}
use Rattle.pair.proofs.pair_set.probe_for.Given as goal

abbrev pub invariant-loop-lo : goal.invariant-loop-lo
invariant-loop-lo l = (l.lo ≤ l.hi) × (l.hi ≤ 65535) × Left l.set l.size l.glyph (probe l.set l.size l.glyph) l.lo l.hi

abbrev pub decreases-loop-lo : goal.decreases-loop-lo
decreases-loop-lo l = l.hi - l.lo
