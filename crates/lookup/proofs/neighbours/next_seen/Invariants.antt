-- `lookup::neighbours::next_seen` meets its contract. The loop's invariant: what is asked of i is asked of j. Assumes nothing.
use mathlib.Core.Path.{◌≡◌}
use Rattle.slots.specs.Line.{slots}
use Rattle.lookup.specs.Neighbours.{seen_from}
use Rattle.lookup.proofs.neighbours.next_seen.Given as goal

abbrev pub invariant-loop-j : goal.invariant-loop-j
invariant-loop-j l = seen_from (slots l.shape l.line) l.i ≡ seen_from (slots l.shape l.line) l.j
