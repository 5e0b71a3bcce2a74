-- `lookup::neighbours::last_seen` meets its contract. The loop's invariant: what is asked of n is asked of j. Assumes nothing.
use mathlib.Core.Path.{◌≡◌}
use Prim.Native.Nat.{◌≤◌}
use Rattle.slots.specs.Line.{slots}
use Rattle.lookup.specs.Neighbours.{previous}
use Rattle.lookup.proofs.neighbours.last_seen.Given as goal

abbrev pub invariant-loop-j : goal.invariant-loop-j
invariant-loop-j l = (l.i ≤ l.j) × (previous (slots l.shape l.line) l.n ≡ previous (slots l.shape l.line) l.j)
