-- `targets::search::find` meets its contract. The loop's invariant: what is asked of idx is asked of j. Assumes nothing.
use Rattle.std.proofs.Common.{◌≡◌, ◌≤◌}
use Rattle.ints.specs.Tally.{nearest}
use Rattle.slots.specs.Line.{slots}
use Rattle.targets.specs.Search.{found_for, stops_at}
use Rattle.targets.proofs.search.find.Given as goal

abbrev pub invariant-loop-j : goal.invariant-loop-j
invariant-loop-j l =
    (l.until ≤ l.j)
    × (found_for l.target l.t.bytes.now (slots l.shape l.line) l.idx ≡ nearest (stops_at l.target l.t.bytes.now (slots l.shape l.line)) l.j)
