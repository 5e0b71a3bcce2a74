-- The first i slots have no cluster. Assumes nothing.
use mathlib.Core.Path.{◌≡◌}
use mathlib.Core.List.{map}
use lib.ListN.{take}
use Rattle.slots.specs.Slot.{clustered_size, slot_size}
use Rattle.slots.specs.Fields.{with_cluster}
use Rattle.slots.specs.Line.{shape_with, slots}
use Rattle.moves.proofs.drop_clusters.Given as goal

abbrev pub invariant-loop-i : goal.invariant-loop-i
invariant-loop-i l =
    take l.i (slots (shape_with slot_size l.n) l.target) ≡ take l.i (map (with_cluster 0) (slots (shape_with clustered_size l.n) l.line))
