-- After i turns the first i slots are unattached. Assumes nothing.
use mathlib.Core.Path.{◌≡◌}
use Rattle.slots.specs.Line.{shape_with, slots}
use Rattle.start.specs.Start.{unattached}
use Rattle.start.proofs.TurnLaws.{map_to}
use Rattle.start.proofs.clear_all.Given as goal

abbrev pub invariant-loop-i : goal.invariant-loop-i
invariant-loop-i g l = slots (shape_with g.row.SIZE l.n) l.line ≡ map_to unattached l.i (slots (shape_with g.row.SIZE l.n) l.fn.line)
