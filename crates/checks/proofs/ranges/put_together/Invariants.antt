-- The bits together are those of the slots from i up. Assumes nothing.
use mathlib.Core.Path.{◌≡◌}
use lib.ListN.{drop}
use Rattle.slots.specs.Line.{shape_with, slots}
use Rattle.checks.specs.code.Ranges.{bad_fields}
use Rattle.checks.specs.Ranges.{bad_slot, some}
use Rattle.checks.proofs.ranges.put_together.Given as goal

abbrev pub invariant-loop-i : goal.invariant-loop-i
invariant-loop-i g l = bad_fields l.all ≡ some bad_slot (drop l.i (slots (shape_with g.row.SIZE l.n) l.line))
