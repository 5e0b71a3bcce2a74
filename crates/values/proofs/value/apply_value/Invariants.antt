-- After each turn of the loop the fields up to the next that is there are applied, and after the last turn all are. Assumes nothing.
use Prim.Native.Nat.{◌-◌, ◌≤◌}
use Rattle.slots.specs.Line.{slots}
use Rattle.values.proofs.ValueLaws.{Fields}
use Rattle.values.proofs.value.apply_value.Given as goal

abbrev pub invariant-loop-field : goal.invariant-loop-field
invariant-loop-field l = (l.field ≤ 8) × Fields l.frame.scale.s l.frame.scale.u l.frame.direction l.r l.format l.i (slots l.shape l.fn.line) l.field (slots l.shape l.line) l.works

abbrev pub decreases-loop-field : goal.decreases-loop-field
decreases-loop-field l = 8 - l.field
