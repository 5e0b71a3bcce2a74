-- What is left to do on the line, the first i slots from the last down, is the whole job. Assumes nothing.
use mathlib.Core.Path.{◌≡◌}
use Rattle.slots.specs.Line.{slots}
use Rattle.finish_rules.specs.Finish.{settled_down}
use Rattle.finish.proofs.finishing.settle_down.Given as goal

abbrev pub invariant-loop-i : goal.invariant-loop-i
invariant-loop-i l = settled_down l.d l.limit (slots l.shape l.line) l.i ≡ settled_down l.d l.limit (slots l.shape l.fn.line) l.shape.count
