-- After i turns the first i slots are settled. Assumes nothing.
use mathlib.Core.Path.{◌≡◌}
use Rattle.slots.specs.Line.{slots}
use Rattle.finish_rules.specs.Finish.{settled_up}
use Rattle.finish.proofs.finishing.settle_up.Given as goal

abbrev pub invariant-loop-i : goal.invariant-loop-i
invariant-loop-i l = slots l.shape l.line ≡ settled_up l.d l.limit (slots l.shape l.fn.line) l.i
