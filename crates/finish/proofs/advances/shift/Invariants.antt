-- One step subtracts, the other adds. Assumes nothing.
use mathlib.Core.Bool.{true, false}
use Rattle.finish.proofs.advances.shift.Given as goal

abbrev pub ghost-step_all : goal.ghost-step_all
ghost-step_all a = true

abbrev pub ghost-step_all-2 : goal.ghost-step_all-2
ghost-step_all-2 a = false
