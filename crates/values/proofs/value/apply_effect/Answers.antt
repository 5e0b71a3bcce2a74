-- Each effect has its measure. Assumes nothing.
use mathlib.Core.Path.{sym}
use Rattle.ints.specs.Saturating.{sat_add, sat_sub}
use Rattle.slots.specs.Line.{slots, update}
use Rattle.slots.proofs.LineLaws.{update_none}
use Rattle.values.proofs.ValueLaws.{put_measure}
use Rattle.values.proofs.value.apply_effect.Goals as goal

pub returns-in-Skip : goal.returns-in-Skip
unfolding update
returns-in-Skip c =
    let a = c.args in
    rw c.in-Skip.is (sym (update_none a.i (slots a.shape a.line.now)))

pub returns-in-Add : goal.returns-in-Add
returns-in-Add c =
    rw c.in-Add.is (put_measure sat_add _ _ _ _ _ _ _ _ c.get-old.ensures c.sat_add.ensures c.set.ensures)

pub returns-in-Subtract : goal.returns-in-Subtract
returns-in-Subtract c =
    rw c.in-Subtract.is (put_measure sat_sub _ _ _ _ _ _ _ _ c.get-old-in-Subtract.ensures c.sat_sub.ensures c.set-in-Subtract.ensures)
