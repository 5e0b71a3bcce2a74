-- What is left to do on the line, the first i slots from the last down, is the whole job. Assumes nothing.
use native.Mathlib.Omega.{arith}
use Rattle.slots.specs.Line.{slots}
use Rattle.finish.proofs.SettleLaws.{down_done, down_more}
use Rattle.finish.proofs.finishing.settle_down.Goals as goal

pub loop-i-preserved : goal.loop-i-preserved
loop-i-preserved c =
    let l = c.loop-i in
    let a = c.args in
    down_more a.d a.limit (slots a.shape l.line) l.i (omega arith) l.invariant c.settle_slot.ensures

pub returns : goal.returns
returns c =
    let l = c.loop-i in
    let a = c.args in
    down_done a.d a.limit (slots a.shape l.line) l.i (omega arith) l.invariant
