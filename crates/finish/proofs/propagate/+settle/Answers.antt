-- Each way through the code is one of the definition's, by the kind of parent; the limit falls. Assumes nothing.
use Prim.Native.Nat.{◌<◌}
use native.Mathlib.Nat.{pos_of_ne-zero}
use native.Mathlib.Omega.{arith}
use borrow.Author.Rules.{rules}
use Rattle.ints.specs.Signed.{signed}
use Rattle.slots.specs.Line.{slots}
use Rattle.finish.proofs.SettleLaws.{parent_counted, settles_at, settles_none, settles_outside, settles_stop}
use Rattle.finish.proofs.propagate.+settle.Goals as goal

pub set_chain-requires : goal.set_chain-requires
unfolding signed
set_chain-requires t c = search rules

pub set_chain-requires-in-InLine : goal.set_chain-requires-in-InLine
unfolding signed
set_chain-requires-in-InLine t c = search rules

pub returns-then-limit-eq0 : goal.returns-then-limit-eq0
returns-then-limit-eq0 t c =
    let a = c.args in
    settles_stop a.d a.limit (slots a.shape a.line.now) a.i c.parent_of.ensures
    c.set_chain-in-InLine.ensures c.in-InLine.is c.if-limit-eq0.true

pub settle-requires : goal.settle-requires
settle-requires t c =
    let a = c.args in
    let more = pos_of_ne-zero c.if-limit-eq0.false in
    let in_line : c.in-InLine.j < a.shape.count = parent_counted a.shape a.line.now a.i c.in-InLine.j c.parent_of.ensures c.in-InLine.is in
    (omega (arith, c.decreases), omega arith)

pub take_in-requires : goal.take_in-requires
take_in-requires t c =
    let a = c.args in
    let in_line : c.in-InLine.j < a.shape.count = parent_counted a.shape a.line.now a.i c.in-InLine.j c.parent_of.ensures c.in-InLine.is in
    (search rules, omega arith)

pub returns-in-None : goal.returns-in-None
returns-in-None t c =
    let a = c.args in
    settles_none a.d a.limit (slots a.shape a.line.now) a.i c.parent_of.ensures c.in-None.is

pub returns-in-Outside : goal.returns-in-Outside
returns-in-Outside t c =
    let a = c.args in
    settles_outside a.d a.limit (slots a.shape a.line.now) a.i c.parent_of.ensures
    c.set_chain.ensures c.in-Outside.is

pub returns-else-limit-eq0 : goal.returns-else-limit-eq0
returns-else-limit-eq0 t c =
    let a = c.args in
    settles_at a.d a.limit (slots a.shape a.line.now) a.i c.parent_of.ensures
    c.set_chain-in-InLine.ensures c.in-InLine.is c.if-limit-eq0.false c.settle.ensures c.take_in.ensures
