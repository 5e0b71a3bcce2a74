-- The ways of `settle`, where a parent that isn't attached is settled already. Assumes nothing.
use mathlib.Core.Path.{◌≡◌, ap, ◌∙◌}
use Prim.Native.Nat.{◌-◌, ◌<◌}
use native.Mathlib.Omega.{arith}
use borrow.Author.Rules.{rules}
use Rattle.ints.specs.Signed.{signed}
use Rattle.slots.specs.Line.{slots}
use Rattle.finish_rules.specs.Finish.{settled}
use Rattle.finish.proofs.SettleLaws.{parent_counted, settles_at, settles_none, settles_outside, settles_stop, settles_unattached}
use Rattle.finish.proofs.propagate.settle_slot.Goals as goal
use Rattle.finish.proofs.propagate.settle_slot.Goals.{then-is_attached, else-is_attached}

pub set_chain-requires : goal.set_chain-requires
unfolding signed
set_chain-requires c = search rules

pub set_chain-requires-in-InLine : goal.set_chain-requires-in-InLine
unfolding signed
set_chain-requires-in-InLine c = search rules

pub returns-then-limit-eq0 : goal.returns-then-limit-eq0
returns-then-limit-eq0 c =
    let a = c.args in
    settles_stop a.d a.limit (slots a.shape a.line.now) a.i c.parent_of.ensures
    c.set_chain-in-InLine.ensures c.in-InLine.is c.if-limit-eq0.true

pub is_attached-requires : goal.is_attached-requires
is_attached-requires c =
    let a = c.args in
    let in_line : c.in-InLine.j < a.shape.count = parent_counted a.shape a.line.now a.i c.in-InLine.j c.parent_of.ensures c.in-InLine.is in
    omega arith

pub settle-requires : goal.settle-requires
settle-requires c =
    let a = c.args in
    let in_line : c.in-InLine.j < a.shape.count = parent_counted a.shape a.line.now a.i c.in-InLine.j c.parent_of.ensures c.in-InLine.is in
    omega arith

pub take_in-requires : goal.take_in-requires
take_in-requires c =
    let a = c.args in
    let in_line : c.in-InLine.j < a.shape.count = parent_counted a.shape a.line.now a.i c.in-InLine.j c.parent_of.ensures c.in-InLine.is in
    (search rules, omega arith)

pub returns-in-None : goal.returns-in-None
returns-in-None c =
    let a = c.args in
    settles_none a.d a.limit (slots a.shape a.line.now) a.i c.parent_of.ensures c.in-None.is

pub returns-in-Outside : goal.returns-in-Outside
returns-in-Outside c =
    let a = c.args in
    settles_outside a.d a.limit (slots a.shape a.line.now) a.i c.parent_of.ensures
    c.set_chain.ensures c.in-Outside.is

pub returns-after-is_attached : goal.returns-after-is_attached
returns-after-is_attached c =
    let a = c.args in
    let up : slots a.shape c.if-is_attached.line ≡ settled a.d (a.limit - 1) (slots a.shape c.set_chain-in-InLine.new.line) c.in-InLine.j =
    elim c.if-is_attached.branch [
      | then-is_attached b ↦ ap (slots a.shape) b.line-is ∙ b.settle.ensures
      | else-is_attached b ↦ ap (slots a.shape) b.line-is ∙ settles_unattached a.d (a.limit - 1) _ _ c.is_attached.ensures b.if-is_attached.false
    ] in
    settles_at a.d a.limit (slots a.shape a.line.now) a.i c.parent_of.ensures
    c.set_chain-in-InLine.ensures c.in-InLine.is c.if-limit-eq0.false up c.take_in.ensures
