-- `marks::attachment::attach_mark` meets its contract: the changes of the mark's slot are one, and the chain is the distance back. Assumes nothing.
use Rattle.std.proofs.Common.{arith}
use Rattle.ints.specs.code.Signed.{val}
use Rattle.slots.specs.Line.{slots}
use Rattle.slots.proofs.LineLaws.{length_slots}
use Rattle.tables.specs.code.Meant.{point_of}
use Rattle.marks.proofs.AttachmentLaws.{attached_by}
use Rattle.marks.proofs.attachment.attach_mark.Goals as goal

pub returns : goal.returns
returns c =
    let a = c.args in
    let h = a.hang in
    attached_by a.frame.scale.s a.frame.scale.u a.frame.direction a.idx h.base_slot (point_of h.anchors.base) (point_of h.anchors.mark) (val h.walk) (slots a.shape a.line.now)
    (omega arith) (omega arith) (omega (arith, length_slots a.shape a.line.now, c.requires.0.below))
    c.main_axis-along.ensures c.cross_axis-across.ensures c.anchor_delta-main.ensures c.anchor_delta.ensures
    c.sat_add-cross.ensures c.chain_to-chain.ensures.0 c.set.ensures c.attach_slot.ensures
