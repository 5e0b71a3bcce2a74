-- The first i slots are numbered. Assumes nothing.
use mathlib.Core.Path.{◌≡◌, ◌∙◌}
use native.Mathlib.Omega.{arith}
use borrow.Author.Rules.{rules}
use lib.ListN.{length}
use Rattle.slots.specs.Slot.{clustered_size, slot_size}
use Rattle.slots.specs.Numbered.{numbered_from}
use Rattle.slots.specs.Fields.{with_cluster}
use Rattle.slots.specs.Line.{shape_with, slots}
use Rattle.slots.proofs.LineLaws.{length_slots}
use Rattle.moves.proofs.MoveLaws.{length_numbered, move_done, move_turn, numbered_at}
use Rattle.moves.proofs.number_slots.Goals as goal

pub loop-i-preserved : goal.loop-i-preserved
loop-i-preserved c =
    let a = c.args in
    let w = shape_with slot_size a.n in
    let v = shape_with clustered_size a.n in
    let ss = slots w a.line.now in
    let call = c.copy_numbered in
    let i = c.loop-i.i in
    move_turn w v a.line.now c.loop-i.target (numbered_from 0 ss) i (search rules) (search rules) (with_cluster i) call.new.to call.auto.to call.ensures
    (omega (arith, length_numbered 0 ss, length_slots w a.line.now)) (numbered_at i ss (omega (arith, length_slots w a.line.now))) c.loop-i.invariant

pub returns : goal.returns
returns c =
    let a = c.args in
    let w = shape_with slot_size a.n in
    let ss = slots w a.line.now in
    let many : length (numbered_from 0 ss) ≡ a.n = length_numbered 0 ss ∙ length_slots w a.line.now in
    move_done (shape_with clustered_size a.n) c.loop-i.target (numbered_from 0 ss) c.loop-i.i (omega arith) many c.loop-i.invariant
