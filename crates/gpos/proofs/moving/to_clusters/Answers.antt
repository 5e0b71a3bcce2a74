-- The slots that were written decide the target. Assumes nothing.
use mathlib.Core.Path.{refl, ap, ◌∙◌}
use mathlib.Core.Bool.{false}
use Rattle.slots.specs.Numbered.{numbered_from}
use Rattle.slots.specs.Line.{line_slots, slots}
use Rattle.slots.specs.Slot.{clustered_size, slot_size}
use Rattle.slots.specs.declared.shape.Shape.{Shape}
use Rattle.gpos.proofs.MovingLaws.{count_shape, line_clear, moved, target_bytes}
use Rattle.gpos.proofs.moving.to_clusters.Goals as goal

pub returns : goal.returns
returns c =
    let a = c.args in
    let core = c.number_slots in
    let ok = line_clear slot_size a.line.now _ c.in_ok-shape.ensures in
    let right = c.if-target-shape.false in
    let after = core.ensures ∙ ap (λ (v : Shape). numbered_from 0 (slots v a.line.now)) (count_shape ok ∙ ok.shape_is) in
    moved slot_size clustered_size false a.line.now a.target.now (numbered_from 0 (line_slots slot_size a.line.now)) ok right refl core.new.target
    (target_bytes clustered_size refl _ core.new.target (core.auto.target ∙ right) _ (λ j. (c.type_inv.target j).fits) after)
