-- The slots that were written decide the target. Assumes nothing.
use mathlib.Core.Path.{◌≡◌, refl, sym, ap, ◌∙◌}
use mathlib.Core.Bool.{not}
use Rattle.slots.specs.Numbered.{is_numbered_from}
use Rattle.slots.specs.Line.{bytes, line_slots, shape_with, slots}
use Rattle.slots.specs.Slot.{clustered_size, slot_size}
use Rattle.slots.specs.declared.shape.Shape.{Shape}
use Rattle.moves.proofs.MoveLaws.{bytes_plain}
use Rattle.gpos.proofs.MovingLaws.{count_shape, line_clear, moved, target_bytes}
use Rattle.gpos.proofs.moving.from_clusters.Goals as goal

pub returns : goal.returns
returns c =
    let l = c.args.line.now in
    let core = c.drop_clusters in
    let ok = line_clear clustered_size l _ c.in_ok-shape.ensures in
    let right = c.if-target-shape.false in
    let shape-is = count_shape ok ∙ ok.shape_is in
    let lost-is : not c.is_numbered.result ≡ not (is_numbered_from 0 (line_slots clustered_size l)) = ap not (c.is_numbered.ensures ∙ ap (λ (v : Shape). is_numbered_from 0 (slots v l)) shape-is) in
    let ss = slots (shape_with clustered_size c.in_ok-shape.shape.count) l in
    let same : bytes slot_size ss ≡ bytes slot_size (line_slots clustered_size l) = ap (λ (v : Shape). bytes slot_size (slots v l)) shape-is in
    moved clustered_size slot_size (not (is_numbered_from 0 (line_slots clustered_size l))) l c.args.target.now (line_slots clustered_size l) ok right
    (sym lost-is ∙ ap not c.if-not-is_numbered.false) core.new.target
    (target_bytes slot_size refl _ core.new.target (core.auto.target ∙ right) _ (λ j. (c.type_inv.target j).fits) core.ensures ∙ bytes_plain ss ∙ same)
