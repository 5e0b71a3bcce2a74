-- A part of whole slots is those slots. Assumes nothing.
use Rattle.slots.proofs.LineLaws.{part_fits, slots_part}
use Rattle.slots.proofs.fields.slots_between.Goals as goal

pub returns : goal.returns
returns c =
    let a = c.args in
    let p = c.requires in
    (slots_part a.shape a.line.now a.i a.j p.0 p.1 p.2, part_fits a.shape a.line.now a.i a.j p.0 p.1 p.2)
