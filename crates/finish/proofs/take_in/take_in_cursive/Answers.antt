-- The cross offset alone is written. Assumes nothing.
use Rattle.finish.proofs.JoinLaws.{joined_cursive}
use Rattle.slots.specs.Line.{slots}
use Rattle.finish.proofs.take_in.take_in_cursive.Goals as goal

pub returns : goal.returns
returns c =
    let a = c.args in
    joined_cursive a.d (slots a.shape a.line.now) a.i a.j c.requires.2 c.cross_axis-a.ensures
    c.get-own.ensures c.get-above.ensures c.sat_add.ensures c.set.ensures
