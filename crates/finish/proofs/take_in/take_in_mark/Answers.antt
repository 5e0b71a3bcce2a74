-- Both offsets are those of the definition, written one after the other. Assumes nothing.
use native.Mathlib.Omega.{arith}
use Rattle.slots.specs.Line.{slots}
use Rattle.slots.proofs.LineLaws.{length_slots}
use Rattle.finish.proofs.JoinLaws.{joined_mark}
use Rattle.finish.proofs.take_in.take_in_mark.Goals as goal

pub returns : goal.returns
returns c =
    let set-x = c in
    let at-walk = set-x in
    let from-y = at-walk in
    let from-x = from-y in
    let entry = from-x in
    let a = entry.args in
    joined_mark a.d (slots a.shape a.line.now) a.i a.j (omega (arith, entry.requires.0, length_slots a.shape a.line.now)) entry.requires.2 from-x.mark_from-x.ensures from-y.mark_from-y.ensures at-walk.shift-to.ensures
    set-x.set.ensures c.set-2.ensures
