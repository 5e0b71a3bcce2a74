-- `targets::walk::cross_offset` meets its contract. The loop's invariant: the whole answer is that of the tests that are left, from where the walk stands. Assumes nothing.
use Rattle.std.proofs.Common.{◌≡◌, ◌-◌, ◌<◌}
use Rattle.ints.specs.code.Signed.{val}
use Rattle.slots.specs.Line.{slots}
use Rattle.targets.specs.Walk.{cross_offset, cross_offset_in}
use Rattle.targets.proofs.walk.cross_offset.Given as goal

abbrev pub invariant-loop : goal.invariant-loop
invariant-loop l =
    (l.at < l.shape.count)
    × (cross_offset l.a (slots l.shape l.line) l.i ≡ cross_offset_in (l.shape.count - l.counter) l.a (slots l.shape l.line) l.at (val l.sum))
