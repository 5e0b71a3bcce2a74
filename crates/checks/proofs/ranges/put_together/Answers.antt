-- The bits together are those of the slots from i up. Assumes nothing.
use mathlib.Core.Bool.{◌||◌, or_comm}
use mathlib.Core.Path.{sym, ap, ap₂, ◌∙◌}
use Prim.Native.Nat.{◌-◌}
use native.Mathlib.Omega.{arith}
use borrow.Author.Rules.{rules}
use Rattle.slots.specs.Line.{shape_with, slots}
use Rattle.checks.specs.code.Ranges.{bad_fields}
use Rattle.checks.specs.Ranges.{bad_slot}
use Rattle.slots.proofs.LineLaws.{length_slots, line_get}
use Rattle.checks.proofs.RangeLaws.{or_out}
use Rattle.checks.proofs.SearchLaws.{some_here, some_none}
use Rattle.checks.proofs.ranges.put_together.Goals as goal

pub loop-i-init : goal.loop-i-init
loop-i-init g c =
    let w = shape_with g.row.SIZE c.args.n in
    sym (some_none bad_slot (slots w c.args.line.now) c.args.n (omega (arith, length_slots w c.args.line.now)))

pub loop-i-preserved : goal.loop-i-preserved
loop-i-preserved g c =
    let w = shape_with g.row.SIZE c.args.n in
    let ss = slots w c.args.line.now in
    let i = c.loop-i.i - 1 in
    let here = c.small_fields-all.ensures ∙ ap bad_slot (line_get w c.args.line.now i (search rules)) in
    or_out c.loop-i.all c.small_fields-all.result
    ∙ or_comm (bad_fields c.loop-i.all) (bad_fields c.small_fields-all.result)
    ∙ ap₂ (λ a b. a || b) here c.loop-i.invariant
    ∙ sym (some_here bad_slot ss i c.loop-i.i (omega (arith, length_slots w c.args.line.now)) (omega arith))
