-- After each turn of the loop the fields up to the next that is there are applied, and after the last turn all are. Assumes nothing.
use Prim.Native.Nat.{◌<◌}
use native.Mathlib.Omega.{arith}
use lib.ListN.{length}
use Rattle.slots.specs.Line.{slots}
use Rattle.slots.proofs.LineLaws.{length_slots}
use Rattle.values.proofs.FormatLaws.{next_set}
use Rattle.values.proofs.ValueLaws.{absent_fields, all_fields, more_fields, no_fields, record_empty, record_whole}
use Rattle.values.proofs.value.apply_value.Goals as goal

pub returns-then-r-eq0 : goal.returns-then-r-eq0
returns-then-r-eq0 c =
    let a = c.args in
    record_empty a.frame.scale.s a.frame.scale.u a.frame.direction a.r.now a.format a.i (slots a.shape a.line.now) (omega (arith, length_slots a.shape a.line.now)) c.if-r-eq0.true

pub loop-field-init : goal.loop-field-init
loop-field-init c =
    let a = c.args in
    (omega arith, no_fields a.frame.scale.s a.frame.scale.u a.frame.direction a.r.now a.format a.i (slots a.shape a.line.now))

pub loop-field-preserved : goal.loop-field-preserved
loop-field-preserved c =
    let a = c.args in
    let ss = slots a.shape a.line.now in
    let l = c.loop-field in
    let now = slots a.shape l.line in
    let next = next_set a.format l.field c.requires.1 (omega arith) in
    let inside : a.i < length ss = omega (arith, length_slots a.shape a.line.now) in (
      omega arith,
      more_fields a.frame.scale.s a.frame.scale.u a.frame.direction a.r.now a.format a.i ss _ now _ l.works _ inside
          (rw c.next_field-field.ensures.0 (absent_fields a.frame.scale.s a.frame.scale.u a.frame.direction a.r.now a.format a.i ss _ l.field now l.works inside next.2 l.invariant.1)) c.apply_field-works.ensures,
    )

pub returns : goal.returns
returns c =
    let a = c.args in
    let ss = slots a.shape a.line.now in
    let l = c.loop-field in
    let now = slots a.shape l.line in
    record_whole a.frame.scale.s a.frame.scale.u a.frame.direction a.r.now a.format a.i ss now l.works (c.requires.2 (omega arith))
    (all_fields a.frame.scale.s a.frame.scale.u a.frame.direction a.r.now a.format a.i ss l.field now l.works (omega (arith, length_slots a.shape a.line.now)) l.invariant.0 c.loop-field-test.false l.invariant.1)
