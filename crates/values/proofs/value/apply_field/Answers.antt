-- The effect says whether the field is skipped or applied. Assumes nothing.
use mathlib.Core.Path.{ap, sym, ◌∙◌}
use native.Mathlib.Omega.{arith}
use Rattle.ints.specs.Signed.{int_at}
use Rattle.slots.specs.Line.{slots}
use Rattle.values.proofs.FormatLaws.{field_in}
use Rattle.values.proofs.ValueLaws.{field_applied, field_skipped}
use Rattle.values.proofs.value.apply_field.Goals as goal

pub returns-then-not-applies : goal.returns-then-not-applies
returns-then-not-applies c =
    let a = c.args in
    field_skipped a.frame.scale.s a.frame.scale.u a.frame.direction a.r.now a.format a.field a.i (slots a.shape a.line.now) c.requires.3 c.effect_of-effect.ensures (sym c.applies.ensures ∙ c.if-not-applies.true)

pub read_i16-v-requires : goal.read_i16-v-requires
read_i16-v-requires c =
    let a = c.args in
    omega (arith, field_in a.format a.field (omega arith) c.requires.3, c.field_place.ensures)

pub returns : goal.returns
returns c =
    let a = c.args in
    let v = c.read_i16-v in
    field_applied a.frame.scale.s a.frame.scale.u a.frame.direction a.r.now a.format a.field a.i (slots a.shape a.line.now) _ _ c.requires.3 c.effect_of-effect.ensures (sym c.applies.ensures ∙ c.if-not-applies.false)
    (omega arith) (v.ensures.0 ∙ ap (int_at 2 a.r.now) c.field_place.ensures) c.of-z.ensures.0 c.apply_effect.ensures
