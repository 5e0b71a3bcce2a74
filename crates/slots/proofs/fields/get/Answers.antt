-- The four bytes at the measure's place are the measure. Assumes nothing.
use mathlib.Core.Path.{ap, ◌∙◌}
use Rattle.ints.specs.Signed.{int_at}
use Rattle.slots.specs.Fields.{measure}
use Rattle.slots.proofs.FieldLaws.{measure_get}
use Rattle.slots.proofs.fields.get.Goals as goal

pub returns : goal.returns
returns c =
    let a = c.args in
    let s = c.slot_at in
    c.read_i32.ensures ∙ ap (int_at 4 s.result.now) c.measure_at.ensures.0 ∙ measure_get a.m a.a s.result.now ∙ ap (measure a.m a.a) s.ensures.0
