-- A write of two bytes is a change of the glyph. Assumes nothing.
use mathlib.Core.Path.{ap, ◌∙◌}
use native.Mathlib.Omega.{arith}
use borrow.Author.Rules.{rules}
use Rattle.slots.specs.Slot.{slot_of}
use Rattle.slots.specs.Fields.{with_glyph}
use Rattle.slots.proofs.FieldLaws.{glyph_put}
use Rattle.slots.proofs.LineLaws.{place_update, place_wide}
use Rattle.slots.proofs.fields.set_glyph.Goals as goal

pub returns : goal.returns
returns c =
    let a = c.args in
    let p = c.place_of in
    let call = c.write_u16 in
    place_update a.shape a.line.now a.i (search rules) p.result.start p.result.end p.ensures.0 p.ensures.1 (with_glyph a.n) call.new.s call.auto.s
    (ap slot_of call.ensures ∙ glyph_put a.n (omega arith) _ (place_wide a.shape a.line.now a.i (search rules) p.result.start p.result.end p.ensures.0 p.ensures.1))
