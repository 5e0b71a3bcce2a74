-- A write of two bytes is a change of the chain. Assumes nothing.
use mathlib.Core.Path.{ap, ◌∙◌}
use native.Mathlib.Omega.{arith}
use borrow.Author.Rules.{rules}
use Rattle.ints.specs.code.Signed.{val}
use Rattle.slots.specs.Slot.{slot_of}
use Rattle.slots.specs.Fields.{with_chain}
use Rattle.slots.proofs.FieldLaws.{chain_put}
use Rattle.slots.proofs.LineLaws.{place_update, place_wide}
use Rattle.slots.proofs.fields.set_chain.Goals as goal

pub returns : goal.returns
returns c =
    let a = c.args in
    let p = c.place_of in
    let call = c.write_i16 in
    place_update a.shape a.line.now a.i (search rules) p.result.start p.result.end p.ensures.0 p.ensures.1 (with_chain (val a.v)) call.new.s call.auto.s
    (ap slot_of call.ensures ∙ chain_put (val a.v) (omega arith) _ (place_wide a.shape a.line.now a.i (search rules) p.result.start p.result.end p.ensures.0 p.ensures.1))
