-- A byte put into the slot's place is a change of one field. Assumes nothing.
use borrow.Author.Rules.{rules}
use Rattle.slots.specs.Fields.{with_byte}
use Rattle.slots.proofs.LineLaws.{place_update}
use Rattle.slots.proofs.fields.set_byte.Goals as goal

pub returns : goal.returns
returns c =
    let a = c.args in
    let p = c.place_of in
    let call = c.put_byte in
    place_update a.shape a.line.now a.i (search rules) p.result.start p.result.end p.ensures.0 p.ensures.1 (with_byte a.f a.n) call.new.slot call.auto.slot call.ensures
