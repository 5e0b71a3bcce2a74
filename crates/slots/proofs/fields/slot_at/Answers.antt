-- The bytes at slot i's place are slot i. Assumes nothing.
use borrow.Author.Rules.{rules}
use Rattle.slots.proofs.LineLaws.{place_get, place_wide}
use Rattle.slots.proofs.fields.slot_at.Goals as goal

pub returns : goal.returns
returns c =
    let a = c.args in
    let p = c.place_of in (
      place_get a.shape a.line.now a.i (search rules) p.result.start p.result.end p.ensures.0 p.ensures.1,
      place_wide a.shape a.line.now a.i (search rules) p.result.start p.result.end p.ensures.0 p.ensures.1,
    )
