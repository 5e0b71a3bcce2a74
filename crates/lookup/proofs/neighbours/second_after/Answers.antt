-- `lookup::neighbours::second_after` meets its contract: what was found stays, unless n has reached it. Assumes nothing.
use mathlib.Core.Path.{sym, ◌∙◌}
use native.Mathlib.Omega.{arith}
use Rattle.slots.specs.Line.{slots}
use Rattle.lookup.proofs.NeighbourLaws.{missing_moved, named_moved}
use Rattle.lookup.proofs.neighbours.second_after.Goals as goal

pub returns-in-Named : goal.returns-in-Named
returns-in-Named c =
    let a = c.args in
    named_moved (slots a.shape a.line.now) a.i a.n (omega arith) _ (sym c.in-Named.is ∙ c.requires.2) c.if-n-j.true

pub returns-in-Missing : goal.returns-in-Missing
returns-in-Missing c =
    let a = c.args in
    c.in-Missing.is ∙ missing_moved (slots a.shape a.line.now) a.i a.n (omega arith) _ (sym c.in-Missing.is ∙ c.requires.2)
