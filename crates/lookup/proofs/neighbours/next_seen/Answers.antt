-- `lookup::neighbours::next_seen` meets its contract. The loop's invariant: what is asked of i is asked of j. Assumes nothing.
use mathlib.Core.Bool.{true, false}
use mathlib.Core.Path.{sym, ap, ◌∙◌}
use native.Mathlib.Omega.{arith}
use Rattle.slots.specs.Line.{slots}
use Rattle.slots.proofs.LineLaws.{length_slots}
use Rattle.answers.specs.declared.Neighbour.TheVariants.{Missing}
use Rattle.lookup.proofs.NeighbourLaws.{from_end, from_turn}
use Rattle.lookup.proofs.neighbours.next_seen.Goals as goal

pub returns-then-has_flag : goal.returns-then-has_flag
returns-then-has_flag c =
    let a = c.args in
    let many = length_slots a.shape a.line.now in
    sym (c.loop-j.invariant ∙ from_turn (slots a.shape a.line.now) c.loop-j.j (omega arith) true (sym c.if-has_flag.true ∙ c.has_flag.ensures))

pub loop-j-preserved : goal.loop-j-preserved
loop-j-preserved c =
    let a = c.args in
    let many = length_slots a.shape a.line.now in
    c.loop-j.invariant ∙ from_turn (slots a.shape a.line.now) c.loop-j.j (omega arith) false (sym c.if-has_flag.false ∙ c.has_flag.ensures)

pub returns : goal.returns
returns c =
    let a = c.args in
    let many = length_slots a.shape a.line.now in
    sym (c.loop-j.invariant ∙ from_end (slots a.shape a.line.now) c.loop-j.j (omega arith) ∙ ap Missing many)
