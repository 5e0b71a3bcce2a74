-- `lookup::neighbours::last_seen` meets its contract. The loop's invariant: what is asked of n is asked of j. Assumes nothing.
use mathlib.Core.Bool.{true, false}
use mathlib.Core.Path.{◌≡◌, sym, ap, ◌∙◌}
use native.Mathlib.Omega.{arith}
use Rattle.slots.specs.Line.{slots}
use Rattle.targets.proofs.SearchLaws.{nearest_turn}
use Rattle.lookup.specs.Neighbours.{or_missing, previous, seen}
use Rattle.lookup.proofs.neighbours.last_seen.Goals as goal

pub returns-then-has_flag : goal.returns-then-has_flag
returns-then-has_flag c =
    let p = seen (slots c.args.shape c.args.line.now) in
    sym (c.loop-j.invariant.1 ∙ ap (or_missing 0) (nearest_turn p c.loop-j.j (omega arith) true (sym c.has_flag.ensures ∙ c.if-has_flag.true)))

pub loop-j-preserved : goal.loop-j-preserved
loop-j-preserved c =
    let p = seen (slots c.args.shape c.args.line.now) in
    (omega arith, c.loop-j.invariant.1 ∙ ap (or_missing 0) (nearest_turn p c.loop-j.j (omega arith) false (sym c.has_flag.ensures ∙ c.if-has_flag.false)))

pub returns : goal.returns
returns c =
    let a = c.args in
    let at_start : c.loop-j.j ≡ a.i = omega arith in
    c.requires.2 ∙ sym (c.loop-j.invariant.1 ∙ ap (previous (slots a.shape a.line.now)) at_start)
