-- `tables::spans::ascending` meets its contract. Assumes nothing.
use mathlib.Core.Path.{◌≡◌, sym, ◌∙◌}
use Prim.Native.Nat.{◌-◌}
use native.Mathlib.Omega.{arith}
use Rattle.tables.specs.Spans.{ascends, spans_from}
use Rattle.tables.proofs.SpansLaws.{ascends_off, ascends_on}
use Rattle.tables.proofs.spans.ascending.Goals as goal

pub returns-then-first-bound : goal.returns-then-first-bound
returns-then-first-bound c =
    let ends = c.ends_of-first.ensures in
    sym (c.loop-k.invariant.1 ∙ ascends_off _ _ _ _ c.loop-k-test.true ends.first.0 ends.last.0 c.then-first-bound.either)

pub loop-k-preserved : goal.loop-k-preserved
loop-k-preserved c =
    let ends = c.ends_of-first.ensures in
    (omega arith, c.loop-k.invariant.1 ∙ ascends_on _ _ _ _ c.loop-k-test.true ends.first.0 ends.last.0 c.if-first-bound.false c.if-last-first.false)

pub returns : goal.returns
unfolding ascends spans_from
returns c =
    let e : c.args.count - c.loop-k.k ≡ 0 = omega arith in
    sym (rw e at c.loop-k.invariant.1)
