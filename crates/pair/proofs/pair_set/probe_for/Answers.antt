-- `pair::pair_set::probe_for` meets its contract. The loop's invariant: the whole answer is that of the records from lo up to hi, of which there are at most as
-- many as 16 bits count. Assumes nothing.
use mathlib.Core.Path.{sym}
use Prim.Native.Nat.{◌*◌, ◌≤◌}
use native.Mathlib.Nat.{mul-le-mul}
use native.Mathlib.Omega.{arith}
use Rattle.pair.specs.PairSet.{middle}
use Rattle.pair.proofs.PairSetLaws.{cut, down, hit, over, up}
use Rattle.pair.proofs.pair_set.probe_for.Goals as goal

pub returns-then-set-at : goal.returns-then-set-at
returns-then-set-at c = (sym (cut c.loop-lo.invariant.2 c.loop-lo-test.true c.if-set-at.true), tt)

pub loop-lo-preserved-then-glyph-here : goal.loop-lo-preserved-then-glyph-here
loop-lo-preserved-then-glyph-here c =
    (omega arith, omega arith, down c.loop-lo.invariant.2 c.loop-lo-test.true c.if-set-at.false (omega (arith, c.read_u16-here.ensures.0)))

pub loop-lo-preserved : goal.loop-lo-preserved
loop-lo-preserved c =
    (omega arith, omega arith, up c.loop-lo.invariant.2 c.loop-lo-test.true c.if-set-at.false (omega (arith, c.read_u16-here.ensures.0)))

pub returns-else-here-glyph : goal.returns-else-here-glyph
returns-else-here-glyph c =
    let here = c.read_u16-here.ensures.0 in
    let near : c.args.size * (middle c.loop-lo.lo c.loop-lo.hi) ≤ 2228224 = mul-le-mul {n₂ = 34} {m₂ = 65536} (omega arith) (omega arith) in
    (sym (hit c.loop-lo.invariant.2 c.loop-lo-test.true c.if-set-at.false (omega (arith, here)) (omega (arith, here))), omega (arith, near))

pub returns : goal.returns
returns c = (sym (over c.loop-lo.invariant.2 c.loop-lo-test.false), tt)
