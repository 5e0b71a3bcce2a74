-- `tables::spans::seek` meets its contract. The law of the search does the rest. Assumes nothing.
use native.Mathlib.Omega.{arith}
use Rattle.tables.proofs.SpansLaws.{here, nowhere, ascends_apart, go_down, go_up, halves_find}
use Rattle.tables.proofs.spans.seek.Goals as goal

pub loop-lo-preserved-then-glyph-first : goal.loop-lo-preserved-then-glyph-first
loop-lo-preserved-then-glyph-first c =
    go_down _ _ _ _ _ (ascends_apart _ _ 0 0 c.requires.ascending) c.loop-lo.invariant _ (omega arith) (omega arith) (omega arith)

pub loop-lo-preserved : goal.loop-lo-preserved
loop-lo-preserved c =
    go_up _ _ _ _ _ (ascends_apart _ _ 0 0 c.requires.ascending) c.loop-lo.invariant _ (omega arith) (omega arith) (omega arith)

pub returns-else-last-glyph : goal.returns-else-last-glyph
returns-else-last-glyph c =
    (halves_find _ _ _ _ c.requires.ascending (here (omega arith) (omega arith) (omega arith)), omega arith)

pub returns : goal.returns
returns c = (halves_find _ _ _ _ c.requires.ascending (nowhere c.loop-lo.invariant c.loop-lo-test.false), omega arith)
