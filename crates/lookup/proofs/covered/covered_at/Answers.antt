-- The slot's glyph in this subtable decides. Assumes nothing.
use mathlib.Core.Path.{ap, ◌∙◌}
use native.Mathlib.Omega.{arith}
use borrow.Author.Rules.{rules}
use Prim.Native.Nat.{◌<◌}
use lib.ListN.{length}
use Rattle.slots.specs.Line.{slots}
use Rattle.slots.proofs.LineLaws.{length_slots}
use Rattle.lookup.specs.code.Covered.{cover_of}
use Rattle.lookup.proofs.CoveredLaws.{found_here, not_here}
use Rattle.lookup.proofs.covered.covered_at.Goals as goal

pub returns-in-Some : goal.returns-in-Some
returns-in-Some c =
    let below : c.args.i < length (slots c.args.shape c.args.line.now) = omega (arith, length_slots c.args.shape c.args.line.now, c.requires.placed.0.below) in
    found_here c.loop-subtable.invariant c.loop-subtable-test.true c.requires.readable.0 below (c.cover_of.ensures ∙ ap (cover_of _) c.glyph-glyph.ensures.0) _ c.in-Some.is

pub loop-subtable-preserved : goal.loop-subtable-preserved
loop-subtable-preserved c =
    let below : c.args.i < length (slots c.args.shape c.args.line.now) = omega (arith, length_slots c.args.shape c.args.line.now, c.requires.placed.0.below) in
    not_here c.loop-subtable.invariant c.loop-subtable-test.true c.requires.readable.0 below (c.cover_of.ensures ∙ ap (cover_of _) c.glyph-glyph.ensures.0) (search rules)
