-- `lookup::subtables::all_good` meets its contract: those that were passed are good, so that the rest decides. Assumes nothing.
use mathlib.Core.Path.{ap, ◌∙◌}
use Rattle.lookup.specs.Kinds.{good_for}
use Rattle.lookup.proofs.SubtableLaws.{passed_bad, passed_end, passed_inside, passed_next}
use Rattle.lookup.proofs.subtables.all_good.Goals as goal

pub split_at-requires : goal.split_at-requires
split_at-requires c = passed_inside c.loop-len.invariant c.loop-len-test.true

pub returns-then-not-is_good : goal.returns-then-not-is_good
returns-then-not-is_good c =
    passed_bad c.loop-len.invariant c.loop-len-test.true (c.is_good.ensures ∙ ap (good_for c.args.kind) c.split_at.ensures.front) c.if-not-is_good.true

pub loop-len-preserved : goal.loop-len-preserved
loop-len-preserved c =
    rw c.split_at.ensures.back (passed_next c.loop-len.invariant c.loop-len-test.true (c.is_good.ensures ∙ ap (good_for c.args.kind) c.split_at.ensures.front) c.if-not-is_good.false)

pub returns : goal.returns
returns c = passed_end c.loop-len.invariant c.loop-len-test.false
