-- After k turns the first k advances of the part have been added to both offsets or subtracted, which are held lifted. Assumes nothing.
use mathlib.Core.Path.{◌≡◌}
use Prim.Native.Nat.{◌<◌}
use lib.ListN.{take}
use Rattle.ints.specs.Limits.{whole32}
use Rattle.ints.specs.code.Saturating.{unlifted}
use Rattle.ints.specs.Sums.{stepwise}
use Rattle.slots.specs.Line.{slots}
use Rattle.slots.specs.declared.axis.Axis.TheVariants.{X, Y}
use Rattle.finish_rules.specs.Finish.{advances, step_by}
use Rattle.finish.proofs.advances.step_all.Given as goal

abbrev pub invariant-loop-k : goal.invariant-loop-k
invariant-loop-k g l =
    (l.x < whole32) × (l.y < whole32)
    × (unlifted l.x ≡ stepwise (step_by g.subtract) (unlifted l.initial.x) (take l.k (advances X (slots l.shape l.part))))
    × (unlifted l.y ≡ stepwise (step_by g.subtract) (unlifted l.initial.y) (take l.k (advances Y (slots l.shape l.part))))
