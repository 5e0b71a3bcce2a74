-- After k turns the first k advances of the part have been added to both offsets or subtracted, which are held lifted. Assumes nothing.
use mathlib.Core.Path.{refl, ap, ◌∙◌}
use native.Mathlib.Omega.{arith}
use Rattle.ints.specs.code.Saturating.{unlifted}
use Rattle.ints.specs.Sums.{stepwise}
use Rattle.slots.specs.Line.{slots}
use Rattle.slots.specs.declared.axis.Axis.TheVariants.{X, Y}
use Rattle.slots.proofs.LineLaws.{length_slots}
use Rattle.finish_rules.specs.Finish.{advances, step_by}
use Rattle.finish_rules.proofs.WalkLaws.{steps_all, steps_more}
use Rattle.finish.proofs.advances.step_all.Goals as goal

pub loop-k-init : goal.loop-k-init
unfolding stepwise
loop-k-init g c = (c.lift-x.ensures.1, c.lift-y.ensures.1, refl, refl)

pub loop-k-preserved : goal.loop-k-preserved
loop-k-preserved g c =
    let a = c.args in
    let ss = slots a.shape a.part.now in
    let f = step_by g.subtract in
    let l = c.loop-k in
    let step-x = c.requires.1.1.1 l.x c.get.result c.step-x.result l.invariant.0 (omega arith) c.step-x.ensures in
    let step-y = c.requires.1.1.1 l.y c.get-in-loop-k.result c.step-y.result l.invariant.1 (omega arith) c.step-y.ensures in (
      step-x.1,
      step-y.1,
      steps_more f (unlifted c.lift-x.result) X ss l.k (omega (arith, length_slots a.shape a.part.now)) l.invariant.2 c.get.ensures step-x.0,
      steps_more f (unlifted c.lift-y.result) Y ss l.k (omega (arith, length_slots a.shape a.part.now)) l.invariant.3 c.get-in-loop-k.ensures step-y.0,
    )

pub returns : goal.returns
returns g c =
    let a = c.args in
    let ss = slots a.shape a.part.now in
    let f = step_by g.subtract in
    let l = c.loop-k in (
      c.unlift.ensures ∙ steps_all f (unlifted c.lift-x.result) X ss l.k (omega (arith, length_slots a.shape a.part.now)) l.invariant.2
          ∙ ap (λ z. stepwise f z (advances X ss)) c.lift-x.ensures.0,
      c.unlift-2.ensures ∙ steps_all f (unlifted c.lift-y.result) Y ss l.k (omega (arith, length_slots a.shape a.part.now)) l.invariant.3
          ∙ ap (λ z. stepwise f z (advances Y ss)) c.lift-y.ensures.0,
    )
