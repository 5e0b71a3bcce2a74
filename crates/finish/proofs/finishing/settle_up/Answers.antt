-- After i turns the first i slots are settled. Assumes nothing.
use mathlib.Core.Path.{◌≡◌, refl, ap, ◌∙◌}
use Prim.Native.Nat.{ℕ}
use native.Mathlib.Omega.{arith}
use Rattle.slots.specs.Line.{slots}
use Rattle.finish_rules.specs.Finish.{settled_up}
use Rattle.finish.proofs.SettleLaws.{up_more}
use Rattle.finish.proofs.finishing.settle_up.Goals as goal

pub loop-i-init : goal.loop-i-init
unfolding settled_up
loop-i-init c = refl

pub loop-i-preserved : goal.loop-i-preserved
loop-i-preserved c =
    let a = c.args in
    up_more a.d a.limit (slots a.shape a.line.now) c.loop-i.i c.loop-i.invariant c.settle_slot.ensures

pub returns : goal.returns
returns c =
    let a = c.args in
    let all : c.loop-i.i ≡ a.shape.count = omega arith in
    c.loop-i.invariant ∙ ap (λ (i : ℕ). settled_up a.d a.limit (slots a.shape a.line.now) i) all
