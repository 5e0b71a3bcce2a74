-- After i turns the first i slots are unattached. Assumes nothing.
use mathlib.Core.Path.{◌≡◌, refl, ap, ◌∙◌}
use Prim.Native.Nat.{ℕ}
use native.Mathlib.Omega.{arith}
use borrow.Author.Rules.{rules}
use lib.ListN.{length}
use Rattle.slots.specs.Line.{shape_with, slots, update}
use Rattle.start.specs.Start.{unattached}
use Rattle.slots.proofs.LineLaws.{length_slots, line_update}
use Rattle.start.proofs.TurnLaws.{map_to, map_to_all, map_to_more}
use Rattle.start.proofs.clear_all.Goals as goal

pub loop-i-init : goal.loop-i-init
loop-i-init g c = refl

pub loop-i-preserved : goal.loop-i-preserved
loop-i-preserved g c =
    let w = shape_with g.row.SIZE c.args.n in
    let ss = slots w c.args.line.now in
    let i = c.loop-i.i in
    line_update w c.loop-i.line i (search rules) unattached c.clear.new.slot c.clear.auto.slot c.clear.ensures
    ∙ ap (update i unattached) c.loop-i.invariant
    ∙ map_to_more unattached i ss (omega (arith, length_slots w c.args.line.now))

pub returns : goal.returns
returns g c =
    let w = shape_with g.row.SIZE c.args.n in
    let ss = slots w c.args.line.now in
    let done : c.loop-i.i ≡ length ss = omega (arith, length_slots w c.args.line.now) in
    c.loop-i.invariant ∙ ap (λ (i : ℕ). map_to unattached i ss) done ∙ map_to_all unattached ss
