-- The size of v, rounded, with the sign of v. Assumes nothing.
use mathlib.Core.Path.{ap, ◌∙◌}
use native.Mathlib.Omega.{arith}
use lib.IntN.{nat_abs}
use Rattle.ints.specs.code.Signed.{val}
use Rattle.ints.proofs.ScaleLaws.{minus_in, plus_in, scaled_in}
use Rattle.ints.proofs.SignedLaws.{passed}
use Rattle.ints.proofs.scale.Scale.of.Goals as goal

pub round-size-requires : goal.round-size-requires
round-size-requires c =
    let p = passed c.cast_signed-v.result c.args.v (omega arith) c.cast_signed-v.ensures in
    (omega (arith, c.unsigned_abs.ensures.value ∙ ap nat_abs p), c.args.self.in_scale)

pub returns-then-v-lt0 : goal.returns-then-v-lt0
returns-then-v-lt0 c =
    let p = passed c.cast_signed-v.result c.args.v (omega arith) c.cast_signed-v.ensures in
    let w = c.wrapping_neg in
    let n = c.round-size in
    scaled_in (val c.args.v) c.unsigned_abs.result n.result w.result c.args.self.s c.args.self.u (c.unsigned_abs.ensures.value ∙ ap nat_abs p) n.ensures
    (minus_in (val c.args.v) n.result w.result (omega arith) (omega arith) w.ensures (rw p at c.if-v-lt0.true))

pub returns-else-v-lt0 : goal.returns-else-v-lt0
returns-else-v-lt0 c =
    let p = passed c.cast_signed-v.result c.args.v (omega arith) c.cast_signed-v.ensures in
    let n = c.round-size in
    scaled_in (val c.args.v) c.unsigned_abs.result n.result n.result c.args.self.s c.args.self.u (c.unsigned_abs.ensures.value ∙ ap nat_abs p) n.ensures
    (plus_in (val c.args.v) n.result (omega arith) (rw p at c.if-v-lt0.false))
